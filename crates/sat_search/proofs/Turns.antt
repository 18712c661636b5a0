use Rattle.std.proofs.Common.{ℕ, ◌≡◌, ◌≢◌, ◌<◌, ◌≤◌, ◌⊎◌, ◌++◌, inl, inr, List, [], ◌∷◌, length, get_or, drop, Bool, true, false, sym, ap, subst, ◌∙◌, arith}
use Rattle.std.specs.List.{Contains}
use Rattle.std.proofs.lemmas.List.{get_or_read, append-nil, length-map, map-append, take-append-drop, get_or_default}
use Rattle.sat_clause.specs.Literals.{complement_of}
use Rattle.sat_clause.specs.Propagation.{Derived, given, Refuted}
use Rattle.sat_search.specs.Rank.{rank}
use Rattle.sat_clause.proofs.Propagation.{Refuted-both}
use Rattle.sat_search.proofs.Ranks.{rank-more}
use Rattle.sat_engine.specs.declared.trail.Reason.TheVariants.{Free}
use Rattle.sat_engine.specs.declared.trail.SetLiteral.{SetLiteral}
use Rattle.sat_engine.specs.Trail.{IsSet, IsTrail, reason_at}
use Rattle.sat_engine.specs.Look.{InRange, AreFalse}
use Rattle.sat_engine.specs.Grow.{Grows}
use Rattle.sat_engine.proofs.Trails.{IsTrail-length}
use Rattle.sat_engine.proofs.Growing.{Before-set}
use Rattle.sat_search.specs.declared.parts.Parts.{Parts}
use Rattle.sat_search.specs.State.{is_choice, word, IsState, IsNew}
use Rattle.sat_search.specs.declared.turn.Turn.{Turn}
use Rattle.sat_search.specs.declared.turn.Turn.TheVariants.{Met, Refuted as Failed, Learnt, Moved}
use Rattle.sat_search.specs.Turn.{TurnSays}
use Rattle.sat_search.proofs.States.{Derived-trail}

f : SetLiteral → Bool
f s = is_choice s.reason

more : (n : ℕ) (xs ys : List SetLiteral) → length (xs ++ ys) ≤ n → rank n (word (xs ++ ys)) ≤ rank n (word xs)
more n xs [] h = let e : word (xs ++ []) ≡ word xs = ap word (append-nil xs) in subst (λ (x : List Bool). rank n x ≤ rank n (word xs)) (sym e) (omega arith)
more n xs (y ∷ ys) h =
    let g = λ (s : SetLiteral). is_choice s.reason in
    let e : word (xs ++ y ∷ ys) ≡ word xs ++ is_choice y.reason ∷ word ys = map-append g xs (y ∷ ys) in
    let len : length (word xs ++ is_choice y.reason ∷ word ys) ≡ length (xs ++ y ∷ ys) = ap length (sym e) ∙ length-map (xs ++ y ∷ ys) g in
    let r = rank-more n (word xs) (is_choice y.reason) (word ys) (omega arith) in
    subst (λ (x : List Bool). rank n x ≤ rank n (word xs)) (sym e) (omega arith)

pub push_rank : (xs ys : List SetLiteral) (s : SetLiteral) (truth : List Bool) (place : List ℕ) (n : ℕ) → ys ≡ xs ++ s ∷ [] → IsTrail ys truth place → length truth ≡ n → rank n (word ys) < rank n (word xs)
push_rank xs ys s truth place n e t room =
    let g = λ (x : SetLiteral). is_choice x.reason in
    let w : word (xs ++ s ∷ []) ≡ word xs ++ is_choice s.reason ∷ [] = map-append g xs (s ∷ []) in
    let len : length (word xs ++ is_choice s.reason ∷ []) ≡ length ys = ap length (sym w) ∙ length-map (xs ++ s ∷ []) g ∙ ap length (sym e) in
    let b = IsTrail-length ys truth place t in
    let r = rank-more n (word xs) (is_choice s.reason) [] (omega arith) in
    subst (λ (x : List SetLiteral). rank n (word x) < rank n (word xs)) (sym e) (subst (λ (x : List Bool). rank n x < rank n (word xs)) (sym w) r)

pub grow_rank : (F : List (List ℕ)) (xs ys : List SetLiteral) (truth : List Bool) (place : List ℕ) (n : ℕ) → Grows F xs ys → IsTrail ys truth place → length truth ≡ n → rank n (word ys) ≤ rank n (word xs)
grow_rank F xs ys truth place n g t room =
    let b = IsTrail-length ys truth place t in
    let e : xs ++ drop (length xs) ys ≡ ys = ap (λ (x : List SetLiteral). x ++ drop (length xs) ys) (sym g.front) ∙ take-append-drop (length xs) ys in
    let r = more n xs (drop (length xs) ys) (omega (arith, ap length e)) in
    subst (λ (x : List SetLiteral). rank n (word x) ≤ rank n (word xs)) e r

-- a false assumption refutes them
pub refuted_by : (F : List (List ℕ)) (A : List ℕ) (steps : List SetLiteral) (truth : List Bool) (place : List ℕ) (start a : ℕ) → IsTrail steps truth place → IsState F A steps start → Contains A a → (IsSet truth a → ⊥) → IsSet truth (complement_of a) → Refuted F A
refuted_by F A steps truth place start a t s w off on =
    let b = Before-set steps truth place t (complement_of a) on in
    let free : (j : ℕ) → start ≤ j → j < length steps → reason_at steps j ≢ Free = λ j h lt e.
    let k = s.free j lt e a w in
    off (subst (λ (x : ℕ). IsSet truth x) k.2 (t.on k.0 (omega (arith, k.1))).1) in
    let d : Derived F A (complement_of a) = subst (λ (x : ℕ). Derived F A x) b.2 (Derived-trail F A steps start (length steps) s free b.0 b.1 b.1) in
    Refuted-both F A a (given a w) d

-- a clause with no true literal is false where each variable is set
pub false_where_full : (c : List ℕ) (truth : List Bool) → InRange c (length truth) → ((l : ℕ) → l < length truth → IsSet truth l ⊎ IsSet truth (complement_of l)) → ((m : ℕ) → Contains c m → IsSet truth m → ⊥) → AreFalse c truth
false_where_full c truth range full none m w =
    let lt : m < length truth = subst (λ (x : ℕ). x < length truth) (get_or_default c w.0 0 m w.1 ∙ w.2) (range w.0 w.1) in
    elim (full m lt) [ inl a ↦ absurd (none m w a) | inr b ↦ b ]

-- what reading a place as true says
pub on_read : (truth : List Bool) (l i : ℕ) (b : Bool) → i < length truth → i ≡ l → b ≡ get_or truth i b → b ≡ true → IsSet truth l
on_read truth l i b lt e r is = subst (λ (x : ℕ). IsSet truth x) e (sym (get_or_read truth i b lt r false) ∙ is)

pub TurnSays-after : (A : List ℕ) (p m q : Parts) (r : Turn) → m.store ≡ p.store → length m.trail.truth.items ≡ length p.trail.truth.items
    → rank (length p.trail.truth.items) (word m.trail.steps.items) ≤ rank (length p.trail.truth.items) (word p.trail.steps.items) → TurnSays A m q r → TurnSays A p q r
TurnSays-after A p m q Met e size le h = (h.0 ∙ e, h.1, h.2 ∙ size, h.3, h.4)
TurnSays-after A p m q Failed e size le h = (h.0 ∙ e, h.1, h.2 ∙ size, h.3)
TurnSays-after A p m q Learnt e size le h = (h.0, h.1 ∙ size, (h.2.0, h.2.1 ∙ ap (λ (x : List (List ℕ)). x ++ h.2.0 ∷ []) e, subst (λ (x : List (List ℕ)). IsNew x (length p.trail.truth.items) h.2.0) e (subst (λ (x : ℕ). IsNew m.store x h.2.0) size h.2.2)))
TurnSays-after A p m q Moved e size le h =
    let g : rank (length p.trail.truth.items) (word q.trail.steps.items) < rank (length p.trail.truth.items) (word m.trail.steps.items) = subst (λ (x : ℕ). rank x (word q.trail.steps.items) < rank x (word m.trail.steps.items)) size h.3 in
    (h.0, h.1 ∙ size, h.2 ∙ e, omega arith)
