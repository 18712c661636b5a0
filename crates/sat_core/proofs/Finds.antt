use Rattle.std.proofs.Common.{ℕ, ◌≡◌, ◌+◌, ◌-◌, ◌*◌, ◌/◌, ◌^◌, ◌<◌, ◌≤◌, ◌++◌, inl, inr, List, [], ◌∷◌, map, length, get_or, take, drop, Bool, sym, ap, subst, ◌∙◌, arith}
use Rattle.std.specs.List.{Contains}
use Rattle.std.proofs.lemmas.Bool.{cases_lt}
use Rattle.std.proofs.lemmas.List.{length-map, length-drop, length-take-le, length_push, take-append-le, take_all, take_at, get_or-map, get_or-drop, get_or-take, get_or_append_left, get_or_push, get_or_default}
use Rattle.sat_clause.specs.Propagation.{clause_at}
use Rattle.sat_clause.proofs.Counting.{code, code-lt, Contains-code}
use Rattle.sat_clause.proofs.Distinct.{distinct_below}
use Rattle.sat_search.specs.Rank.{rank}
use Rattle.sat_search.proofs.Ranks.{rank-le}
use Rattle.sat_engine.specs.Look.{InRange}
use Rattle.sat_clause.specs.Propagation.{Includes}
use Rattle.sat_engine.specs.declared.trail.SetLiteral.{SetLiteral}
use Rattle.sat_engine.proofs.Trails.{IsTrail-length}
use Rattle.sat_search.specs.declared.parts.Parts.{Parts}
use Rattle.sat_search.specs.declared.turn.Turn.TheVariants.{Learnt, Moved}
use Rattle.sat_search.specs.Turn.{TurnSays}
use Rattle.sat_search.specs.State.{IsNew, word, is_choice}
use Rattle.sat_core.specs.Counts.{raised, raised_by}
use Rattle.sat_core.specs.Finding.{IsGrown}

pub IsGrown-refl : (F : List (List ℕ)) (n : ℕ) → IsGrown F F n
IsGrown-refl F n = record { longer = omega arith; front = take_all (length F) F (omega arith); new = λ j a b. absurd (omega arith) }

pub IsGrown-push : (F G : List (List ℕ)) (n : ℕ) (c : List ℕ) → IsGrown F G n → IsNew G n c → IsGrown F (G ++ c ∷ []) n
IsGrown-push F G n c g h =
    let len : length (G ++ c ∷ []) ≡ length G + 1 = length_push G c in
    let lg = g.longer in
    record {
      longer = omega arith;
      front = take-append-le (length F) G (c ∷ []) g.longer ∙ g.front;
      new = λ j a b. elim (cases_lt j (length G)) [
        | inl below ↦
            subst (λ (x : List ℕ). IsNew (take j (G ++ c ∷ [])) n x) (sym (get_or_append_left G (c ∷ []) [] j below))
            (subst (λ (x : List (List ℕ)). IsNew x n (clause_at G j)) (sym (take-append-le j G (c ∷ []) (omega arith))) (g.new j a below))
        | inr above ↦
            let e : length G ≡ j = omega arith in
            subst (λ (x : List ℕ). IsNew (take j (G ++ c ∷ [])) n x) (sym (get_or_push G c [] j e))
            (subst (λ (x : List (List ℕ)). IsNew x n c) (sym (take_at G (c ∷ []) j e)) h)
      ];
    }

-- at most 3 ^ v clauses are new
pub IsGrown-length : (F G : List (List ℕ)) (n v : ℕ) → n ≤ 2 * v → IsGrown F G n → length G ≤ length F + 3 ^ v
IsGrown-length F G n v e g =
    let k : ℕ = length F in
    let tail : List (List ℕ) = drop k G in
    let xs : List ℕ = map (code v) tail in
    let lg = g.longer in
    let len : length xs ≡ length G - k = length-map tail (code v) ∙ length-drop k G in
    let at : (i : ℕ) → i < length xs → get_or xs i 0 ≡ code v (clause_at G (k + i)) = λ i h. get_or-map (code v) tail i [] 0 (omega (arith, length-drop k G)) ∙ ap (code v) (get_or-drop k G i []) in
    let b : length xs ≤ 3 ^ v = distinct_below xs (3 ^ v)
    (λ i j lt below same.
    let ni = g.new (k + i) (omega arith) (omega arith) in
    let nj = g.new (k + j) (omega arith) (omega arith) in
    let codes : code v (clause_at G (k + j)) ≡ code v (clause_at G (k + i)) = sym (at j below) ∙ sym same ∙ at i (omega arith) in
    let before : clause_at (take (k + j) G) (k + i) ≡ clause_at G (k + i) = get_or-take (k + j) G (k + i) [] (omega arith) in
    let inc : Includes (clause_at G (k + j)) (clause_at G (k + i)) = λ m w.
    Contains-code v (clause_at G (k + j)) (clause_at G (k + i)) codes ni.apart m (fits (clause_at G (k + i)) ni.range m w) w in
    nj.none_in (k + i) (omega (arith, length-take-le (k + j) G (omega arith))) (subst (λ (x : List ℕ). Includes (clause_at G (k + j)) x) (sym before) inc))
    (λ i h. subst (λ (x : ℕ). x < 3 ^ v) (sym (at i h)) (code-lt v (clause_at G (k + i)))) in
    omega arith
  where
    fits : (c : List ℕ) → InRange c n → (m : ℕ) → Contains c m → m / 2 < v
    fits c r m w = let a : m < n = subst (λ (x : ℕ). x < n) (get_or_default c w.0 0 m w.1 ∙ w.2) (r w.0 w.1) in omega arith

-- the measure: of what can still be learnt, and then of the trail
abbrev pub left : ℕ → ℕ → ℕ → List Bool → ℕ
left v f g w = (3 ^ v - (g - f)) * (3 ^ v + 1) + rank v w

step : (m k a b : ℕ) → a ≤ k → m * (k + 1) + a < (m + 1) * (k + 1) + b
step m k a b h = omega arith

pub left-learnt : (v f g : ℕ) (w u : List Bool) → f ≤ g → g + 1 ≤ f + 3 ^ v → length u ≤ v → left v f (g + 1) u < left v f g w
left-learnt v f g w u le few len =
    let k : ℕ = 3 ^ v in
    let m : ℕ = k - (g + 1 - f) in
    let e : k - (g - f) ≡ m + 1 = omega arith in
    let h = step m k (rank v u) (rank v w) (rank-le v u len) in
    subst (λ (x : ℕ). m * (k + 1) + rank v u < x * (k + 1) + rank v w) (sym e) h

pub left-moved : (v f g : ℕ) (w u : List Bool) → rank v u < rank v w → left v f g u < left v f g w
left-moved v f g w u h = omega arith

pub grown_learnt : (A : List ℕ) (F : List (List ℕ)) (n : ℕ) (m q : Parts) → IsGrown F m.store n → length m.trail.truth.items ≡ n → TurnSays A m q Learnt → IsGrown F q.store n × (length q.store ≡ length m.store + 1)
grown_learnt A F n m q g size h =
    let c : List ℕ = h.2.0 in
    let e : q.store ≡ m.store ++ c ∷ [] = h.2.1 in
    (subst (λ (x : List (List ℕ)). IsGrown F x n) (sym e) (IsGrown-push F m.store n c g (subst (λ (x : ℕ). IsNew m.store x c) size h.2.2)), ap length e ∙ length_push m.store c)

pub grown_same : (F G H : List (List ℕ)) (n : ℕ) → H ≡ G → IsGrown F G n → IsGrown F H n
grown_same F G H n e g = subst (λ (x : List (List ℕ)). IsGrown F x n) (sym e) g

pub smaller_learnt : (A : List ℕ) (F : List (List ℕ)) (n v : ℕ) (m q : Parts) → n ≤ v → IsGrown F m.store n → length m.trail.truth.items ≡ n → TurnSays A m q Learnt
    → left v (length F) (length q.store) (word q.trail.steps.items) < left v (length F) (length m.store) (word m.trail.steps.items)
smaller_learnt A F n v m q e g size h =
    let t = grown_learnt A F n m q g size h in
    let few = IsGrown-length F q.store n v (omega arith) t.0 in
    let lg = g.longer in
    let b = IsTrail-length q.trail.steps.items q.trail.truth.items q.trail.place.items q.trail.ok in
    let sz = h.1 in
    let wl : length (word q.trail.steps.items) ≡ length q.trail.steps.items = length-map q.trail.steps.items (λ (s : SetLiteral). is_choice s.reason) in
    let len : length q.store ≡ length m.store + 1 = t.1 in
    subst (λ (x : ℕ). left v (length F) x (word q.trail.steps.items) < left v (length F) (length m.store) (word m.trail.steps.items)) (sym len)
    (left-learnt v (length F) (length m.store) (word m.trail.steps.items) (word q.trail.steps.items) lg (omega arith) (omega arith))

pub smaller_moved : (A : List ℕ) (F : List (List ℕ)) (v : ℕ) (m q : Parts) → length m.trail.truth.items ≡ v → TurnSays A m q Moved
    → left v (length F) (length q.store) (word q.trail.steps.items) < left v (length F) (length m.store) (word m.trail.steps.items)
smaller_moved A F v m q e h =
    let r : rank v (word q.trail.steps.items) < rank v (word m.trail.steps.items) = subst (λ (x : ℕ). rank x (word q.trail.steps.items) < rank x (word m.trail.steps.items)) e h.3 in
    subst (λ (x : List (List ℕ)). left v (length F) (length x) (word q.trail.steps.items) < left v (length F) (length m.store) (word m.trail.steps.items)) (sym h.2)
    (left-moved v (length F) (length m.store) (word m.trail.steps.items) (word q.trail.steps.items) r)

-- one clause more, and one ask more
pub asked_more : (f g h before now next : ℕ) → h ≡ g + 1 → f ≤ g → raised_by (g - f) before ≤ now → next ≡ raised now → raised_by (h - f) before ≤ next
asked_more f g h before now next e le k r = omega arith
