use Rattle.std.proofs.Common.{ℕ, ◌≡◌, ◌<◌, ◌≤◌, ◌++◌, List, [], ◌∷◌, length, take, Bool, refl, sym, ap, subst, ◌∙◌, arith}
use Rattle.std.specs.List.{Contains}
use Rattle.std.proofs.lemmas.List.{length-take-le, get_or-take, take-take}
use Rattle.sat_clause.specs.Propagation.{clause_at, Conflict}
use Rattle.sat_search.specs.Rank.{rank}
use Rattle.sat_engine.specs.declared.trail.Reason.TheVariants.{Clause}
use Rattle.sat_engine.specs.declared.trail.SetLiteral.{SetLiteral}
use Rattle.sat_engine.specs.Trail.{none_step, IsSet, IsTrail}
use Rattle.sat_engine.specs.Look.{AreInRange, AreFalseBut}
use Rattle.sat_engine.proofs.Trails.{IsTrail-length}
use Rattle.sat_engine.proofs.Growing.{Grows-imply}
use Rattle.sat_search.specs.declared.parts.Parts.{Parts}
use Rattle.sat_index.specs.Listed.{IsIndexed}
use Rattle.sat_clause.specs.Propagation.{Includes}
use Rattle.sat_search.specs.State.{is_choice, word, IsState, IsReady, IsNew}
use Rattle.sat_search.specs.Repair.{IsJump}
use Rattle.sat_search.specs.Choice.{IsChoiceAt}
use Rattle.sat_search.specs.Once.{IsFlip, IsSame, OnceSays}
use Rattle.sat_search.specs.declared.once.Once.{Once}
use Rattle.sat_search.specs.declared.once.Once.TheVariants.{Refuted, Learnt, Flipped, Again}
use Rattle.sat_search.proofs.States.{IsState-cut, IsState-grow, rank-cut}

-- the state after a jump and an implied literal
pub jump_state : (F : List (List ℕ)) (A : List ℕ) (G : List (List ℕ)) (old new after : List SetLiteral) (truth : List Bool) (place : List ℕ) (start : ℕ) (c : List ℕ) (l n : ℕ) → IsState F A old start → IsJump G old new truth start c → IsTrail new truth place → n < length F → Contains (clause_at F n) l → AreFalseBut (clause_at F n) truth l
    → after ≡ new ++ record { lit = l; reason = Clause n } ∷ [] → IsState F A after start
jump_state F A G old new after truth place start c l n s j t lt has others e =
    let k : ℕ = j.cut in
    let a : IsState F A new start = subst (λ (x : List SetLiteral). IsState F A x start) (sym j.is) (IsState-cut F A old start k s j.start_le (let w = j.within in omega arith)) in
    IsState-grow F A new after start (Grows-imply F new after truth place l n t lt has others e) a

pub jump_flip : (G : List (List ℕ)) (old new after : List SetLiteral) (truth : List Bool) (start : ℕ) (c : List ℕ) (l n : ℕ) → IsJump G old new truth start c → after ≡ new ++ record { lit = l; reason = Clause n } ∷ [] → IsFlip old after
jump_flip G old new after truth start c l n j e = record {
  cut = j.cut;
  within = j.within;
  choice = j.choice;
  step = record { lit = l; reason = Clause n };
  implied = refl;
  is = e ∙ ap (λ (x : List SetLiteral). x ++ record { lit = l; reason = Clause n } ∷ []) j.is;
}

-- a flip lowers the rank
pub flip_rank : (old new : List SetLiteral) (before : List Bool) (place : List ℕ) → IsTrail old before place → IsFlip old new → rank (length before) (word new) < rank (length before) (word old)
flip_rank old new before place t f =
    let w = f.within in
    let len = IsTrail-length old before place t in
    subst (λ (x : List SetLiteral). rank (length before) (word x) < rank (length before) (word old)) (sym f.is) (rank-cut (length before) old f.cut f.step f.within f.choice f.implied (omega arith))

-- a flip of a cut trail is one of the whole
pub flip_take : (old mid new : List SetLiteral) (k : ℕ) → mid ≡ take k old → k ≤ length old → IsFlip mid new → IsFlip old new
flip_take old mid new k e le f =
    let len : length mid ≡ k = ap length e ∙ length-take-le k old le in
    let w = f.within in
    record {
      cut = f.cut;
      within = omega arith;
      choice = ap (λ (x : SetLiteral). is_choice x.reason) (sym (get_or-take k old f.cut none_step (omega arith))) ∙ subst (λ (x : List SetLiteral). IsChoiceAt x f.cut) e f.choice;
      step = f.step;
      implied = f.implied;
      is = f.is ∙ ap (λ (x : List SetLiteral). x ++ f.step ∷ []) (ap (take f.cut) e ∙ take-take f.cut k old (omega arith));
    }

pub jump_length : (G : List (List ℕ)) (old new : List SetLiteral) (truth : List Bool) (start : ℕ) (c : List ℕ) → IsJump G old new truth start c → (length new < length old) × (new ≡ take (length new) old)
jump_length G old new truth start c j =
    let w = j.within in
    let len : length new ≡ j.cut = ap length j.is ∙ length-take-le j.cut old (omega arith) in
    (omega arith, j.is ∙ ap (λ (x : ℕ). take x old) (sym len))

-- what is ready stays so
pub IsReady-make : (A : List ℕ) (p q : Parts) → IsReady A p → IsState q.store A q.trail.steps.items q.start → length q.trail.truth.items ≡ length p.trail.truth.items → AreInRange q.store (length p.trail.truth.items) → length q.store < 4294967296 → IsIndexed q.store q.index → length q.index ≡ length p.index
    → length q.flags.items ≡ length p.flags.items → ((m : ℕ) → IsSet q.flags.items m → ⊥) → length q.marks.items ≡ length p.marks.items → ((v : ℕ) → IsSet q.marks.items v → ⊥) → IsReady A q
IsReady-make A p q r s size range few ix lists flags unset marks clean = record {
  state = s;
  range = subst (λ (x : ℕ). AreInRange q.store x) (sym size) range;
  few = few;
  indexed = ix;
  lists = lists ∙ r.lists ∙ sym size;
  flags = flags ∙ r.flags ∙ sym size;
  unset = unset;
  marks = let d = r.marks in omega arith;
  clean = clean;
  small = let d = r.small in omega arith;
}

-- literals of a clause that another contains
pub others_in : (c d : List ℕ) (truth : List Bool) (l : ℕ) → Includes c d → AreFalseBut c truth l → AreFalseBut d truth l
others_in c d truth l inc others m w ne = others m (inc m w) ne

-- what is said of a cut trail's repair holds of the whole trail's
pub OnceSays-take : (A : List ℕ) (p m q : Parts) (r : Once) → IsSame p m → m.store ≡ p.store → m.trail.steps.items ≡ take (length m.trail.steps.items) p.trail.steps.items → length m.trail.steps.items ≤ length p.trail.steps.items → OnceSays A m q r → OnceSays A p q r
OnceSays-take A p m q Refuted s e f le h = (subst (λ (x : List (List ℕ)). Conflict x A) e h.0, h.1, record { size = h.2.size ∙ s.size }, h.3 ∙ e)
OnceSays-take A p m q Learnt s e f le h = (h.0, h.1 ∙ s.size, (h.2.0, h.2.1 ∙ ap (λ (x : List (List ℕ)). x ++ h.2.0 ∷ []) e, subst (λ (x : List (List ℕ)). IsNew x (length p.trail.truth.items) h.2.0) e (subst (λ (x : ℕ). IsNew m.store x h.2.0) s.size h.2.2)))
OnceSays-take A p m q Flipped s e f le h = (h.0, h.1 ∙ s.size, h.2 ∙ e, flip_take p.trail.steps.items m.trail.steps.items q.trail.steps.items (length m.trail.steps.items) f le h.3)
OnceSays-take A p m q (Again n) s e f le h =
    let shorter = h.5 in (
      h.0,
      record { size = h.1.size ∙ s.size },
      h.2 ∙ e,
      h.3,
      h.4,
      omega arith,
      h.6 ∙ ap (take (length q.trail.steps.items)) f ∙ take-take (length q.trail.steps.items) (length m.trail.steps.items) p.trail.steps.items (omega arith),
    )
