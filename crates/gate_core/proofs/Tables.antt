-- A table with one more gate is a table.
use Rattle.std.proofs.Common.{ℕ, zero, suc, ◌≡◌, ◌+◌, ◌/◌, ◌<◌, ◌≤◌, ◌∷◌, ◌++◌, [], List, length, get_or, Bool, true, false, true≢false, if◌then◌else◌, refl, sym, ap, subst, ◌∙◌, arith, length-append, ⊎_elim, inl, inr}
use Rattle.std.proofs.Math.ListN.{get_or-append}
use Rattle.std.proofs.Math.Seq.{get_or-append_seam}
use Rattle.std.proofs.lemmas.Bool.{cases_lt}
use Rattle.std.proofs.lemmas.List.Folds.{list_any_at}
use Rattle.std.specs.List.{list_any}
use Rattle.indexmap.specs.IndexSet.{insert_key}
use Rattle.sat_clause.specs.Literals.{variable_of, is_complement_of}
use Rattle.gate_core.specs.declared.gate.Gate.{Gate}
use Rattle.gate_core.specs.declared.gate.Gate.TheVariants.{False, Input, And, Xor}
use Rattle.gate_core.specs.Table.{gate_at, IsVarying, IsOperand, IsGateOf, IsTable, Places}

module _ (gs : List Gate) (g : Gate) where
  at_front : (i : ℕ) → i < length gs → gate_at (gs ++ g ∷ []) i ≡ gate_at gs i
  at_front i h = get_or-append gs (g ∷ []) False i h

  at_end : gate_at (gs ++ g ∷ []) (length gs) ≡ g
  at_end = get_or-append_seam gs g [] False

  operand_kept : (i l : ℕ) → i ≤ length gs → IsOperand gs i l → IsOperand (gs ++ g ∷ []) i l
  operand_kept i l h o =
      let within : l / 2 < length gs = omega (arith, o.earlier) in
      record { earlier = o.earlier; varying = subst IsVarying (sym (at_front (variable_of l) within)) o.varying }

  gate_kept : (i : ℕ) (x : Gate) → i ≤ length gs → IsGateOf gs i x → IsGateOf (gs ++ g ∷ []) i x
  gate_kept i False h k = tt
  gate_kept i (Input n) h k = k
  gate_kept i (And a b) h k = (operand_kept i a h k.0, operand_kept i b h k.1, k.2)
  gate_kept i (Xor a b) h k = (operand_kept i a h k.0, operand_kept i b h k.1, k.2, k.3, k.4)

  module _ (table : IsTable gs) (fits : IsGateOf gs (length gs) g) (new : (i : ℕ) → i < length gs → gate_at gs i ≡ g → ⊥) where
    gates_kept : (i : ℕ) → i < length (gs ++ g ∷ []) → IsGateOf (gs ++ g ∷ []) i (gate_at (gs ++ g ∷ []) i)
    gates_kept i h = ⊎_elim
        (λ before. subst (IsGateOf (gs ++ g ∷ []) i) (sym (at_front i before)) (gate_kept i (gate_at gs i) (omega arith) (table.gates i before)))
        (λ after.
        let e : length gs ≡ i = omega (arith, length-append gs (g ∷ [])) in
        let P : ℕ → Type 0 = λ n. IsGateOf (gs ++ g ∷ []) n (gate_at (gs ++ g ∷ []) n) in
        subst P e (subst (IsGateOf (gs ++ g ∷ []) (length gs)) (sym at_end) (gate_kept (length gs) g (omega arith) fits)))
        (cases_lt i (length gs))

    distinct_kept : (i j : ℕ) → i < j → j < length (gs ++ g ∷ []) → gate_at (gs ++ g ∷ []) i ≡ gate_at (gs ++ g ∷ []) j → ⊥
    distinct_kept i j p q e = ⊎_elim
        (λ before. table.distinct i j p before (sym (at_front i (omega arith)) ∙ (e ∙ at_front j before)))
        (λ after.
        let k : j ≡ length gs = omega (arith, length-append gs (g ∷ [])) in
        new i (omega arith) (sym (at_front i (omega arith)) ∙ (e ∙ (ap (gate_at (gs ++ g ∷ [])) k ∙ at_end))))
        (cases_lt j (length gs))

    IsTable-push : IsTable (gs ++ g ∷ [])
    IsTable-push = record { gates = gates_kept; distinct = distinct_kept }

module _ (eq : Gate → Gate → Bool) (itself : (x : Gate) → eq x x ≡ true) where
  pub IsTable-insert_key : (gs : List Gate) (g : Gate) → IsTable gs → IsGateOf gs (length gs) g → IsTable (insert_key eq gs g)
  IsTable-insert_key gs g table fits = by (list_any (eq g) gs) refl
    where
      by : (b : Bool) → list_any (eq g) gs ≡ b → IsTable (insert_key eq gs g)
      by true e = subst IsTable (sym (ap (λ c. if c then gs else gs ++ g ∷ []) e)) table
      by false e = subst IsTable (sym (ap (λ c. if c then gs else gs ++ g ∷ []) e)) (IsTable-push gs g table fits (λ i h same.
          true≢false (sym (list_any_at (eq g) gs i False h (ap (eq g) same ∙ itself g)) ∙ e)))

module _ (eq : Gate → Gate → Bool) (gs : List Gate) (g : Gate) (new : List Gate) (is : new ≡ insert_key eq gs g) where
  pub placed : Places gs g new
  placed = by (list_any (eq g) gs) refl
    where
      by : (b : Bool) → list_any (eq g) gs ≡ b → Places gs g new
      by true e = inl (is ∙ ap (λ c. if c then gs else gs ++ g ∷ []) e)
      by false e = inr (is ∙ ap (λ c. if c then gs else gs ++ g ∷ []) e)
