-- A pattern of the inputs gives each variable of a table one truth.
use Rattle.std.proofs.Common.{ℕ, zero, suc, ◌≡◌, ◌+◌, ◌/◌, ◌<◌, ◌≤◌, ◌==◌, ◌&&◌, List, length, Bool, true, false, if◌then◌else◌, refl, sym, ap, subst, ◌∙◌, arith, ⊎_elim}
use Rattle.std.proofs.lemmas.Bool.{cases_lt, eq-eqb, ne_eqb}
use Rattle.kv_num.specs.Bits.{differ}
use Rattle.sat_clause.specs.Literals.{is_true, AgreeBelow}
use Rattle.sat_clause.proofs.Truths.{literal_local}
use Rattle.gate_core.specs.declared.gate.Gate.{Gate}
use Rattle.gate_core.specs.declared.gate.Gate.TheVariants.{False, Input, And, Xor}
use Rattle.gate_core.specs.Table.{gate_at, gate_value, IsGateOf, IsTable, IsInput, Agrees, OnInputs, HasTruths, HasOneTruth}

-- a gate's value is that of the variables below it
value_local : (gs : List Gate) (A B : ℕ → Bool) (i : ℕ) (g : Gate) → IsGateOf gs i g → AgreeBelow i A B → (IsInput g → A i ≡ B i) → gate_value A i g ≡ gate_value B i g
value_local gs A B i False fits same input = refl
value_local gs A B i (Input n) fits same input = input tt
value_local gs A B i (And a b) fits same input =
    ap (λ z. z && is_true A b) (literal_local i A B same a fits.0.earlier) ∙ ap (λ z. is_true B a && z) (literal_local i A B same b fits.1.earlier)
value_local gs A B i (Xor a b) fits same input =
    ap (λ z. differ z (is_true A b)) (literal_local i A B same a fits.0.earlier) ∙ ap (λ z. differ (is_true B a) z) (literal_local i A B same b fits.1.earlier)

input_value : (A : ℕ → Bool) (i : ℕ) (g : Gate) → IsInput g → gate_value A i g ≡ A i
input_value A i False h = absurd h
input_value A i (Input n) h = refl
input_value A i (And a b) h = absurd h
input_value A i (Xor a b) h = absurd h

module _ (P : ℕ → Bool) (gs : List Gate) where
  -- the truths of the first n variables; those from n on are the pattern's
  abbrev truth_of : ℕ → ℕ → Bool
  truth_of zero v = P v
  truth_of (suc n) v = if v == n then gate_value (truth_of n) n (gate_at gs n) else truth_of n v

  from_pattern : (n v : ℕ) → n ≤ v → truth_of n v ≡ P v
  from_pattern zero v h = refl
  from_pattern (suc n) v h =
      let apart : v ≡ n → ⊥ = λ (e : v ≡ n). omega arith in
      ap (λ (b : Bool). if b then gate_value (truth_of n) n (gate_at gs n) else truth_of n v) (ne_eqb v n apart) ∙ from_pattern n v (omega arith)

  at_last : (n : ℕ) → truth_of (suc n) n ≡ gate_value (truth_of n) n (gate_at gs n)
  at_last n = ap (λ (b : Bool). if b then gate_value (truth_of n) n (gate_at gs n) else truth_of n n) (eq-eqb n n refl)

  stays : (n m v : ℕ) → v < n → n ≤ m → truth_of m v ≡ truth_of n v
  stays n zero v h k = absurd (omega arith)
  stays n (suc m) v h k = ⊎_elim
      (λ below. let apart : v ≡ m → ⊥ = λ (e : v ≡ m). omega arith in
      ap (λ (b : Bool). if b then gate_value (truth_of m) m (gate_at gs m) else truth_of m v) (ne_eqb v m apart) ∙ stays n m v h (omega arith))
      (λ above. let e : suc m ≡ n = omega arith in ap (λ x. truth_of x v) e)
      (cases_lt n (suc m))

  module _ (table : IsTable gs) where
    settled : (n i : ℕ) → i < n → truth_of n i ≡ gate_value (truth_of i) i (gate_at gs i)
    settled n i h = stays (suc i) n i (omega arith) (omega arith) ∙ at_last i

    pub pattern_agrees : Agrees (truth_of (length gs)) gs
    pattern_agrees = record {
      at = λ i h.
          let e = settled (length gs) i h in
          e ∙ value_local gs (truth_of i) (truth_of (length gs)) i (gate_at gs i) (table.gates i h)
          (λ v below. sym (stays i (length gs) v below (omega arith)))
          (λ input. sym (e ∙ input_value (truth_of i) i (gate_at gs i) input));
    }

    pub pattern_on_inputs : OnInputs gs P (truth_of (length gs))
    pattern_on_inputs = record { at = λ i h input. settled (length gs) i h ∙ (input_value (truth_of i) i (gate_at gs i) input ∙ from_pattern i i (omega arith)) }

pub has_truths : (gs : List Gate) → IsTable gs → HasTruths gs
has_truths gs table P = (truth_of P gs (length gs), pattern_agrees P gs table, pattern_on_inputs P gs table)

module _ (gs : List Gate) (table : IsTable gs) (P A B : ℕ → Bool) (a : Agrees A gs) (b : Agrees B gs) (p : OnInputs gs P A) (q : OnInputs gs P B) where
  one_below : (n : ℕ) → n ≤ length gs → AgreeBelow n A B
  one_below zero h v k = absurd (omega arith)
  one_below (suc n) h v k = ⊎_elim
      (λ below. one_below n (omega arith) v below)
      (λ above.
      let e : n ≡ v = omega arith in
      subst (λ x. A x ≡ B x) e (a.at n (omega arith) ∙ (value_local gs A B n (gate_at gs n) (table.gates n (omega arith)) (one_below n (omega arith))
      (λ input. p.at n (omega arith) input ∙ sym (q.at n (omega arith) input)) ∙ sym (b.at n (omega arith)))))
      (cases_lt v n)

pub has_one_truth : (gs : List Gate) → IsTable gs → HasOneTruth gs
has_one_truth gs table P A B a b p q = one_below gs table P A B a b p q (length gs) (omega arith)
