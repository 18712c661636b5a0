use Rattle.std.proofs.Common.{rules, arith, ◌≡◌, ◌≤◌, ◌<◌, ◌+◌, ◌^◌, ℕ, Bool, List, length, true, false, refl, sym, subst, ◌∙◌, if◌then◌else◌}
use Rattle.std.proofs.lemmas.Grind.{common_steps}
use Rattle.std.proofs.lemmas.Option.{slice_get_within, get_or_from_slice_get}
use Rattle.gate_core.specs.declared.gate.Gate.{Gate}
use Rattle.gate_core.specs.declared.gate.Gate.TheVariants.{False, Input, And, Xor}
use Rattle.gate_core.specs.contracts.gate.GatePartialEq.TheImpl.{eq-value}
use Rattle.gate_core.specs.Table.{IsTable, IsGateOf, Places}
use Rattle.gate_core.proofs.Tables.{IsTable-insert_key, placed}
use Rattle.gate_core.proofs.table.Gates.place.Goals as goal

itself : (x : Gate) → eq-value.it x x ≡ true
itself False = refl
itself (Input n) = grind (arith, common_steps)
itself (And a b) = grind (arith, common_steps)
itself (Xor a b) = grind (arith, common_steps)

same : (x y : Gate) → eq-value.it x y ≡ true → x ≡ y
same x y e = search rules

one_more : (b : Bool) (n m : ℕ) → m ≡ n + (if b then 1 else 0) → n < 2 ^ 40 → m ≤ 2 ^ 40
one_more true n m e h = omega arith
one_more false n m e h = omega arith

pub invariant_of-self-2 : goal.invariant_of-self-2
invariant_of-self-2 c =
    let e : c.args.self.now ≡ c.self.inside.gates.keys = cc in
    let P : List Gate → Type 0 = λ gs. IsGateOf gs (length gs) c.args.gate in (
      subst IsTable (sym c.in_ok-at.ensures.keys) (IsTable-insert_key eq-value.it itself c.self.inside.gates.keys c.args.gate c.self.invariant.0 (subst P e c.requires)),
      one_more c.in_ok-at.field-0-1 _ _ c.in_ok-at.ensures.len (omega arith),
    )

pub returns-clause-stored : goal.returns-clause-stored
returns-clause-stored c =
    let h = c.in_ok-at.ensures.stored in
    let k = same c.args.gate h.0 h.2 in
    let bound : length c.insert_full.new.self.keys ≤ 2 ^ 40 = one_more c.in_ok-at.field-0-1 _ _ c.in_ok-at.ensures.len (omega arith) in
    let within : c.in_ok-at.at < length c.insert_full.new.self.keys = slice_get_within c.insert_full.new.self.keys c.in_ok-at.at h.0 h.1 in
    (within, omega arith, get_or_from_slice_get c.insert_full.new.self.keys c.in_ok-at.at h.0 False h.1 ∙ sym k)

pub returns-clause-added : goal.returns-clause-added
returns-clause-added c =
    let e : c.args.self.now ≡ c.self.inside.gates.keys = cc in
    let P : List Gate → Type 0 = λ gs. Places gs c.args.gate c.insert_full.new.self.keys in
    subst P (sym e) (placed eq-value.it c.self.inside.gates.keys c.args.gate _ c.in_ok-at.ensures.keys)
