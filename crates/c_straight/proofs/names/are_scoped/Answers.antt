use Rattle.std.proofs.Common.{ℕ, List, Bor, subst, sym}
use Rattle.c_straight.specs.Names.{IsScoped}
use Rattle.c_straight.specs.Scope.{in_scope}
use Rattle.c_straight.proofs.InScope.{clash}
use Rattle.c_straight.proofs.InScope.{step_scoped, step_unscoped}
use Rattle.c_straight.proofs.names.are_scoped.Goals as goal

pub returns-then-not-is_scoped : goal.returns-then-not-is_scoped
returns-then-not-is_scoped c =
    let P : List (Bor (List ℕ)) → Type 0 = λ names. IsScoped (in_scope names) c.item-item.result in (
      λ is. absurd (cc),
      λ all. absurd
          (step_unscoped (in_scope c.items.names.items) c.args.items.now c.items.item-index c.item-item.result c.items-test.true c.item-item.is
          (λ scoped. clash c.is_scoped.result (c.is_scoped.ensures.1 (subst P (sym c.as_slice.ensures.value) scoped)) c.if-not-is_scoped.true) c.items.invariant all),
    )

pub items-preserved : goal.items-preserved
items-preserved c =
    let P : List (Bor (List ℕ)) → Type 0 = λ names. IsScoped (in_scope names) c.item-item.result in
    step_scoped (in_scope c.items.names.items) (in_scope c.declare.new.names.items) c.args.items.now c.items.item-index c.item-item.result c.items-test.true c.item-item.is
    (subst P c.as_slice.ensures.value (c.is_scoped.ensures.0 c.if-not-is_scoped.false)) c.in_ok-declare.ensures c.items.invariant
