use Rattle.std.proofs.Common.{◌<◌, length, ◌∙◌, sym, ap, subst}
use Rattle.c_macros.specs.Chains.{Becomes, IsNoWord, Reaches, name_at}
use Rattle.c_macros.specs.Nexts.{IsNext}
use Rattle.c_macros.specs.Tables.{IsKnown, macros_view}
use Rattle.c_macros.proofs.Chains.{reaches_becomes, reaches_join}
use Rattle.c_macros.proofs.macros.Macros.end_from.Goals as goal
use Rattle.c_macros.proofs.macros.Macros.end_from.Goals.{else-loop-turn-test, then-loop-turn-test+else-is_some+in_ok-insert+else-not-branch+in_ok-place+in-Goes+else-turn-turn-end}

pub returns-in-Ends-clause-kind : goal.returns-in-Ends-clause-kind
returns-in-Ends-clause-kind c =
    let macros = macros_view c.args.self.now in
    let at = c.loop-turn.at in
    let kind = c.in-Ends.kind in
    let next : Becomes c.loop-turn.self.model (macros_view c.loop-turn.self) (name_at (macros_view c.loop-turn.self).defined at) kind =
    subst (IsNext c.loop-turn.self.model (macros_view c.loop-turn.self) (name_at (macros_view c.loop-turn.self).defined at)) c.in-Ends.is c.in_ok-place.ensures.next in
    let here : Becomes c.args.self.now.model macros (name_at macros.defined at) kind =
    subst (λ m. Becomes m macros (name_at macros.defined at) kind) c.loop-turn.invariant.5
    (subst (λ n. Becomes c.loop-turn.self.model n (name_at n.defined at) kind) c.loop-turn.invariant.3 next) in
    reaches_becomes c.args.self.now.model macros (name_at macros.defined c.args.first) (name_at macros.defined at) kind c.loop-turn.invariant.2 here

pub loop-turn-preserved : goal.loop-turn-preserved
loop-turn-preserved c =
    let macros = macros_view c.args.self.now in
    let at = c.loop-turn.at in
    let place = c.in-Goes.place in
    let next : (place < length (macros_view c.loop-turn.self).defined) × IsNoWord (name_at (macros_view c.loop-turn.self).defined place)
    × Reaches (macros_view c.loop-turn.self).defined (name_at (macros_view c.loop-turn.self).defined at) (name_at (macros_view c.loop-turn.self).defined place) =
    subst (IsNext c.loop-turn.self.model (macros_view c.loop-turn.self) (name_at (macros_view c.loop-turn.self).defined at)) c.in-Goes.is c.in_ok-place.ensures.next in
    let here : (place < length macros.defined) × IsNoWord (name_at macros.defined place) × Reaches macros.defined (name_at macros.defined at) (name_at macros.defined place) =
    subst (λ n. (place < length n.defined) × IsNoWord (name_at n.defined place) × Reaches n.defined (name_at n.defined at) (name_at n.defined place)) c.loop-turn.invariant.3 next in (
      here.0,
      here.1,
      reaches_join macros.defined (name_at macros.defined c.args.first) (name_at macros.defined at) (name_at macros.defined place) c.loop-turn.invariant.2 here.2,
      c.advance.ensures.macros ∙ c.loop-turn.invariant.3,
      c.advance.ensures.known,
      c.advance.ensures.model ∙ c.loop-turn.invariant.5,
    )

pub returns-clause-macros : goal.returns-clause-macros
returns-clause-macros c =
    elim c.loop-turn-test.branch [
      | else-loop-turn-test w ↦ ap macros_view w.self-is ∙ c.loop-turn.invariant.3
      | then-loop-turn-test+else-is_some+in_ok-insert+else-not-branch+in_ok-place+in-Goes+else-turn-turn-end w ↦ ap macros_view w.self-is ∙ (w.advance.ensures.macros ∙ c.loop-turn.invariant.3)
    ]

pub returns-clause-known : goal.returns-clause-known
returns-clause-known c =
    elim c.loop-turn-test.branch [
      | else-loop-turn-test w ↦ subst IsKnown (sym w.self-is) c.loop-turn.invariant.4
      | then-loop-turn-test+else-is_some+in_ok-insert+else-not-branch+in_ok-place+in-Goes+else-turn-turn-end w ↦ subst IsKnown (sym w.self-is) w.advance.ensures.known
    ]

pub returns-clause-model : goal.returns-clause-model
returns-clause-model c =
    elim c.loop-turn-test.branch [
      | else-loop-turn-test w ↦ ap (λ s. s.model) w.self-is ∙ c.loop-turn.invariant.5
      | then-loop-turn-test+else-is_some+in_ok-insert+else-not-branch+in_ok-place+in-Goes+else-turn-turn-end w ↦ ap (λ s. s.model) w.self-is ∙ (w.advance.ensures.model ∙ c.loop-turn.invariant.5)
    ]
