use Rattle.std.proofs.Common.{◌≡◌, ◌++◌, ◌∷◌, ◌<◌, [], length, false, None, nat_eq, map, sym, ap, ◌∙◌, arith, subst, get_or}
use Rattle.std.specs.List.{list_any}
use Rattle.std.specs.Option.{is_some}
use Rattle.std.proofs.lemmas.Bool.{eqb-true}
use Rattle.std.proofs.lemmas.List.{get_or_read, map-append}
use Rattle.std.proofs.lemmas.List.Quantifiers.{position-Some}
use Rattle.c_macros.specs.Chains.{Becomes, IsNoWord, Edge, name_at, text_at}
use Rattle.c_macros.specs.Nexts.{IsStep}
use Rattle.c_macros.specs.Tables.{macros_view}
use Rattle.c_macros.proofs.Chains.{reaches_becomes, unmet, unmet_less}
use Rattle.c_macros.proofs.Trails.{IsWalk, walk_begins, walk_goes, walk_returns, met_name, insert_new}
use Rattle.c_macros.proofs.macros.Macros.walk.Goals as goal

pub chain-init : goal.chain-init
chain-init c =
    let D = (macros_view c.args.self.now).defined in
    subst (λ over. IsWalk D c.args.first over c.args.first) (sym c.new-over.ensures.empty) (walk_begins D c.args.first c.requires.place c.requires.no_word)

pub chain-preserved : goal.chain-preserved
chain-preserved c =
    let macros = macros_view c.args.self.now in
    let D = macros.defined in
    let over = c.chain.over.keys in
    let at = c.chain.at in
    let place = c.in-Goes.place in
    let walk = c.chain.invariant in
    let step : (place < length D) × IsNoWord (name_at D place) × Edge D (name_at D at) (name_at D place) =
    subst (IsStep c.args.self.now.model macros (name_at D at)) c.in-Goes.is c.in_ok-place.ensures in
    let new : list_any (nat_eq at) over ≡ false = sym c.in_default.ensures.found in
    let new_name = met_name D c.requires.known.linked.unique at walk.way.within over (λ k less. (walk.way.trail k less).0) ∙ new in
    let pushed : c.insert.new.self.keys ≡ over ++ at ∷ [] = c.in_ok-insert-in-Goes.ensures.keys ∙ insert_new over at new in
    subst (λ o. IsWalk D c.args.first o place) (sym pushed) (walk_goes D c.args.first over at place walk new_name step.0 step.1 step.2)

pub chain-smaller : goal.chain-smaller
chain-smaller c =
    let macros = macros_view c.args.self.now in
    let D = macros.defined in
    let over = c.chain.over.keys in
    let at = c.chain.at in
    let walk = c.chain.invariant in
    let new : list_any (nat_eq at) over ≡ false = sym c.in_default.ensures.found in
    let new_name = met_name D c.requires.known.linked.unique at walk.way.within over (λ k less. (walk.way.trail k less).0) ∙ new in
    let pushed : c.insert.new.self.keys ≡ over ++ at ∷ [] = c.in_ok-insert-in-Goes.ensures.keys ∙ insert_new over at new in
    subst (λ o. unmet D (map (name_at D) o) < unmet D (map (name_at D) over)) (sym pushed)
    (subst (λ m. unmet D m < unmet D (map (name_at D) over)) (sym (map-append (name_at D) over (at ∷ [])))
    (unmet_less D (map (name_at D) over) (name_at D at) (text_at D at) (c.requires.known.linked.texts at walk.way.within) new_name))

pub returns-in-Some : goal.returns-in-Some
returns-in-Some c =
    let D = (macros_view c.args.self.now).defined in
    let over = c.chain.over.keys in
    let at = c.chain.at in
    let walk = c.chain.invariant in
    let found = position-Some (nat_eq at) over c.in-Some.from 0 (sym c.in-Some.ensures.index) in
    let again = met_name D c.requires.known.linked.unique at walk.way.within over (λ k less. (walk.way.trail k less).0) ∙ sym c.in-Some.ensures.found in
    (walk.way, found.0, sym (eqb-true at (get_or over c.in-Some.from 0) found.1), walk_returns D c.args.first over at walk again)

pub returns-in-Ends : goal.returns-in-Ends
returns-in-Ends c =
    let macros = macros_view c.args.self.now in
    let at = c.chain.at in
    let here : Becomes c.args.self.now.model macros (name_at macros.defined at) c.in-Ends.kind =
    subst (IsStep c.args.self.now.model macros (name_at macros.defined at)) c.in-Ends.is c.in_ok-place.ensures in
    reaches_becomes c.args.self.now.model macros (name_at macros.defined c.args.first) (name_at macros.defined at) c.in-Ends.kind c.chain.invariant.reaches here

pub returns : goal.returns
returns c =
    let D = (macros_view c.args.self.now).defined in
    let marks = c.args.self.now.returns.items in
    let within = c.chain.invariant.way.within in
    let count = c.requires.known.marked.are_returns.count in
    let inside : c.chain.at < length marks = omega arith in
    let here = get_or_read marks _ _ inside c.index.ensures None in
    (c.chain.invariant.way, sym (ap is_some here) ∙ c.chain-test.ensures)
