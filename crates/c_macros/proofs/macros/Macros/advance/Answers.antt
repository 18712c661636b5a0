use Rattle.std.proofs.Common.{◌<◌, length, subst}
use Rattle.c_macros.specs.Chains.{IsAhead, IsNoWord, Edge, name_at}
use Rattle.c_macros.specs.Nexts.{IsStep}
use Rattle.c_macros.specs.Tables.{macros_view}
use Rattle.c_macros.proofs.Chains.{reaches_edge}
use Rattle.c_macros.proofs.Links.{ahead_twice}
use Rattle.c_macros.proofs.macros.Macros.advance.Goals as goal

pub link-requires-clause-ahead : goal.link-requires-clause-ahead
link-requires-clause-ahead c =
    ahead_twice (macros_view c.args.self.now).defined c.args.self.now.ahead.items c.args.at c.index-ahead.result.now c.index-after.result.now
    c.requires.known.linked c.requires.place c.index-ahead.ensures c.index-after.ensures

pub returns-then-ahead-at-clause-next : goal.returns-then-ahead-at-clause-next
returns-then-ahead-at-clause-next c =
    let link : IsAhead (macros_view c.args.self.now).defined c.args.at c.index-after.result.now =
    ahead_twice (macros_view c.args.self.now).defined c.args.self.now.ahead.items c.args.at c.index-ahead.result.now c.index-after.result.now
    c.requires.known.linked c.requires.place c.index-ahead.ensures c.index-after.ensures in
    (link.within, link.no_word c.requires.no_word, link.reaches c.requires.no_word)

pub link-requires-in-Goes-clause-ahead : goal.link-requires-in-Goes-clause-ahead
link-requires-in-Goes-clause-ahead c =
    let macros = macros_view c.args.self.now in
    let D = macros.defined in
    let place = c.in-Goes.place in
    let step : (place < length D) × IsNoWord (name_at D place) × Edge D (name_at D c.args.at) (name_at D place) =
    subst (IsStep c.args.self.now.model macros (name_at D c.args.at)) c.in-Goes.is c.in_ok-place.ensures in
    record { within = step.0; reaches = λ _. reaches_edge D (name_at D c.args.at) (name_at D place) step.2; no_word = λ _. step.1 }

pub returns-in-Goes-clause-next : goal.returns-in-Goes-clause-next
returns-in-Goes-clause-next c =
    let macros = macros_view c.args.self.now in
    let D = macros.defined in
    let place = c.in-Goes.place in
    let step : (place < length D) × IsNoWord (name_at D place) × Edge D (name_at D c.args.at) (name_at D place) =
    subst (IsStep c.args.self.now.model macros (name_at D c.args.at)) c.in-Goes.is c.in_ok-place.ensures in
    (step.0, step.1, reaches_edge D (name_at D c.args.at) (name_at D place) step.2)
