use Rattle.std.proofs.Common.{ℕ, ◌≤◌, List, length, refl}
use Rattle.std.proofs.lemmas.Result.{IfOk-weaker}
use Rattle.sat_search.specs.Rank.{rank}
use Rattle.sat_search.specs.declared.parts.Parts.{Parts}
use Rattle.sat_search.specs.declared.turn.Turn.{Turn}
use Rattle.sat_search.specs.State.{word, IsState}
use Rattle.sat_search.specs.Turn.{TurnSays}
use Rattle.sat_search.proofs.States.{IsState-grow}
use Rattle.sat_search.proofs.Flips.{IsReady-make}
use Rattle.sat_search.proofs.Turns.{grow_rank, TurnSays-after}
use Rattle.sat_search.proofs.turn.turn_once.Goals as goal

pub handle_conflict-requires-clause-ready : goal.handle_conflict-requires-clause-ready
handle_conflict-requires-clause-ready c =
    let p = c.args.parts.now in
    let t = c.propagate.new.trail in
    let A : List ℕ = c.args.assumed.now in
    let state : IsState p.store A t.steps.items p.start = IsState-grow p.store A p.trail.steps.items t.steps.items p.start c.propagate.ensures.grows c.requires.ready.state in
    IsReady-make A p _ c.requires.ready state c.propagate.ensures.size c.requires.ready.range c.requires.ready.few c.requires.ready.indexed refl refl c.requires.ready.unset refl c.requires.ready.clean

pub decide-requires-clause-ready : goal.decide-requires-clause-ready
decide-requires-clause-ready c =
    let p = c.args.parts.now in
    let t = c.propagate.new.trail in
    let A : List ℕ = c.args.assumed.now in
    let state : IsState p.store A t.steps.items p.start = IsState-grow p.store A p.trail.steps.items t.steps.items p.start c.propagate.ensures.grows c.requires.ready.state in
    IsReady-make A p _ c.requires.ready state c.propagate.ensures.size c.requires.ready.range c.requires.ready.few c.requires.ready.indexed refl refl c.requires.ready.unset refl c.requires.ready.clean

pub returns-in-Ok-Some : goal.returns-in-Ok-Some
returns-in-Ok-Some c =
    let p = c.args.parts.now in
    let t = c.propagate.new.trail in
    let A : List ℕ = c.args.assumed.now in
    let m : Parts = record { store = p.store; trail = t; watches = c.propagate.new.watches; index = p.index; marks = p.marks; flags = p.flags; start = p.start; guide = p.guide } in
    let q : Parts = c.handle_conflict.new.parts in
    let sz = c.propagate.ensures.size in
    let le : rank (length p.trail.truth.items) (word t.steps.items) ≤ rank (length p.trail.truth.items) (word p.trail.steps.items) = grow_rank p.store p.trail.steps.items t.steps.items t.truth.items t.place.items (length p.trail.truth.items) c.propagate.ensures.grows t.ok sz in
    IfOk-weaker c.handle_conflict.result (λ (r : Turn). TurnSays A m q r) (λ (r : Turn). TurnSays A p q r) (λ (r : Turn) h. TurnSays-after A p m q r refl sz le h) c.handle_conflict.ensures

pub returns-in-Ok-None : goal.returns-in-Ok-None
returns-in-Ok-None c =
    let p = c.args.parts.now in
    let t = c.propagate.new.trail in
    let A : List ℕ = c.args.assumed.now in
    let m : Parts = record { store = p.store; trail = t; watches = c.propagate.new.watches; index = p.index; marks = p.marks; flags = p.flags; start = p.start; guide = p.guide } in
    let q : Parts = c.decide.new.parts in
    let sz = c.propagate.ensures.size in
    let le : rank (length p.trail.truth.items) (word t.steps.items) ≤ rank (length p.trail.truth.items) (word p.trail.steps.items) = grow_rank p.store p.trail.steps.items t.steps.items t.truth.items t.place.items (length p.trail.truth.items) c.propagate.ensures.grows t.ok sz in
    IfOk-weaker c.decide.result (λ (r : Turn). TurnSays A m q r) (λ (r : Turn). TurnSays A p q r) (λ (r : Turn) h. TurnSays-after A p m q r refl sz le h) c.decide.ensures
