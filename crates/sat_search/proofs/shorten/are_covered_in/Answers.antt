use Rattle.std.proofs.Common.{ℕ, ◌*◌, List, length, refl, sym, subst}
use Rattle.sat_clause.specs.Propagation.{clause_at}
use Rattle.sat_engine.specs.Look.{InRange}
use Rattle.sat_search.proofs.StepReads.{AreCovered-at}
use Rattle.sat_search.proofs.shorten.are_covered_in.Goals as goal

pub are_covered-requires-clause-range : goal.are_covered-requires-clause-range
are_covered-requires-clause-range c = subst (λ (x : List ℕ). InRange x (2 * length c.args.place.now)) (sym c.get.ensures) c.requires.range

pub are_covered-requires-clause-room : goal.are_covered-requires-clause-room
are_covered-requires-clause-room c = subst (λ (x : List ℕ). InRange x (2 * length c.args.marks.now)) (sym c.get.ensures) c.requires.room

pub returns : goal.returns
returns c = λ yes. AreCovered-at c.get.result.now (clause_at c.args.store.now c.args.number) c.args.place.now c.args.place.now c.args.start c.args.skip c.args.skip c.args.marks.now c.get.ensures refl refl (c.are_covered.ensures yes)
