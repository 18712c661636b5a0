use Rattle.sat_search.specs.Choice.{IsLastPlace}
use Rattle.sat_search.proofs.choice.last_place.Given as goal

abbrev pub invariant-loop-m : goal.invariant-loop-m
invariant-loop-m l = IsLastPlace l.clause l.m-index l.place l.last
