use Rattle.std.proofs.Common.{subst, sym}
use Rattle.c_values.specs.Pointing.{HasPlaces}
use Rattle.c_values.proofs.Places.{outlived_places}
use Rattle.c_values.proofs.store.Store.outlive.Goals as goal

pub invariant_of-self : goal.invariant_of-self
invariant_of-self c =
    subst (λ xs. HasPlaces xs c.self-2.inside.places.items) (sym c.outlive_all.ensures) (outlived_places c.args.living c.self-2.inside.objects.items c.self-2.inside.places.items c.self-2.invariant)
