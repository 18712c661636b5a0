use Rattle.std.proofs.Common.{◌≡◌, ◌<◌, ◌++◌, ◌∷◌, [], List, length, ap, refl, subst, sym, ◌∙◌, arith}
use Rattle.std.specs.declared.vec.Vec.{Vec}
use Rattle.std.specs.declared.alloc.Global.{Global}
use Rattle.std.proofs.lemmas.Result.{on_ok_weaker}
use Rattle.sat_index.specs.declared.bucket.Bucket.{Bucket}
use Rattle.sat_index.specs.declared.index.Occurrence.{Occurrence}
use Rattle.sat_index.specs.Listed.{occurrences_of, IsPut}
use Rattle.sat_index.proofs.Buckets.{IsPut-bucket, IsPut-new}
use Rattle.sat_index.proofs.index.put_into.Goals as goal
use Rattle.sat_index.proofs.index.put_into.Goals.{in-Some+in_default-get_mut, in_default}

pub returns-in-Some-get_mut : goal.returns-in-Some-get_mut
returns-in-Some-get_mut c =
    let within : c.in-Some.at < length c.args.buckets.now.items = omega (arith, c.in-Some-get_mut.ensures.variant.0 refl, c.args.buckets.now.ok.0) in
    on_ok_weaker c.put.result (IsPut-bucket c.args.buckets.now.items c.in-Some.at c.in-Some-get_mut.bucket.now c.put.new.self c.args.occurrence within c.in-Some-get_mut.ensures.value) c.put.ensures

pub returns : goal.returns
returns c =
    let same : c.match-seat.buckets.items ≡ c.args.buckets.now.items = elim c.match-seat.branch [
      | in-Some+in_default-get_mut w ↦ ap (λ (x : Vec Bucket Global). x.items) w.buckets-is
      | in_default w ↦ ap (λ (x : Vec Bucket Global). x.items) w.buckets-is
    ] in
    let one : c.put-2.new.self.occurrences.items ≡ c.args.occurrence ∷ [] = c.in_ok-put.ensures ∙ ap (λ (x : List Occurrence). x ++ c.args.occurrence ∷ []) c.new-bucket.ensures in
    let put : IsPut (occurrences_of c.match-seat.buckets.items) c.args.occurrence (occurrences_of c.push.new.self.items) = subst (λ (x : List Bucket). IsPut (occurrences_of c.match-seat.buckets.items) c.args.occurrence (occurrences_of x)) (sym c.in_ok-push.ensures.items) (IsPut-new c.match-seat.buckets.items c.put-2.new.self c.args.occurrence one) in
    subst (λ (x : List Bucket). IsPut (occurrences_of x) c.args.occurrence (occurrences_of c.push.new.self.items)) same put
