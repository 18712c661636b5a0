use Rattle.std.proofs.Common.{ℕ, ◌≡◌, ◌<◌, [], List, map, get_or, set, length, ap, subst, sym, ◌∙◌, arith}
use Rattle.std.specs.declared.vec.Vec.{Vec}
use Rattle.std.specs.declared.alloc.Global.{Global}
use Rattle.std.proofs.lemmas.List.{map-set, get_or-map, get_or-set_same, length-map}
use Rattle.std.proofs.lemmas.Result.{on_ok_weaker}
use Rattle.sat_index.specs.declared.bucket.Bucket.{Bucket}
use Rattle.sat_index.specs.declared.index.Occurrence.{Occurrence}
use Rattle.sat_index.specs.Listed.{occurrences_of, IsPut}
use Rattle.sat_index.proofs.index.Index.put.Goals as goal

abbrev items_of : Vec Bucket Global → List Occurrence
items_of v = occurrences_of v.items

module _ (xs : List (Vec Bucket Global)) (l : ℕ) (new : Vec Bucket Global) (lt : l < length xs) where
  here : get_or (map items_of (set xs l new)) l [] ≡ items_of new
  here = ap (λ (x : List (List Occurrence)). get_or x l []) (map-set items_of xs l new) ∙ get_or-set_same (map items_of xs) l (items_of new) [] (let long = length-map xs items_of in omega arith)

  others : map items_of (set xs l new) ≡ set (map items_of xs) l (get_or (map items_of (set xs l new)) l [])
  others = map-set items_of xs l new ∙ ap (set (map items_of xs) l) (sym here)

  put : (old : Vec Bucket Global) (n : Occurrence) → old ≡ get_or xs l old → IsPut (items_of old) n (items_of new) → IsPut (get_or (map items_of xs) l []) n (get_or (map items_of (set xs l new)) l [])
  put old n e h =
      let was : get_or (map items_of xs) l [] ≡ items_of old = get_or-map items_of xs l old [] lt ∙ ap items_of (sym e) in
      subst (λ (x : List Occurrence). IsPut x n (get_or (map items_of (set xs l new)) l [])) (sym was) (subst (IsPut (items_of old) n) (sym here) h)

pub returns-clause-put : goal.returns-clause-put
returns-clause-put c =
    let old : List (Vec Bucket Global) = c.self.inside.lists.items in
    let within : c.args.lit < length old = omega (arith, c.requires, ap length c.self.view_is, length-map old items_of) in
    rw (← c.self.view_is) (on_ok_weaker c.put_into.result (put old c.args.lit c.put_into.new.buckets within c.index_mut.result.now c.args.occurrence c.index_mut.ensures.value) c.put_into.ensures)

pub returns-clause-others : goal.returns-clause-others
returns-clause-others c =
    let old : List (Vec Bucket Global) = c.self.inside.lists.items in
    let within : c.args.lit < length old = omega (arith, c.requires, ap length c.self.view_is, length-map old items_of) in
    rw (← c.self.view_is) (on_ok_weaker c.put_into.result (λ _. others old c.args.lit c.put_into.new.buckets within) c.put_into.ensures)
