use Rattle.std.proofs.Common.{ℕ, ◌≡◌, ◌<◌, List, length, get_or, set, subst, sym, ap, ◌∙◌, arith, ◌++◌, ◌∷◌, []}
use Rattle.std.specs.List.{Contains}
use Rattle.std.proofs.lemmas.Grind.{common_steps}
use Rattle.std.proofs.lemmas.List.{length-set, length-append}
use Rattle.std.proofs.lemmas.List.Elements.{Contains-get_or}
use Rattle.sat_index.specs.declared.index.Occurrence.{Occurrence}
use Rattle.sat_index.specs.Listed.{IsIndexed}
use Rattle.sat_index.proofs.Listing.{IsIndexed-push}
use Rattle.sat_index.proofs.record.list_clause.Goals as goal

pub returns : goal.returns
returns c =
    let F : List (List ℕ) = c.args.store.now in
    let cl : List ℕ = c.args.clause.now in
    let lists : List (List Occurrence) = c.count.new.self in
    let same : lists ≡ c.args.index.now = c.count.ensures in
    let u : ℕ = c.least_common-under.result in
    let in_clause : u < length cl = c.least_common-under.ensures in
    let l : ℕ = get_or cl u 0 in
    let occurrence : Occurrence = record { number = c.in-Ok.number; signature = c.signature_of.result } in
    let num : c.in-Ok.number ≡ length F = grind (arith, common_steps, c.in-Ok.ensures, c.len.ensures) in
    let has : Contains cl l = Contains-get_or cl u 0 in_clause in
    let in_lists : l < length lists = let r = c.requires.range u in_clause in let e = ap length same in omega arith in
    let here : List Occurrence = get_or c.put.new.self l [] in
    let ix : IsIndexed (F ++ cl ∷ []) (set lists l here) = IsIndexed-push F lists cl l occurrence here (subst (λ (x : List (List Occurrence)). IsIndexed F x) (sym same) c.requires.indexed) in_lists has num c.signature_of.ensures c.in_ok-put.ensures.put in
    let put : c.put.new.self ≡ set lists l here = c.in_ok-put.ensures.others in (
      num,
      c.in_ok-push.ensures.ok,
      subst (λ (x : List (List ℕ)). IsIndexed x c.put.new.self) (sym c.in_ok-push.ensures.ok) (subst (λ (x : List (List Occurrence)). IsIndexed (F ++ cl ∷ []) x) (sym put) ix),
      ap length put ∙ length-set lists l here ∙ ap length same,
      omega (arith, ap length c.in_ok-push.ensures.ok, length-append F (cl ∷ []), num),
    )
