use Rattle.std.proofs.Common.{ap, ◌∙◌, false, nat_eq, unwrap_or}
use Rattle.std.proofs.lemmas.Option.{unwrap_or-slice_get}
use Rattle.std.specs.List.{list_any}
use Rattle.c_scopes.proofs.number_set.NumberSet.contains.Goals as goal

pub returns : goal.returns
returns c =
    let number = c.args.number in
    c.unwrap_or.ensures ∙ ap (λ flag. unwrap_or flag false) (c.copied.ensures ∙ c.get.ensures.value) ∙ unwrap_or-slice_get c.self.inside.flags number false
    ∙ c.self.invariant number ∙ ap (list_any (λ m. nat_eq m number)) c.self.view_is
