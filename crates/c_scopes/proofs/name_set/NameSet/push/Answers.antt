use Rattle.std.proofs.Common.{◌≡◌, [], ◌∷◌, ◌++◌, length, reverse, ap, sym, ◌∙◌, subst}
use Rattle.std.proofs.lemmas.List.{reverse-append, length-reverse}
use Rattle.c_places.specs.Standing.{HasPlaces}
use Rattle.c_scopes.proofs.name_set.NameSet.push.Goals as goal

pub invariant_of-self-2 : goal.invariant_of-self-2
invariant_of-self-2 c =
    let names = c.self.inside.names in
    let had = subst (λ places. HasPlaces (reverse names) places) (sym c.replace-places.ensures.value) c.self.invariant in
    let counts : c.len.result ≡ length (reverse names) = c.len.ensures ∙ ap length c.replace-names.ensures.value ∙ sym (length-reverse names) in
    let added = subst (λ name. HasPlaces (name ∷ reverse names) c.add.new.self) c.as_slice.ensures (c.in_ok-add.ensures (reverse names) had counts) in
    let is = c.in_ok-push.ensures.ok ∙ ap (λ list. list ++ c.args.name ∷ []) c.replace-names.ensures.value in
    subst (λ list. HasPlaces list c.add.new.self) (sym (ap reverse is ∙ reverse-append names (c.args.name ∷ []))) added
