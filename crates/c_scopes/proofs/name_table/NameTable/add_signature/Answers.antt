use Rattle.std.proofs.Common.{◌≡◌, [], ◌∷◌, ◌++◌, length, map, ap, sym, ◌∙◌, subst}
use Rattle.std.proofs.lemmas.List.{length-map}
use Rattle.c_scopes.specs.Firsts.{HasFirsts}
use Rattle.c_scopes.specs.Keys.{signature_key}
use Rattle.c_scopes.proofs.Keyed.{keys_more}
use Rattle.c_scopes.proofs.name_table.NameTable.add_signature.Goals as goal

pub invariant_of-self-2 : goal.invariant_of-self-2
invariant_of-self-2 c =
    let known = c.self.inside.names.signatures in
    let g = c.args.signature in
    let had = subst (λ firsts. HasFirsts (map signature_key known) firsts) (sym c.replace-firsts.ensures.value) c.self.invariant.1 in
    let counts : c.len.result ≡ length (map signature_key known) = c.len.ensures ∙ ap length c.replace-known.ensures.value ∙ sym (length-map known signature_key) in
    let added = c.in_ok-add.ensures (map signature_key known) had counts in
    let is : map signature_key c.push.new.self ≡ map signature_key known ++ c.args.key ∷ [] =
    ap (map signature_key) (c.in_ok-push.ensures.ok ∙ ap (λ fs. fs ++ g ∷ []) c.replace-known.ensures.value) ∙ keys_more known g
    ∙ ap (λ key. map signature_key known ++ key ∷ []) (sym c.requires) in
    (c.self.invariant.0, subst (λ keys. HasFirsts keys c.add.new.self) (sym is) added)
