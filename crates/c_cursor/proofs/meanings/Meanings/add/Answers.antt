use Rattle.std.proofs.Common.{rules, ap, sym, ◌∙◌, [], ◌∷◌, subst}
use Rattle.std.proofs.lemmas.Result.{on_ok_weaker}
use Rattle.std.specs.Option.{unwrap_or}
use Rattle.c_cursor.proofs.Changes.{meanings_added, Changes}
use Rattle.c_cursor.proofs.meanings.Meanings.add.Goals as goal

pub returns-in-Some : goal.returns-in-Some
returns-in-Some c =
    on_ok_weaker c.push.result
    (meanings_added c.args.self.now.by_name (c.get_mut.follows.lender c.push.new.self) c.args.entry.now c.as_slice.result.now c.as_slice.ensures _ _
    ((c.get_mut.follows.holds c.push.new.self).3 (search rules)) (ap (λ found. unwrap_or found []) (sym c.in-Some.ensures.value)))
    c.push.ensures.ok

pub returns : goal.returns
returns c =
    let bytes = c.as_slice-2.ensures ∙ sym c.as_slice.ensures in
    meanings_added c.args.self.now.by_name c.insert.new.self c.args.entry.now c.as_slice.result.now c.as_slice.ensures [] c.push-2.new.self
    (subst (λ old. Changes old c.insert.new.self c.as_slice.result.now c.push-2.new.self) c.get_mut.follows.holds-at-none
    (subst (λ at. Changes c.get_mut.follows.lender-at-none c.insert.new.self at c.push-2.new.self) (c.in_ok-name.ensures.items ∙ bytes) c.in_ok-insert.ensures.updates))
    (ap (λ found. unwrap_or found []) (sym c.in_default.ensures.value))
    (c.in_ok-push.ensures.ok ∙ ap (λ rest. c.args.entry.now.is_type ∷ rest) c.new-meanings.ensures)
