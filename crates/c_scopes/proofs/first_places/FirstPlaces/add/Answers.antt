use Rattle.std.proofs.Common.{◌≡◌, ap, sym, ◌∙◌, subst, is_some}
use Rattle.c_scopes.specs.Firsts.{first_place}
use Rattle.c_scopes.proofs.FirstKeys.{Changes, first_added, first_kept, some_is, none_is}
use Rattle.c_scopes.proofs.first_places.FirstPlaces.add.Goals as goal

pub returns-then-is_some : goal.returns-then-is_some
returns-then-is_some c keys had counts =
    let at : c.find.result ≡ first_place keys c.args.key = c.find.ensures keys had ∙ ap (first_place keys) c.as_slice.ensures in
    let found = some_is (first_place keys c.args.key) (ap is_some (sym at) ∙ sym c.is_some.ensures ∙ c.if-is_some.true) in
    first_kept c.args.self.now.by_key c.args.key found.0 keys had found.1

pub returns : goal.returns
returns c keys had counts =
    let at : c.find.result ≡ first_place keys c.args.key = c.find.ensures keys had ∙ ap (first_place keys) c.as_slice.ensures in
    let absent = none_is (first_place keys c.args.key) (ap is_some (sym at) ∙ sym c.is_some.ensures ∙ c.if-is_some.false) in
    first_added c.args.self.now.by_key c.insert.new.self c.args.key c.args.place
    (subst (λ key. Changes c.args.self.now.by_key c.insert.new.self key c.args.place) c.into_vec.ensures c.in_ok-insert.ensures.updates)
    keys had absent counts
