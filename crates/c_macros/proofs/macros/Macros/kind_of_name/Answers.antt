use Rattle.std.proofs.Common.{◌≡◌, Some, None, IfSome, sym, subst}
use Rattle.c_tokens.specs.Words.{lookup, words}
use Rattle.c_macros.specs.Chains.{Becomes, name_at}
use Rattle.c_macros.specs.Tables.{macros_view}
use Rattle.c_macros.proofs.Links.{kind_of_word, kind_of_given, kind_of_end}
use Rattle.c_macros.proofs.macros.Macros.kind_of_name.Goals as goal

pub returns-in-Some-clause-kind : goal.returns-in-Some-clause-kind
returns-in-Some-clause-kind c =
    let word : lookup words c.args.name.now ≡ Some c.in-Some.kind = cc c.in_ok-kind.ensures in
    sym (kind_of_word c.args.self.now.model (macros_view c.args.self.now) c.args.name.now c.in-Some.kind word)

pub returns-in_default-place_of-clause-kind : goal.returns-in_default-place_of-clause-kind
returns-in_default-place_of-clause-kind c =
    let word : lookup words c.args.name.now ≡ None = cc c.in_ok-kind.ensures in
    let new : lookup (macros_view c.args.self.now).defined c.args.name.now ≡ None = c.in_default-place_of.ensures in
    let whole = kind_of_given c.args.self.now.model (macros_view c.args.self.now) c.args.name.now word new in
    rw whole c.given_or_name.ensures

pub returns-in-Some-2-clause-kind : goal.returns-in-Some-2-clause-kind
returns-in-Some-2-clause-kind c =
    let macros = macros_view c.args.self.now in
    let found : Becomes c.args.self.now.model macros (name_at macros.defined c.in-Some-place_of.first) c.in-Some-2.kind =
    subst (λ f. IfSome f (Becomes c.args.self.now.model macros (name_at macros.defined c.in-Some-place_of.first))) c.in-Some-2.is c.in_ok-kind-2.ensures.kind in
    let named : name_at macros.defined c.in-Some-place_of.first ≡ c.args.name.now = c.in-Some-place_of.ensures.named in
    sym (kind_of_end c.args.self.now.model macros c.args.name.now c.in-Some-2.kind (subst (λ n. Becomes c.args.self.now.model macros n c.in-Some-2.kind) named found))
