use Rattle.std.proofs.Common.{◌≡◌, false, [], ◌∷◌, ◌++◌, length, Some, None, map, ◌∙◌, sym, ap, subst}
use Rattle.std.specs.Option.{is_some}
use Rattle.c_tokens.specs.Words.{lookup}
use Rattle.c_tokens.specs.Constants.{number_of}
use Rattle.c_tokens.specs.Reading.{given}
use Rattle.c_scan.specs.Numbers.{number_view}
use Rattle.c_scan.specs.Rows.{rows}
use Rattle.c_macros.specs.Chains.{IsLinked}
use Rattle.c_macros.specs.Circles.{IsMarked}
use Rattle.c_macros.specs.Tables.{macros_view, definitions}
use Rattle.c_macros.proofs.Places.{definitions_insert, definitions_length}
use Rattle.c_macros.proofs.Chains.{linked_push}
use Rattle.c_macros.proofs.Links.{defined_new}
use Rattle.c_macros.proofs.Marks.{marked_push}
use Rattle.c_macros.proofs.Known.{numbered_push}
use Rattle.c_macros.proofs.macros.Macros.define.Goals as goal

pub returns-clause-told : goal.returns-clause-told
returns-clause-told c =
    let macros = macros_view c.args.self.now in
    let name = c.args.name.now in
    let text = c.args.text.now in
    let key = c.in_ok-key.key in
    let value = c.in_ok-value.value in
    let new : lookup macros.defined name ≡ None = c.in_default.ensures in
    let named : key.items ≡ name = c.in_ok-key.ensures.items in
    let valued : value.items ≡ text = c.in_ok-value.ensures.items in
    let free : is_some (lookup (given c.args.self.now.model macros) name) ≡ false =
    sym (c.if-is_some.ensures ∙ ap is_some (c.in_ok-find.ensures ∙ ap (λ t. lookup (rows t) name) c.deref.ensures.value ∙ ap (λ table. lookup table name) c.requires.given_are)) in
    let new_key : lookup macros.defined key.items ≡ None = subst (λ n. lookup macros.defined n ≡ None) (sym named) new in
    let entries : definitions c.insert.new.self.entries ≡ macros.defined ++ (name, text) ∷ [] =
    ap definitions c.in_ok-insert.ensures.entries ∙ definitions_insert c.args.self.now.defined key value new_key
    ∙ (λ i. macros.defined ++ (named i, valued i) ∷ []) in
    defined_new c.args.self.now.model macros name text free new ∙ ap (λ d. Some (record macros { defined = d })) (sym entries)

pub returns-clause-known : goal.returns-clause-known
returns-clause-known c =
    let macros = macros_view c.args.self.now in
    let model = c.args.self.now.model in
    let name = c.args.name.now in
    let text = c.args.text.now in
    let key = c.in_ok-key.key in
    let value = c.in_ok-value.value in
    let new : lookup macros.defined name ≡ None = c.in_default.ensures in
    let named : key.items ≡ name = c.in_ok-key.ensures.items in
    let valued : value.items ≡ text = c.in_ok-value.ensures.items in
    let new_key : lookup macros.defined key.items ≡ None = subst (λ n. lookup macros.defined n ≡ None) (sym named) new in
    let entries : definitions c.insert.new.self.entries ≡ macros.defined ++ (name, text) ∷ [] =
    ap definitions c.in_ok-insert.ensures.entries ∙ definitions_insert c.args.self.now.defined key value new_key
    ∙ (λ i. macros.defined ++ (named i, valued i) ∷ []) in
    let place : c.len-place.result ≡ length macros.defined = c.len-place.ensures.len ∙ sym (definitions_length c.args.self.now.defined.entries) in
    let pushed : c.push.new.self.items ≡ c.args.self.now.ahead.items ++ length macros.defined ∷ [] =
    c.in_ok-push.ensures.items ∙ ap (λ n. c.args.self.now.ahead.items ++ n ∷ []) place in
    record {
      given_are = c.requires.given_are;
      linked = subst (λ E. IsLinked E c.push.new.self.items) (sym entries)
          (subst (IsLinked (macros.defined ++ (name, text) ∷ [])) (sym pushed) (linked_push macros.defined c.args.self.now.ahead.items name text c.requires.linked new));
      marked = subst (λ E. IsMarked E c.push-2.new.self.items) (sym entries)
          (subst (IsMarked (macros.defined ++ (name, text) ∷ [])) (sym c.in_ok-push-2.ensures.items) (marked_push macros.defined c.args.self.now.returns.items (name, text) c.requires.marked));
      numbered = ap (map number_view) c.in_ok-push-3.ensures.items
          ∙ numbered_push model macros.defined c.args.self.now.numbers.items c.requires.numbered name text c.number_of-number.result c.number_of-number.ensures
          ∙ ap (map (λ row. number_of model row.1)) (sym entries);
    }
