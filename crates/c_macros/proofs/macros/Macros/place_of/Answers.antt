use Rattle.std.proofs.Common.{Some, ◌∙◌, sym, ap}
use Rattle.std.specs.Option.{option_map}
use Rattle.c_macros.proofs.Places.{lookup_definitions, key_is, entry_at}
use Rattle.c_macros.proofs.macros.Macros.place_of.Goals as goal

pub returns-in-Some : goal.returns-in-Some
returns-in-Some c =
    let entries = c.args.self.now.defined.entries in
    let name = c.args.name.now in
    let found = entry_at entries c.in-Some.place c.in-Some.field-0-1.now c.in-Some.field-0-2.now c.in-Some.ensures.entry in
    record {
      within = found.0;
      named = ap (λ row. row.0) found.1 ∙ key_is entries name c.in-Some.field-0-1.now (sym c.in-Some.ensures.key);
      text = lookup_definitions entries name ∙ ap (option_map (λ text. text.items)) (sym c.in-Some.ensures.value) ∙ ap (λ row. Some row.1) (sym found.1);
    }

pub returns-in-None : goal.returns-in-None
returns-in-None c =
    lookup_definitions c.args.self.now.defined.entries c.args.name.now ∙ ap (option_map (λ text. text.items)) (sym c.in-None.ensures.value)
