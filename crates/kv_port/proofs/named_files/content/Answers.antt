use Rattle.std.proofs.Common.{ap, sym, ◌∙◌, Some}
use Rattle.std.specs.Option.{option_map}
use Rattle.kv_port.proofs.Folders.{get_first, get_none, get_slice}
use Rattle.kv_port.proofs.named_files.content.Goals as goal

pub returns-in-Some : goal.returns-in-Some
returns-in-Some c =
    get_first c.args.name.now c.args.files.now c.in-Some.at c.in-Some.ensures.place
    ∙ ap (λ o. option_map (λ file. file.content) o) (get_slice c.args.files.now c.in-Some.at c.index-files-at.result c.in-Some.ensures.inside c.index-files-at.is)
    ∙ ap Some (sym (c.as_slice.ensures ∙ ap (λ file. file.content) (sym c.index-files-at.is)))

pub returns-in-None : goal.returns-in-None
returns-in-None c = get_none c.args.name.now c.args.files.now c.in-None.ensures.place
