use Rattle.std.proofs.Common.{arith, ap, sym, ◌∙◌, take}
use Rattle.std.proofs.lemmas.Grind.{common_steps}
use Rattle.kv_port.proofs.Folders.{reads_on, ends}
use Rattle.kv_port.proofs.named_files.read_on.Goals as goal

pub returns-clause-bytes : goal.returns-clause-bytes
returns-clause-bytes c =
    reads_on c.args.files.now c.args.place.now.file c.index-files-place.result c.as_slice-content.result.now c.copy_from_slice.new.self c.args.buf.now c.args.place.now.offset c.min-start.result c.min-count.result c.requires.there c.index-files-place.is
    (c.as_slice-content.ensures ∙ ap (λ f. f.content) (sym c.index-files-place.is)) c.min-start.ensures (omega (arith, c.min-count.ensures)) (c.copy_from_slice.ensures.after ∙ c.split_at-2.ensures.front ∙ ap (take c.min-count.result) c.split_at.ensures.back)

pub returns-clause-end : goal.returns-clause-end
returns-clause-end c = λ none room.
    ends c.args.files.now c.args.place.now.file c.index-files-place.result c.as_slice-content.result.now c.args.place.now.offset c.min-start.result c.min.result c.min-count.result c.requires.there c.index-files-place.is
    (c.as_slice-content.ensures ∙ ap (λ f. f.content) (sym c.index-files-place.is)) c.min-start.ensures c.min-count.ensures none (grind (arith, common_steps, c.min.ensures, c.copy_from_slice.ensures.len, c.requires.some, room, none))
