use Rattle.std.proofs.Common.{◌≡◌, ◌∙◌, sym, ap, None}
use Rattle.std.specs.Option.{option_map}
use Rattle.std.proofs.lemmas.Result.{IfOk-weaker}
use Rattle.c_scan.specs.Fronts.{mark_or, mark_front, or_else, piece_of}
use Rattle.c_scan.proofs.Tests.{or_else_none}
use Rattle.c_scan.proofs.pieces.mark_piece.Goals as goal

pub returns : goal.returns
returns c =
    let text = c.args.text.now in
    let one = mark_or 1 None text in
    let two : mark_or 2 one text ≡ one = c.in_ok-piece-2.ensures one ∙ ap (λ f. or_else (option_map piece_of f) one) c.in_default-2.is in
    let three : mark_front text ≡ one = c.in_ok-piece.ensures (mark_or 2 one text) ∙ ap (λ f. or_else (option_map piece_of f) (mark_or 2 one text)) c.in_default.is ∙ two in
    IfOk-weaker c.mark_of_size-3.result _ _ (λ found h. sym (three ∙ h None ∙ or_else_none (option_map piece_of found))) c.mark_of_size-3.ensures
