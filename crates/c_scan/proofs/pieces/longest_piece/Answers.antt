use Rattle.std.proofs.Common.{◌≡◌, ◌∷◌, [], ◌+◌, length, get_or, ◌∙◌, sym, ap, Some, arith}
use Rattle.std.specs.List.{between}
use Rattle.std.proofs.lemmas.Slice.{first_rest}
use Rattle.std.proofs.lemmas.Bool.Decides.{nat_tests}
use Rattle.c_tokens.specs.Pieces.{longest_piece, begins_number, begins_with, Space, Word, Number}
use Rattle.c_scan.specs.Fronts.{piece, mark_front}
use Rattle.c_scan.proofs.Classes.{space_front, word_front, number_front, character_lem, string_lem}
use Rattle.c_scan.proofs.Marks.{line_lem, block_lem, mark_lem, empty_lem, IsMark}
use Rattle.c_scan.proofs.Tests.{two_bytes}
use Rattle.c_scan.proofs.pieces.longest_piece.Goals as goal

pub returns-in_default : goal.returns-in_default
returns-in_default c = sym (empty_lem c.args.text.now c.in_default.len_below)

pub returns-then-is_space : goal.returns-then-is_space
returns-then-is_space c =
    let text = c.args.text.now in
    let split : text ≡ get_or text 0 0 ∷ between 1 (length text) text = first_rest text 0 (omega arith) in
    sym (ap longest_piece split ∙ space_front (get_or text 0 0) (between 1 (length text) text) (sym c.if-is_space.ensures))

pub returns-then-is_nondigit : goal.returns-then-is_nondigit
returns-then-is_nondigit c =
    let text = c.args.text.now in
    let split : text ≡ get_or text 0 0 ∷ between 1 (length text) text = first_rest text 0 (omega arith) in
    ap (λ n. Some (piece (n + 1) Word)) c.run_size.ensures.size
    ∙ sym (ap longest_piece split ∙ word_front (get_or text 0 0) (between 1 (length text) text) (sym c.if-is_space.ensures) (sym c.if-is_nondigit.ensures))

pub returns-then-begins_number : goal.returns-then-begins_number
returns-then-begins_number c =
    let text = c.args.text.now in
    let split : text ≡ get_or text 0 0 ∷ between 1 (length text) text = first_rest text 0 (omega arith) in
    ap (λ n. Some (piece (n + 1) Number)) c.run_size-then-begins_number.ensures.size
    ∙ sym (ap longest_piece split ∙ number_front (get_or text 0 0) (between 1 (length text) text) (sym c.if-is_space.ensures) (sym c.if-is_nondigit.ensures)
    (ap begins_number (sym split) ∙ sym c.if-begins_number.ensures))

pub returns-then-c-eq39 : goal.returns-then-c-eq39
returns-then-c-eq39 c =
    let text = c.args.text.now in
    let rest = between 1 (length text) text in
    let split : text ≡ get_or text 0 0 ∷ rest = first_rest text 0 (omega arith) in
    c.character_piece.ensures ∙ sym (ap longest_piece (split ∙ ap (λ x. x ∷ rest) c.if-c-eq39.true) ∙ character_lem rest)

pub returns-then-c-eq34 : goal.returns-then-c-eq34
returns-then-c-eq34 c =
    let text = c.args.text.now in
    let rest = between 1 (length text) text in
    let split : text ≡ get_or text 0 0 ∷ rest = first_rest text 0 (omega arith) in
    c.string_piece.ensures ∙ sym (ap longest_piece (split ∙ ap (λ x. x ∷ rest) c.if-c-eq34.true) ∙ string_lem rest)

pub returns-then-starts_with : goal.returns-then-starts_with
returns-then-starts_with c =
    let text = c.args.text.now in
    c.block_piece.ensures ∙ sym (ap longest_piece (two_bytes 47 42 text c.if-starts_with.ensures.value) ∙ block_lem (between 2 (length text) text))

pub returns-then-starts_with-2 : goal.returns-then-starts_with-2
returns-then-starts_with-2 c =
    let text = c.args.text.now in
    ap (λ n. Some (piece (n + 2) Space)) c.run_size-then-starts_with-2.ensures.size
    ∙ sym (ap longest_piece (two_bytes 47 47 text c.if-starts_with-2.ensures.value) ∙ line_lem (between 2 (length text) text))

pub returns : goal.returns
returns c =
    let text = c.args.text.now in
    let rest = between 1 (length text) text in
    let split : text ≡ get_or text 0 0 ∷ rest = first_rest text 0 (omega arith) in
    let is_mark : IsMark (get_or text 0 0) rest = record {
      space = sym c.if-is_space.ensures;
      word = sym c.if-is_nondigit.ensures;
      number = ap begins_number (sym split) ∙ sym c.if-begins_number.ensures;
      character = grind (arith, nat_tests);
      string = grind (arith, nat_tests);
      block = ap (begins_with (47 ∷ 42 ∷ [])) (sym split) ∙ sym c.if-starts_with.ensures.value;
      line = ap (begins_with (47 ∷ 47 ∷ [])) (sym split) ∙ sym c.if-starts_with-2.ensures.value;
    } in
    let e : longest_piece text ≡ mark_front text = ap longest_piece split ∙ mark_lem (get_or text 0 0) rest is_mark ∙ ap mark_front (sym split) in
    rw e c.mark_piece.ensures
