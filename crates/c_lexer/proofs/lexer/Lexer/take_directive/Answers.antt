use Rattle.std.proofs.Common.{◌∙◌, sym, ap, length, arith}
use Rattle.c_tokens.specs.Reading.{State, large_constant}
use Rattle.c_lexer.proofs.Dividing.{large_within, open_place}
use Rattle.c_lexer.proofs.lexer.Lexer.take_directive.Goals as goal

pub overflow_add-result-in-Some : goal.overflow_add-result-in-Some
overflow_add-result-in-Some c =
    let model = c.apply_form.new.self.model in
    let place = large_within model c.as_slice.result.now c.in-Some.place (sym (c.in-Some.ensures ∙ ap (large_constant model) c.form_of-form.ensures)) in
    omega (arith, place, ap length c.as_slice.ensures, c.in-Ok.ensures.within, ap (λ (s : State). s.at) c.apply_form.ensures.state, ap length c.requires.hash)

pub overflow_cast-result : goal.overflow_cast-result
overflow_cast-result c =
    let model = c.apply_form.new.self.model in
    let place = large_within model c.as_slice.result.now c.in-Some.place (sym (c.in-Some.ensures ∙ ap (large_constant model) c.form_of-form.ensures)) in
    omega (arith, place, ap length c.as_slice.ensures, c.in-Ok.ensures.within, ap (λ (s : State). s.at) c.apply_form.ensures.state, ap length c.requires.hash)

pub overflow_add-result-in-Some-open_comment-2 : goal.overflow_add-result-in-Some-open_comment-2
overflow_add-result-in-Some-open_comment-2 c =
    let place = open_place c.args.rest.now c.in-Some-open_comment.place (sym c.in-Some-open_comment.ensures) in
    omega (arith, place, ap (λ (s : State). s.at) c.apply_form.ensures.state, ap length c.requires.hash)

pub overflow_cast-result-in-Some-open_comment : goal.overflow_cast-result-in-Some-open_comment
overflow_cast-result-in-Some-open_comment c =
    let place = open_place c.args.rest.now c.in-Some-open_comment.place (sym c.in-Some-open_comment.ensures) in
    omega (arith, place, ap (λ (s : State). s.at) c.apply_form.ensures.state, ap length c.requires.hash)
