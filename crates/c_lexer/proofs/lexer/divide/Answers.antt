use Rattle.std.proofs.Common.{◌≡◌, ◌≤◌, ◌<◌, ◌∙◌, sym, ap, subst, length, arith, length-drop}
use Rattle.std.proofs.lemmas.Bool.Decides.{nat_tests}
use Rattle.std.proofs.lemmas.Slice.{between_to_end}
use Rattle.c_tokens.specs.declared.data_model.DataModel.{DataModel}
use Rattle.c_tokens.specs.Reading.{Goes, Read}
use Rattle.c_lexer.specs.States.{IsReady, IsStop, state_view, step_at}
use Rattle.c_lexer.proofs.Dividing.{keeps_dividing, fails_at, divided_end}
use Rattle.c_lexer.proofs.lexer.divide.Goals as goal

pub loop-rest-preserved : goal.loop-rest-preserved
loop-rest-preserved c =
    let rest = c.loop-rest.rest.now in
    let some : 1 ≤ length rest = grind (arith, nat_tests) in
    let i = c.loop-rest.invariant in
    let model_is = i.ready.model_is in
    let told = subst (λ (m : DataModel). step_at m (state_view c.loop-rest.lexer) rest ≡ Goes c.in-Ok.size (state_view c.advance.new.self)) model_is c.in-Ok.ensures.told in
    let size = c.in-Ok.ensures.size in
    let left = between_to_end rest c.in-Ok.size (length rest) (omega arith) in
    record {
      ready = subst (λ (m : DataModel). IsReady m c.advance.new.self) model_is c.in-Ok.ensures.ready;
      tables = i.tables;
      room = omega (arith, ap length left, length-drop c.in-Ok.size rest, c.in-Ok.ensures.place, i.room);
      divides = keeps_dividing _ c.args.model (state_view c.loop-rest.lexer) (state_view c.advance.new.self) rest c.in-Ok.size some size.0 size.1 told i.divides;
    }

pub returns-in-Err : goal.returns-in-Err
returns-in-Err c =
    let rest = c.loop-rest.rest.now in
    let some : 1 ≤ length rest = grind (arith, nat_tests) in
    let i = c.loop-rest.invariant in
    let told = subst (λ (m : DataModel). IsStop c.in-Err.fault (step_at m (state_view c.loop-rest.lexer) rest)) i.ready.model_is c.in-Err.ensures.told in
    fails_at c.in-Err.fault _ c.args.model (state_view c.loop-rest.lexer) rest some told i.divides

pub returns : goal.returns
returns c =
    let rest = c.loop-rest.rest.now in
    let none : length rest < 1 = grind (arith, nat_tests) in
    let i = c.loop-rest.invariant in
    sym i.divides.2 ∙ divided_end i.divides.0 c.args.model (state_view c.loop-rest.lexer) rest none ∙ ap Read (sym c.from_vec.ensures)
