use Rattle.std.proofs.Common.{◌≡◌, ◌∙◌, sym, ap, Some, None, Option, List, ℕ, take, arith, length-take-le}
use Rattle.std.specs.Option.{option_map}
use Rattle.c_tokens.specs.Pieces.{first_piece}
use Rattle.c_tokens.specs.Reading.{State, Advance, Stops, NoToken, piece_step, shape_step, Goes}
use Rattle.c_tokens.specs.Pieces.{Piece as SpecPiece}
use Rattle.c_tokens.specs.declared.data_model.DataModel.{DataModel}
use Rattle.c_scan.specs.Fronts.{piece_of}
use Rattle.c_lexer.specs.States.{state_view}
use Rattle.c_lexer.proofs.Sizes.{first_size}
use Rattle.c_lexer.proofs.lexer.Lexer.take_piece.Goals as goal

abbrev step_of : DataModel → State → List ℕ → Option SpecPiece → Advance
step_of model state rest found = elim found as (λ _. Advance) [ Some p ↦ shape_step model state (take p.size rest) p.shape | None ↦ Stops (NoToken state.at) ]

pub slice_bounds-take_shape-end : goal.slice_bounds-take_shape-end
slice_bounds-take_shape-end c =
    let some : Some (piece_of c.in-Some.field-0) ≡ first_piece c.args.rest.now = sym (ap (option_map piece_of) c.in-Some.is) ∙ c.in-Ok.ensures in
    let bound = first_size c.args.rest.now (piece_of c.in-Some.field-0) some in
    sym (length-take-le c.in-Some.field-0.size c.args.rest.now bound.within)

pub returns-in-Ok-take_shape-clause-told : goal.returns-in-Ok-take_shape-clause-told
unfolding piece_step
returns-in-Ok-take_shape-clause-told c =
    let some : Some (piece_of c.in-Some.field-0) ≡ first_piece c.args.rest.now = sym (ap (option_map piece_of) c.in-Some.is) ∙ c.in-Ok.ensures in
    let bound = first_size c.args.rest.now (piece_of c.in-Some.field-0) some in
    ap (step_of c.args.self.now.model (state_view c.args.self.now) c.args.rest.now) (sym some)
    ∙ c.in-Ok-take_shape.ensures.told ∙ ap (λ n. Goes n (state_view c.take_shape.new.self)) (length-take-le c.in-Some.field-0.size c.args.rest.now bound.within)

pub returns-in-Ok-take_shape-clause-size : goal.returns-in-Ok-take_shape-clause-size
returns-in-Ok-take_shape-clause-size c =
    let some : Some (piece_of c.in-Some.field-0) ≡ first_piece c.args.rest.now = sym (ap (option_map piece_of) c.in-Some.is) ∙ c.in-Ok.ensures in
    let bound = first_size c.args.rest.now (piece_of c.in-Some.field-0) some in
    (bound.above, bound.within)

pub returns-in-Ok-take_shape-clause-place : goal.returns-in-Ok-take_shape-clause-place
returns-in-Ok-take_shape-clause-place c =
    let some : Some (piece_of c.in-Some.field-0) ≡ first_piece c.args.rest.now = sym (ap (option_map piece_of) c.in-Some.is) ∙ c.in-Ok.ensures in
    let bound = first_size c.args.rest.now (piece_of c.in-Some.field-0) some in
    let size = length-take-le c.in-Some.field-0.size c.args.rest.now bound.within in
    omega (arith, c.in-Ok-take_shape.ensures.place, size)
