-- Where nothing is asked of expressions: jumps stay inside their functions.
use Rattle.std.proofs.Common.{ℕ, List, [], ◌∷◌}
use Rattle.c_tree.specs.declared.expression.UnaryOperator.{UnaryOperator}
use Rattle.c_tree.specs.declared.expression.UnaryOperator.TheVariants as u
use Rattle.c_tree.specs.declared.expression.Expression.{Expression, out-Expression}
use Rattle.c_tree.specs.declared.expression.Declarator.TheOpen.{Expression-F as e}
use Rattle.c_tree.specs.declared.declaration.Initialiser.{Initialiser, out-Initialiser}
use Rattle.c_tree.specs.declared.declaration.Initialiser.TheOpen.{Initialiser-F}
use Rattle.c_tree.specs.declared.declaration.Initialiser.TheOpen.{Initialiser-F as i}
use Rattle.c_kinds.specs.declared.types.CType.{CType}
use Rattle.c_rules.specs.declared.program.Program.{Program}
use Rattle.c_rules.specs.Accepted.{IsAcceptedProgram}
use Rattle.c_model.specs.Programs.{ExpressionNode}
use Rattle.c_model.specs.Configurations.{Item, Breaking, Continuing, Back, State}
use Rattle.c_heads.specs.Sound.{StaysInside, JumpsInside, IsNext}
use Rattle.c_sound.proofs.Standing.{Each, MayBreak, MayContinue, Asked, PointedParts, AddressParts, UnaryParts, ValueParts, PlaceParts, InitialiserParts, IsKept, IsCode}
use Rattle.c_sound.proofs.Starting.{reached_code}

-- nothing is asked
abbrev pub nothing_asked : Asked
nothing_asked = record { OfValue = λ x. Unit {0}; OfPlace = λ x. Unit {0}; OfPart = λ number offset t x. Unit {0}; OfParts = λ number offset t part xs. Unit {0} }

each_unit : {A : Type 0} (xs : List A) → Each (λ x. Unit {0}) xs
each_unit [] = tt
each_unit (x ∷ xs) = (tt, each_unit xs)

of_pointed : (operator : UnaryOperator) (pointer : Expression) → PointedParts nothing_asked operator pointer
of_pointed u.Indirection pointer = tt
of_pointed operator pointer = tt

of_address : (operand : Expression) (l : ExpressionNode) → AddressParts nothing_asked operand l
of_address operand (e.Unary operator pointer at) = of_pointed operator pointer
of_address operand (e.Subscript array index at) = (tt, tt)
of_address operand l = tt

of_unary : (operator : UnaryOperator) (x operand : Expression) → UnaryParts nothing_asked operator x operand
of_unary u.Address x operand = of_address operand (out-Expression operand)
of_unary operator x operand = tt

of_value : (x : Expression) (l : ExpressionNode) → ValueParts nothing_asked x l
of_value x (e.Call function arguments at) = each_unit arguments
of_value x (e.Unary operator operand at) = of_unary operator x operand
of_value x (e.Binary operator left right at) = (tt, tt)
of_value x (e.Conditional test first otherwise at) = (tt, (tt, tt))
of_value x (e.Assign operator target value at) = (tt, tt)
of_value x (e.Comma parts at) = each_unit parts
of_value x l = tt

of_place : (l : ExpressionNode) → PlaceParts nothing_asked l
of_place (e.Subscript array index at) = (tt, tt)
of_place (e.Unary operator operand at) = of_pointed operator operand
of_place l = tt

of_initialiser : (number offset : ℕ) (t : CType) (l : Initialiser-F Initialiser) → InitialiserParts nothing_asked number offset t l
of_initialiser number offset t (i.Value x at) = tt
of_initialiser number offset t (i.Braces xs at) = tt

pub nothing_kept : (p : Program) → IsKept p nothing_asked
nothing_kept p = record {
  value = λ x h. of_value x (out-Expression x);
  place = λ x h. of_place (out-Expression x);
  initialiser = λ number offset t x h. of_initialiser number offset t (out-Initialiser x);
  parts = λ number offset t part x xs h. (tt, tt);
  full = λ x h t. tt;
  whole = λ number equals x h t. tt;
}

break_inside : (rest : List Item) → MayBreak rest → StaysInside rest
break_inside [] h = tt
break_inside (Back function objects ∷ rest) h = h
break_inside (item ∷ rest) h = tt

continue_inside : (rest : List Item) → MayContinue rest → StaysInside rest
continue_inside [] h = tt
continue_inside (Back function objects ∷ rest) h = h
continue_inside (item ∷ rest) h = tt

jumps_inside : (p : Program) (item : Item) (rest : List Item) → IsCode p nothing_asked item rest → JumpsInside item rest
jumps_inside p Breaking rest h = break_inside rest h
jumps_inside p Continuing rest h = continue_inside rest h
jumps_inside p item rest h = tt

pub jumps_stay : (p : Program) → IsAcceptedProgram p → (c : State) (item : Item) (rest : List Item) → IsNext p c item rest → JumpsInside item rest
jumps_stay p h c item rest n = jumps_inside p item rest (reached_code p nothing_asked (nothing_kept p) h c item rest n).0
