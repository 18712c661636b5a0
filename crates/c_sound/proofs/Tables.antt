-- Answers whose types stand in a program's table.
use Rattle.std.proofs.Common.{◌≡◌, List, [], ◌∷◌, ◌++◌, Some, slice_get}
use Rattle.std.specs.List.{All}
use Rattle.std.proofs.lemmas.List.Elements.{All-head, All-tail}
use Rattle.c_rules.specs.declared.program.Program.{Program}
use Rattle.c_rules.specs.Accepted.{type_by}
use Rattle.c_rules.specs.Found.{AnswerAt}

-- the table has an answer's type at its token
abbrev pub IsTold : Program → AnswerAt → Type 0
IsTold p x = slice_get p.types.expressions x.at ≡ Some (type_by x.answer)

abbrev pub EachTold : Program → List AnswerAt → Type 0
EachTold p [] = Unit {0}
EachTold p (x ∷ xs) = IsTold p x × EachTold p xs

pub record AreTold (p : Program) (xs : List AnswerAt) : Type 0 where
  pub each : EachTold p xs

each_first : (p : Program) (xs ys : List AnswerAt) → EachTold p (xs ++ ys) → EachTold p xs
each_first p [] ys h = tt
each_first p (x ∷ xs) ys h = (h.0, each_first p xs ys h.1)

each_second : (p : Program) (xs ys : List AnswerAt) → EachTold p (xs ++ ys) → EachTold p ys
each_second p [] ys h = h
each_second p (x ∷ xs) ys h = each_second p xs ys h.1

pub first_told : (p : Program) (xs ys : List AnswerAt) → AreTold p (xs ++ ys) → AreTold p xs
first_told p xs ys h = record { each = each_first p xs ys h.each }

pub second_told : (p : Program) (xs ys : List AnswerAt) → AreTold p (xs ++ ys) → AreTold p ys
second_told p xs ys h = record { each = each_second p xs ys h.each }

each_of : (p : Program) (xs : List AnswerAt) → All (IsTold p) xs → EachTold p xs
each_of p [] a = tt
each_of p (x ∷ xs) a = (All-head (IsTold p) x xs a, each_of p xs (All-tail (IsTold p) x xs a))

pub told_of : (p : Program) (xs : List AnswerAt) → All (IsTold p) xs → AreTold p xs
told_of p xs a = record { each = each_of p xs a }
