-- What an operator answers, and expressions as values (6.3.2). Sections are those of ISO/IEC 9899:2011.
use Rattle.std.specs.Prelude.{ℕ, Bool, true, false, ◌&&◌, if◌then◌else◌}
use Rattle.c_kinds.specs.declared.types.CType.{CType}
use Rattle.c_kinds.specs.declared.typed.Fixed.{Fixed}
use Rattle.c_kinds.specs.declared.typed.Fixed.TheVariants.{Varies}
use Rattle.c_kinds.specs.declared.typed.Typed.{Typed}
use Rattle.c_kinds.specs.declared.answer.Answer.{Answer}
use Rattle.c_kinds.specs.declared.answer.Answer.TheVariants.{Gives, Breaks, Nothing}
use Rattle.c_kinds.specs.Types.{inner, pointer_to, unqualified, is_integer, is_array, is_rows, same, void}
use Rattle.c_kinds.specs.Constants.{is_zero}
use Rattle.c_kinds.specs.Layouts.{Layout, is_incomplete}

-- goes on with what an operand gives
abbrev pub and_then : Answer → (Typed → Answer) → Answer
and_then (Gives x) f = f x
and_then (Breaks rule at) f = Breaks rule at
and_then Nothing f = Nothing

-- the answer, unless the rule is broken first
abbrev pub unless : Bool → ℕ → ℕ → Answer → Answer
unless broken rule at answer = if broken then Breaks rule at else answer

-- a part of an expression: the rule that it breaks is the part's own
abbrev pub part : Answer → (Typed → Answer) → Answer
part (Gives x) f = f x
part (Breaks rule at) f = Nothing
part Nothing f = Nothing

-- what isn't an lvalue; an integer constant 0 is a null pointer constant (6.3.2.3p3)
abbrev pub result : CType → Fixed → ℕ → ℕ → Typed
result t constant named_at ends_at = record {
  ctype = t;
  is_place = false;
  is_null = is_integer t && is_zero constant;
  fixed = constant;
  address = Varies;
  named_at = named_at;
  ends_at = ends_at;
}

-- an lvalue: what its place is as a constant, and what `&` of it is
abbrev pub place : CType → Fixed → Fixed → ℕ → ℕ → Typed
place t constant address named_at ends_at = record {
  ctype = t;
  is_place = true;
  is_null = false;
  fixed = constant;
  address = address;
  named_at = named_at;
  ends_at = ends_at;
}

-- an array becomes the pointer to its first element (6.3.2.1p3); an object is read (6.3.2.1p2), and so is no constant
abbrev pub converted_value : Typed → Typed
converted_value x =
    if is_array x.ctype then result (pointer_to (inner x.ctype)) x.fixed x.named_at x.ends_at
    else (if x.is_place then result (unqualified x.ctype) Varies x.named_at x.ends_at else x)

-- an expression whose value is used. A pointer to an array is left out, and a struct that isn't complete has no value
abbrev pub value : Layout → Typed → Answer
value l x = unless (is_rows x.ctype) 9 x.named_at (unless (is_incomplete l.structs x.ends_at x.ctype) 10 x.named_at (Gives (converted_value x)))

abbrev pub used : Layout → Answer → (Typed → Answer) → Answer
used l x f = part x (λ operand. and_then (value l operand) f)

-- exactly `void *`, qualifiers of the pointer itself apart
abbrev pub is_void_pointer : CType → Bool
is_void_pointer t = same (unqualified t) (pointer_to void)
