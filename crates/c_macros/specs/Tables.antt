-- What the code keeps of macros as the definition's.
use Rattle.std.specs.Prelude.{◌≡◌, ℕ, Bool, true, false, List, map, Option, Some, None, Vec}
use Rattle.c_tokens.specs.Reading.{Macros as SpecMacros, given}
use Rattle.c_tokens.specs.Constants.{number_of}
use Rattle.c_scan.specs.Rows.{rows}
use Rattle.c_scan.specs.Numbers.{number_view}
use Rattle.c_macros.specs.declared.macros.Macros.{Macros}
use Rattle.c_macros.specs.Chains.{IsLinked}
use Rattle.c_macros.specs.Circles.{IsMarked}

abbrev pub definitions : {Z : Type 0} → List (Vec ℕ Z × Vec ℕ Z) → List (List ℕ × List ℕ)
definitions entries = map (λ entry. (entry.0.items, entry.1.items)) entries

abbrev pub macros_view : Macros → SpecMacros
macros_view macros = record {
  defined = definitions macros.defined.entries;
  limits = macros.limits;
  stdbool = macros.stdbool;
  stddef = macros.stddef;
  stdint = macros.stdint;
}

-- the rows that are kept are those of the included headers, the definitions are linked and marked, and the number that
-- each text is is known
pub record IsKnown (macros : Macros) : Type 0 where
  pub given_are : rows macros.given.items ≡ given macros.model (macros_view macros)
  pub linked : IsLinked (macros_view macros).defined macros.ahead.items
  pub marked : IsMarked (macros_view macros).defined macros.returns.items
  pub numbered : map number_view macros.numbers.items ≡ map (λ row. number_of macros.model row.1) (macros_view macros).defined

-- all but the marks is as it was
pub record OnlyMarks (old new : Macros) : Type 0 where
  pub macros_stay : macros_view new ≡ macros_view old
  pub given_stay : new.given ≡ old.given
  pub ahead_stay : new.ahead ≡ old.ahead
  pub numbers_stay : new.numbers ≡ old.numbers
  pub model_stays : new.model ≡ old.model

-- what a directive did to the macros: it was taken, and they are so now, or it was not
abbrev pub Tells : Bool → Option SpecMacros → SpecMacros → Type 0
Tells true answer now = answer ≡ Some now
Tells false answer now = answer ≡ None
