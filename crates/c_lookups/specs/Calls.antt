-- What calls call, as it is looked up.
use Rattle.std.specs.Prelude.{ℕ, List}
use Rattle.c_lookups.specs.declared.functions.Callee.{Callee}
use Rattle.c_lookups.specs.declared.functions.Callee.TheVariants as looked
use Rattle.c_lookups.specs.declared.functions.Parameters.{Parameters}
use Rattle.c_model.specs.Functions.{Defined, Known, Neither, counted_from}
use Rattle.c_model.specs.Functions as model

abbrev pub meant : Callee → model.Called
meant (looked.Defined function) = Defined function
meant (looked.Known function) = Known function
meant looked.Neither = Neither

-- the numbers of the parameters, in order
abbrev pub parameters : Parameters → List ℕ
parameters p = counted_from p.first p.count
