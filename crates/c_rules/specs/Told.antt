-- Names that stand for what has no type or value.
use Rattle.std.specs.Prelude.{ℕ, Bool, true, false, not, List, ◌++◌, length, Option, Some, None, slice_get}
use Rattle.c_tree.specs.declared.declaration.Tree.{Tree}
use Rattle.c_kinds.specs.declared.types.Member.{Member}
use Rattle.c_kinds.specs.declared.types.Struct.{Struct}
use Rattle.c_rules.specs.declared.names.Meaning.{Meaning}
use Rattle.c_rules.specs.declared.names.Meaning.TheVariants as meaning
use Rattle.c_rules.specs.declared.names.Object.{Object}
use Rattle.c_rules.specs.declared.names.Names.{Names}
use Rattle.c_rules.specs.declared.names.Pair.{Pair}
use Rattle.c_rules.specs.Broken.{pair_if, of_each}
use Rattle.c_rules.specs.Calls.{is_some}
use Rattle.c_rules.specs.Typing.{numbered_result}

abbrev pub object_tells : Option Object → Bool
object_tells None = false
object_tells (Some o) = is_some o.ctype

-- an object has a type, a constant a value, a function a result, and a type name a type
abbrev pub tells : Names → Option Meaning → Bool
tells names None = true
tells names (Some (meaning.Object n)) = object_tells (slice_get names.objects n)
tells names (Some (meaning.Constant n)) = is_some n
tells names (Some (meaning.Function n)) = is_some (numbered_result names (slice_get names.functions n))
tells names (Some (meaning.Known function)) = true
tells names (Some (meaning.Type t star)) = is_some t

abbrev pub untold_meaning : ℕ → Names → Option Meaning → List Pair
untold_meaning at names m = pair_if (not (tells names m)) at 24

abbrev pub untold_member : ℕ → Member → List Pair
untold_member at m = pair_if (not (is_some m.ctype)) at 24

abbrev pub untold_struct : ℕ → Struct → List Pair
untold_struct at s = of_each (untold_member at) s.members

-- rule 24 once more, at this token, for each name and each member without a type or value
abbrev pub untold : ℕ → Names → List Pair
untold at names = of_each (untold_meaning at names) names.meanings ++ of_each (untold_struct at) names.structs

-- what stands after the last token of a text
abbrev pub end_of : Tree → ℕ
end_of tree = length tree.lines
