-- The rules that initialisers and declarations break (6.7, 6.7.9). Sections are those of ISO/IEC 9899:2011.
use Rattle.std.specs.Prelude.{ℕ, ◌+◌, nat_le, Bool, true, false, not, ◌&&◌, if◌then◌else◌, List, [], ◌∷◌, ◌++◌, length, Option, Some, None, slice_get}
use Rattle.std.specs.List.{list_any}
use Rattle.c_tree.specs.declared.expression.StorageWord.{StorageWord}
use Rattle.c_tree.specs.declared.expression.StorageWord.TheVariants as storage
use Rattle.c_tree.specs.declared.expression.Specifier.{Specifier, out-Specifier}
use Rattle.c_tree.specs.declared.expression.Declarator.{Declarator}
use Rattle.c_tree.specs.declared.expression.Declarator.TheOpen.{Declarator-F as d, Specifier-F as s}
use Rattle.c_tree.specs.declared.declaration.Initialiser.{Initialiser}
use Rattle.c_tree.specs.declared.declaration.Initialiser.TheOpen.{Initialiser-F}
use Rattle.c_tree.specs.declared.declaration.Initialiser.TheOpen.{Initialiser-F as i}
use Rattle.c_tree.specs.declared.declaration.Initialiser.TheFolds.{para-Initialiser}
use Rattle.c_tree.specs.declared.declaration.Declared.{Declared}
use Rattle.c_tree.specs.declared.declaration.Declared.TheVariants as declared
use Rattle.c_tree.specs.declared.declaration.Declaration.{Declaration}
use Rattle.c_kinds.specs.declared.types.Shape.{Shape}
use Rattle.c_kinds.specs.declared.types.Shape.TheVariants as shape
use Rattle.c_kinds.specs.declared.types.CType.{CType}
use Rattle.c_kinds.specs.declared.types.Member.{Member}
use Rattle.c_kinds.specs.declared.typed.Fixed.{Fixed}
use Rattle.c_kinds.specs.declared.typed.Fixed.TheVariants.{Varies, NoValue, Breaks}
use Rattle.c_kinds.specs.Types.{shape_of, inner, is_array}
use Rattle.c_kinds.specs.Layouts.{members_of}
use Rattle.c_kinds.specs.declared.answer.Answer.{Answer}
use Rattle.c_kinds.specs.declared.answer.Answer.TheVariants.{Gives}
use Rattle.c_kinds.specs.Values.{used}
use Rattle.c_kinds.specs.Casts.{fits}
use Rattle.c_rules.specs.declared.names.Meaning.{Meaning}
use Rattle.c_rules.specs.declared.names.Meaning.TheVariants as meaning
use Rattle.c_rules.specs.declared.names.Object.{Object}
use Rattle.c_rules.specs.declared.names.Pair.{Pair}
use Rattle.c_rules.specs.declared.names.Names.{Names}
use Rattle.c_rules.specs.Recursion.{Nodes, DeclaratorOver, of_declarator}
use Rattle.c_rules.specs.Broken.{pair, pair_if, of_each}
use Rattle.c_rules.specs.Typing.{Given, layout_of, meaning_at, is_text, answer_of}
use Rattle.c_rules.specs.Expressions.{broken_value, broken_specifiers, broken_declarator, is_used}
use Rattle.c_rules.specs.Declarators.{holds}

-- ---- the declared name of a declarator

abbrev pub NameOver : Type 0
NameOver = DeclaratorOver ℕ (Unit {0}) (Unit {0}) (Unit {0}) (Unit {0}) (Unit {0}) (Unit {0}) (Unit {0})

abbrev pub name_node : NameOver → ℕ
name_node (d.«Declarator::Name» name at) = at
name_node (d.Unnamed at) = at
name_node (d.Pointer qualifiers inside at) = inside.1
name_node (d.Array inside size at) = inside.1
name_node (d.OpenArray inside at) = inside.1
name_node (d.«Declarator::Function» inside ps variadic at) = inside.1

abbrev pub naming : Nodes ℕ (Unit {0}) (Unit {0}) (Unit {0}) (Unit {0}) (Unit {0}) (Unit {0}) (Unit {0})
naming = record { declarator = name_node; constant = λ _. tt; expression = λ _. tt; member = λ _. tt; specifier = λ _. tt; line = λ _. tt; parameter = λ _. tt; type_name = λ _. tt }

-- the token of the name, or the next one where there is none
unfoldable pub name_at : Declarator → ℕ
name_at x = of_declarator naming x

-- ---- initialisers: each breaks its rule at the `=`

-- what is initialised: its type, whether it is static, the `=`, and the first token of the initialiser
pub record Initialised : Type 0 where
  pub ctype : Option CType
  pub is_static : Bool
  pub equals : ℕ
  pub first : ℕ

-- a constant for a static object, whose evaluation breaks no check (6.6p7)
abbrev pub is_constant : Fixed → Bool
is_constant Varies = false
is_constant Breaks = false
is_constant _ = true

abbrev pub is_without_value : Fixed → Bool
is_without_value NoValue = true
is_without_value _ = false

-- rule 13 where the value doesn't fit, rule 21 where a static one is no constant, rule 25 where it has no value
abbrev pub value_pairs : Initialised → CType → Answer → List Pair
value_pairs x t (Gives v) =
    pair_if (not (fits t v)) x.equals 13 ++ pair_if (x.is_static && not (is_constant v.fixed)) x.equals 21
    ++ pair_if (x.is_static && is_without_value v.fixed) x.first 25
value_pairs x t _ = []

abbrev pub value_by : Initialised → Shape → CType → Answer → List Pair
value_by x (shape.Array n) t v = pair x.equals 21 ∷ []
value_by x (shape.Function n) t v = []
value_by x shape.Void t v = []
value_by x _ t v = value_pairs x t v

-- an expression for the whole object; an array has none
abbrev pub one_value : Initialised → Option CType → Answer → List Pair
one_value x None v = []
one_value x (Some t) v = value_by x (shape_of t) t v

abbrev pub part_of : Initialised → ℕ → Option CType → Initialised
part_of x first t = record x { ctype = t; first = first }

abbrev pub member_types : List Member → List (Option CType)
member_types [] = []
member_types (m ∷ ms) = m.ctype ∷ member_types ms

module _ {I : Type 0} where
  -- parts of one type
  abbrev pub elements : (I → Initialised → List Pair) → Initialised → List I → List Pair
  elements w x [] = []
  elements w x (p ∷ ps) = w p x ++ elements w x ps

  -- parts in the order of the members, and no more than these
  abbrev pub members : (I → Initialised → List Pair) → Initialised → List (Option CType) → List I → List Pair
  members w x types [] = []
  members w x [] (p ∷ ps) = pair x.equals 21 ∷ elements w (part_of x x.first None) (p ∷ ps)
  members w x (t ∷ ts) (p ∷ ps) = w p (part_of x x.first t) ++ members w x ts ps

  -- `first` is the token after the `{`
  abbrev pub parts_by : Given → (I → Initialised → List Pair) → Initialised → ℕ → Shape → CType → List I → List Pair
  parts_by g w x first (shape.Array n) t ps = pair_if (not (nat_le (length ps) n)) x.equals 21 ++ elements w (part_of x first (Some (inner t))) ps
  parts_by g w x first (shape.Struct n) t ps = members w (part_of x first None) (member_types (members_of g.names.structs n)) ps
  parts_by g w x first (shape.Function n) t ps = elements w (part_of x first None) ps
  parts_by g w x first shape.Void t ps = elements w (part_of x first None) ps
  parts_by g w x first _ t ps = pair x.equals 21 ∷ elements w (part_of x first None) ps

  abbrev pub parts_pairs : Given → (I → Initialised → List Pair) → Initialised → ℕ → Option CType → List I → List Pair
  parts_pairs g w x first None ps = elements w (part_of x first None) ps
  parts_pairs g w x first (Some t) ps = parts_by g w x first (shape_of t) t ps

  -- a string for an array breaks the rule of initialisers, and not that of strings
  abbrev pub initialiser_pairs : Given → (I → Initialised → List Pair) → Initialiser-F I → Initialised → List Pair
  initialiser_pairs g w (i.Value v at) x =
      if is_text v && holds is_array x.ctype then pair x.equals 21 ∷ []
      else broken_value g v is_used ++ one_value (record x { first = at }) x.ctype (used (layout_of g) (answer_of g v false) is_used)
  initialiser_pairs g w (i.Braces ps at) x = parts_pairs g w x (at + 1) x.ctype ps

unfoldable pub broken_initialiser : Given → Initialiser → Initialised → List Pair
broken_initialiser g = para-Initialiser (Initialised → List Pair) (initialiser_pairs {I = Initialiser × (Initialised → List Pair)} g (λ x. x.1))

-- ---- declarations (6.7)

abbrev pub object_initialised : ℕ → Option Object → Initialised
object_initialised equals None = record { ctype = None; is_static = false; equals = equals; first = equals + 1 }
object_initialised equals (Some o) = record { ctype = o.ctype; is_static = o.is_static; equals = equals; first = equals + 1 }

abbrev pub initialised_at : Names → ℕ → Option Meaning → Initialised
initialised_at names equals (Some (meaning.Object n)) = object_initialised equals (slice_get names.objects n)
initialised_at names equals _ = object_initialised equals None

abbrev pub is_extern_word : StorageWord → Bool
is_extern_word storage.Extern = true
is_extern_word _ = false

abbrev pub is_extern : Specifier → Bool
is_extern x = elim (out-Specifier x) as (λ _. Bool) [ s.Storage w at ↦ is_extern_word w | _ ↦ false ]

-- an object that is declared `extern` in a block has no initialiser (6.7.9p5)
abbrev pub declared_pairs : Given → Bool → Declared → List Pair
declared_pairs g extern_in_block (declared.Plain inside) = broken_declarator g inside
declared_pairs g extern_in_block (declared.Initialised inside value at) =
    broken_declarator g inside ++ pair_if extern_in_block at 21
    ++ broken_initialiser g value (initialised_at g.names at (meaning_at g.names (name_at inside)))

abbrev pub broken_declaration : Given → Bool → Declaration → List Pair
broken_declaration g in_block x = broken_specifiers g x.specifiers ++ of_each (declared_pairs g (in_block && list_any is_extern x.specifiers)) x.names
