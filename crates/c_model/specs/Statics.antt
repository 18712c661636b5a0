-- Static objects: they live from the start, with the values of their initialisers (6.2.4p3, 6.7.9p4, p10). Sections are those
-- of ISO/IEC 9899:2011.
use Rattle.std.specs.Prelude.{ℕ, ◌+◌, nat_eq, false, List, [], ◌∷◌, ◌++◌, length, drop, map, position, Option, Some, None, if◌then◌else◌}
use Rattle.c_tree.specs.declared.expression.Expression.{Expression}
use Rattle.c_tree.specs.declared.declaration.Declared.{Declared}
use Rattle.c_tree.specs.declared.declaration.Declared.TheVariants as declared
use Rattle.c_tree.specs.declared.declaration.External.{External}
use Rattle.c_tree.specs.declared.declaration.External.TheVariants as external
use Rattle.c_tree.specs.declared.declaration.Initialiser.{Initialiser}
use Rattle.c_tree.specs.declared.declaration.Initialiser.TheOpen.{Initialiser-F}
use Rattle.c_tree.specs.declared.declaration.Initialiser.TheOpen.{Initialiser-F as i}
use Rattle.c_tree.specs.declared.declaration.Initialiser.TheFolds.{para-Initialiser}
use Rattle.c_tree.specs.declared.statement.Statement.{Statement}
use Rattle.c_tree.specs.declared.statement.Branch.{Branch}
use Rattle.c_tree.specs.declared.statement.BlockItem.{BlockItem}
use Rattle.c_tree.specs.declared.statement.BlockItem.TheOpen.{Statement-F, BlockItem-F, Branch-F}
use Rattle.c_tree.specs.declared.statement.BlockItem.TheOpen.{Statement-F as t, BlockItem-F as b}
use Rattle.c_tree.specs.declared.statement.BlockItem.TheFolds.{para-BlockItem}
use Rattle.c_tree.specs.declared.statement.ForStart.{ForStart}
use Rattle.c_tree.specs.declared.statement.ForStart.TheVariants as start
use Rattle.c_kinds.specs.declared.types.CType.{CType}
use Rattle.c_kinds.specs.declared.typed.Fixed.{Fixed}
use Rattle.c_kinds.specs.declared.typed.Fixed.TheVariants as fixed
use Rattle.c_kinds.specs.Types.{shape_of}
use Rattle.c_kinds.specs.declared.answer.Answer.{Answer}
use Rattle.c_kinds.specs.declared.answer.Answer.TheVariants.{Gives}
use Rattle.c_kinds.specs.Values.{used}
use Rattle.c_rules.specs.declared.names.Meaning.{Meaning}
use Rattle.c_rules.specs.declared.names.Meaning.TheVariants as meaning
use Rattle.c_rules.specs.Accepted.{given_in}
use Rattle.c_rules.specs.Typing.{layout_of, answer_of}
use Rattle.c_rules.specs.declared.program.Program.{Program}
use Rattle.c_model.specs.declared.values.Scalar.{Scalar}
use Rattle.c_model.specs.declared.values.Scalar.TheVariants.{Number, Null}
use Rattle.c_model.specs.declared.values.Object.{Object}
use Rattle.c_model.specs.Programs.{types_of, part_type, object_type, statics_of, declares}
use Rattle.c_model.specs.Values.{scalar_as, zero_of}
use Rattle.c_model.specs.Store.{place_by, further}

-- ---- the initialisers of a text, each with the object that it is of

-- an object and its initialiser
pub record Initialised : Type 0 where
  pub number : ℕ
  pub initialiser : Initialiser

-- an initialiser is that of the object which its declarator declares (6.7.9p3)
abbrev pub initialised_by : Option Meaning → Initialiser → List Initialised
initialised_by (Some (meaning.Object number)) x = record { number = number; initialiser = x } ∷ []
initialised_by _ x = []

-- the initialiser of a declarator, if it has one (6.7)
abbrev pub of_name : Program → Declared → List Initialised
of_name p (declared.Plain declarator) = []
of_name p (declared.Initialised declarator initialiser at) = initialised_by (declares p (declared.Initialised declarator initialiser at)) initialiser

-- those of a declaration
abbrev pub of_names : Program → List Declared → List Initialised
of_names p [] = []
of_names p (x ∷ xs) = of_name p x ++ of_names p xs

-- those of the first part of a `for` (6.8.5.3)
abbrev pub of_start : Program → ForStart → List Initialised
of_start p (start.Declared declaration) = of_names p declaration.names
of_start p _ = []

-- those of each part, in order
abbrev pub of_parts : {X : Type 0} → (X → List Initialised) → List X → List Initialised
of_parts w [] = []
of_parts w (x ∷ xs) = w x ++ of_parts w xs

module _ {B X R : Type 0} where
  -- those of an item of a block (6.8.2)
  abbrev pub of_item : Program → (X → List Initialised) → BlockItem-F B X R → List Initialised
  of_item p w (b.Declared declaration) = of_names p declaration.names
  of_item p w (b.Run x) = w x

  -- those in a branch of an `if` (6.8.4.1)
  abbrev pub of_branch : (X → List Initialised) → Branch-F B X R → List Initialised
  of_branch w x = w x.body

  -- those of the declarations in a statement (6.8)
  abbrev pub of_statement : Program → (B → List Initialised) → (X → List Initialised) → (R → List Initialised) → Statement-F B X R → List Initialised
  of_statement p item w branch (t.Block items at) = of_parts item items
  of_statement p item w branch (t.Label name body at) = w body
  of_statement p item w branch (t.Case value body at) = w body
  of_statement p item w branch (t.Default body at) = w body
  of_statement p item w branch (t.If branches) = of_parts branch branches
  of_statement p item w branch (t.IfElse branches otherwise) = of_parts branch branches ++ w otherwise
  of_statement p item w branch (t.Switch value body at) = w body
  of_statement p item w branch (t.While test body at) = w body
  of_statement p item w branch (t.Do body test at) = w body
  of_statement p item w branch (t.For first test step body at) = of_start p first ++ w body
  of_statement p item w branch _ = []

-- those of an item and of all that stands in it
unfoldable pub in_item : Program → BlockItem → List Initialised
in_item p = para-BlockItem (List Initialised) (List Initialised) (List Initialised)
    (of_item {B = BlockItem × List Initialised} {X = Statement × List Initialised} {R = Branch × List Initialised} p (λ x. x.1))
    (of_statement {B = BlockItem × List Initialised} {X = Statement × List Initialised} {R = Branch × List Initialised} p (λ x. x.1) (λ x. x.1) (λ x. x.1))
    (of_branch {B = BlockItem × List Initialised} {X = Statement × List Initialised} {R = Branch × List Initialised} (λ x. x.1))

-- those of an external declaration (6.9)
abbrev pub in_external : Program → External → List Initialised
in_external p (external.Empty at) = []
in_external p (external.Declared declaration) = of_names p declaration.names
in_external p (external.Defined specifiers declarator body at) = of_parts (in_item p) body

-- those of the whole text
abbrev pub in_text : Program → List Initialised
in_text p = of_parts (in_external p) p.tree.externals

-- the initialiser of this object
abbrev pub initialiser_in : ℕ → List Initialised → Option Initialiser
initialiser_in number [] = None
initialiser_in number (x ∷ xs) = if nat_eq x.number number then Some x.initialiser else initialiser_in number xs

-- ---- what a constant initialiser gives (6.6p7, p9, 6.7.9p4)

-- what an expression is as a constant (6.6)
abbrev pub constant_of : Answer → Fixed
constant_of (Gives x) = x.fixed
constant_of _ = fixed.Varies

-- the constant that an expression is as a value
abbrev pub constant_in : Program → Expression → Fixed
constant_in p x = constant_of (used (layout_of (given_in p)) (answer_of (given_in p) x false) (λ v. Gives v))

-- a static object's address, by its place among the static objects
abbrev pub address_of : Program → ℕ → Scalar
address_of p number = place_by (position (nat_eq number) (statics_of p))

-- the value of a constant: a number, a null pointer, or an address constant (6.6p7, p9)
abbrev pub scalar_of : Program → Fixed → Scalar
scalar_of p (fixed.Number n) = Number n
scalar_of p (fixed.At number cell) = further cell (address_of p number)
scalar_of p _ = Null

-- cells that are left out are 0 or null (6.7.9p21)
abbrev pub filled_up : Program → CType → List Scalar → List Scalar
filled_up p t found = found ++ map zero_of (drop (length found) (types_of p t))

module _ {I : Type 0} where
  -- the parts from this number on, in order (6.7.9p17)
  abbrev pub parts_from : Program → (I → CType → List Scalar) → CType → ℕ → List I → List Scalar
  parts_from p w t part [] = []
  parts_from p w t part (x ∷ xs) = w x (part_type p t part) ++ parts_from p w t (part + 1) xs

  -- an expression's constant as a value of the type (6.7.9p11), or the parts of a braced initialiser (6.7.9p17)
  abbrev pub initial_node : Program → (I → CType → List Scalar) → Initialiser-F I → CType → List Scalar
  initial_node p w (i.Value value at) t = scalar_as (shape_of t) (scalar_of p (constant_in p value)) ∷ []
  initial_node p w (i.Braces parts at) t = filled_up p t (parts_from p w t 0 parts)

-- the initial cells of a part of this type
unfoldable pub initial_cells : Program → Initialiser → CType → List Scalar
initial_cells p = para-Initialiser (CType → List Scalar) (initial_node {I = Initialiser × (CType → List Scalar)} p (λ x. x.1))

-- without an initialiser every cell is 0 or null (6.7.9p10)
abbrev pub initial_by : Program → CType → Option Initialiser → List Scalar
initial_by p t None = filled_up p t []
initial_by p t (Some x) = initial_cells p x t

-- a static object, as it is before the program starts (5.1.2p1)
abbrev pub static_object : Program → ℕ → Object
static_object p number = record { number = number; cells = initial_by p (object_type p number) (initialiser_in number (in_text p)) }

-- in the order of their first declarations
abbrev pub statics : Program → List Object
statics p = map (static_object p) (statics_of p)
