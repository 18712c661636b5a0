-- Code on the control stack: it breaks no rule where it stands, and the table has the types of its expressions. What is asked of
-- expressions and initialisers is left open here. Sections are those of ISO/IEC 9899:2011.
use Rattle.std.proofs.Common.{◌≡◌, ℕ, ◌+◌, Bool, true, false, List, [], ◌∷◌, Option, Some, None, slice_get}
use Rattle.c_tree.specs.declared.expression.UnaryOperator.{UnaryOperator}
use Rattle.c_tree.specs.declared.expression.UnaryOperator.TheVariants as u
use Rattle.c_tree.specs.declared.expression.Expression.{Expression, out-Expression}
use Rattle.c_tree.specs.declared.expression.Declarator.TheOpen.{Expression-F as e}
use Rattle.c_tree.specs.declared.declaration.Declared.{Declared}
use Rattle.c_tree.specs.declared.declaration.Initialiser.{Initialiser, out-Initialiser}
use Rattle.c_tree.specs.declared.declaration.Initialiser.TheOpen.{Initialiser-F}
use Rattle.c_tree.specs.declared.declaration.Initialiser.TheOpen.{Initialiser-F as i}
use Rattle.c_tree.specs.declared.statement.Statement.{Statement}
use Rattle.c_tree.specs.declared.statement.Branch.{Branch}
use Rattle.c_tree.specs.declared.statement.BlockItem.{BlockItem}
use Rattle.c_kinds.specs.declared.types.CType.{CType}
use Rattle.c_rules.specs.declared.names.Meaning.TheVariants as meaning
use Rattle.c_rules.specs.declared.program.Program.{Program}
use Rattle.c_rules.specs.Recursion.{of_expression}
use Rattle.c_rules.specs.Accepted.{given_in}
use Rattle.c_rules.specs.Expressions.{broken_expression}
use Rattle.c_rules.specs.Found.{answering, looking, found_in_item, found_in_initialiser, found_in_declared}
use Rattle.c_rules.specs.Initialisers.{broken_initialiser, declared_pairs, initialised_at}
use Rattle.c_rules.specs.Statements.{Near, apart, function_result, judge_item}
use Rattle.c_rules.proofs.Judging.{judge_statement, judge_branch}
use Rattle.c_model.specs.Programs.{ExpressionNode, object_type, part_type}
use Rattle.c_model.specs.Declarations.{part_offset}
use Rattle.c_model.specs.Configurations.{Item, Value, Needs, Place, Locates, CommaParts, Work, Tests, Decides, Rest, Branches, Branching, Branched, Seeks, Labels, Switched, Loop, Again, Breaking, Continuing, Back, Declaring, Fills, Parts}
use Rattle.c_heads.specs.Controls.{running_in}
use Rattle.c_sound.proofs.Tables.{AreTold}
use Rattle.c_sound.proofs.Founds.{found_in_statement, found_in_branch}

-- ---- each of a list

abbrev pub Each : {A : Type 0} → (A → Type 0) → List A → Type 0
Each P [] = Unit {0}
Each P (x ∷ xs) = P x × Each P xs

-- ---- where jumps lead

-- a loop or a `switch` stands around, in the same function
abbrev pub MayBreak : List Item → Type 0
MayBreak [] = ⊥
MayBreak (Switched ∷ rest) = Unit {0}
MayBreak (Again s ∷ rest) = Unit {0}
MayBreak (Back function objects ∷ rest) = ⊥
MayBreak (_ ∷ rest) = MayBreak rest

-- a loop stands around
abbrev pub MayContinue : List Item → Type 0
MayContinue [] = ⊥
MayContinue (Again s ∷ rest) = Unit {0}
MayContinue (Back function objects ∷ rest) = ⊥
MayContinue (_ ∷ rest) = MayContinue rest

-- what the rules take for granted of a statement's surroundings is so
pub record Around (p : Program) (near : Near) (rest : List Item) : Type 0 where
  pub breaks : near.may_break ≡ true → MayBreak rest
  pub continues : near.may_continue ≡ true → MayContinue rest
  pub result : (f : ℕ) → running_in rest ≡ Some f → near.result ≡ function_result p.names (slice_get p.names.functions f)

-- ---- statements, where they stand

pub record StatementIn (p : Program) (near : Near) (x : Statement) : Type 0 where
  pub clear : (judge_statement (given_in p) x).broken near ≡ []
  pub told : AreTold p (found_in_statement (looking (answering (given_in p))) x)

pub record ItemIn (p : Program) (near : Near) (x : BlockItem) : Type 0 where
  pub clear : (judge_item (given_in p) x).broken near ≡ []
  pub told : AreTold p (found_in_item (looking (answering (given_in p))) x)

pub record BranchIn (p : Program) (near : Near) (x : Branch) : Type 0 where
  pub clear : (judge_branch (given_in p) x).broken near ≡ []
  pub told : AreTold p (found_in_branch (looking (answering (given_in p))) x)

abbrev pub OtherwiseIn : Program → Near → Option Statement → Type 0
OtherwiseIn p near None = Unit {0}
OtherwiseIn p near (Some x) = StatementIn p (apart near) x

abbrev pub ItemsIn : Program → Near → Option (List BlockItem) → Type 0
ItemsIn p near None = Unit {0}
ItemsIn p near (Some xs) = Each (ItemIn p near) xs

pub record DeclaredIn (p : Program) (x : Declared) : Type 0 where
  pub is_extern : Bool
  pub clear : declared_pairs (given_in p) is_extern x ≡ []
  pub told : AreTold p (found_in_declared (answering (given_in p)) x)

-- ---- on the control stack

pub record StatementOn (p : Program) (rest : List Item) (x : Statement) : Type 0 where
  pub near : Near
  pub around : Around p near rest
  pub is : StatementIn p near x

pub record BlockOn (p : Program) (rest : List Item) (xs : List BlockItem) : Type 0 where
  pub near : Near
  pub around : Around p near rest
  pub are : Each (ItemIn p near) xs

pub record BranchesOn (p : Program) (rest : List Item) (xs : List Branch) (otherwise : Option Statement) : Type 0 where
  pub near : Near
  pub around : Around p near rest
  pub are : Each (BranchIn p near) xs
  pub last : OtherwiseIn p near otherwise

-- the items of a `switch` body run above its end
pub record SwitchOn (p : Program) (rest : List Item) (xs : List BlockItem) (otherwise : Option (List BlockItem)) : Type 0 where
  pub near : Near
  pub around : Around p near (Switched ∷ rest)
  pub are : Each (ItemIn p near) xs
  pub by_default : ItemsIn p near otherwise

-- ---- what is asked of expressions, for their values and for their places, and of initialisers

pub record Asked : Type 1 where
  pub OfValue : Expression → Type 0
  pub OfPlace : Expression → Type 0
  pub OfPart : ℕ → ℕ → CType → Initialiser → Type 0
  pub OfParts : ℕ → ℕ → CType → ℕ → List Initialiser → Type 0

module _ (a : Asked) where
  -- what is evaluated for the value of an expression
  abbrev pub PointedParts : UnaryOperator → Expression → Type 0
  PointedParts u.Indirection pointer = a.OfValue pointer
  PointedParts _ pointer = Unit {0}

  abbrev pub AddressParts : Expression → ExpressionNode → Type 0
  AddressParts operand (e.Unary operator pointer at) = PointedParts operator pointer
  AddressParts operand (e.Subscript array index at) = a.OfValue array × a.OfValue index
  AddressParts operand _ = a.OfPlace operand

  abbrev pub UnaryParts : UnaryOperator → Expression → Expression → Type 0
  UnaryParts u.Address x operand = AddressParts operand (out-Expression operand)
  UnaryParts u.Indirection x operand = a.OfPlace x
  UnaryParts _ x operand = a.OfValue operand

  abbrev pub ValueParts : Expression → ExpressionNode → Type 0
  ValueParts x (e.Subscript array index at) = a.OfPlace x
  ValueParts x (e.Call function arguments at) = Each a.OfValue arguments
  ValueParts x (e.Member object name at) = a.OfPlace x
  ValueParts x (e.PointedMember pointer name at) = a.OfPlace x
  ValueParts x (e.Postfix step operand at) = a.OfPlace operand
  ValueParts x (e.Prefix step operand at) = a.OfPlace operand
  ValueParts x (e.Unary operator operand at) = UnaryParts operator x operand
  ValueParts x (e.Cast type_name operand at) = a.OfValue operand
  ValueParts x (e.Binary operator left right at) = a.OfValue left × a.OfValue right
  ValueParts x (e.Conditional test first otherwise at) = a.OfValue test × (a.OfValue first × a.OfValue otherwise)
  ValueParts x (e.Assign operator target value at) = a.OfPlace target × a.OfValue value
  ValueParts x (e.Comma parts at) = Each a.OfValue parts
  ValueParts x _ = Unit {0}

  -- and for its place
  abbrev pub PlaceParts : ExpressionNode → Type 0
  PlaceParts (e.Subscript array index at) = a.OfValue array × a.OfValue index
  PlaceParts (e.Member object name at) = a.OfPlace object
  PlaceParts (e.PointedMember pointer name at) = a.OfValue pointer
  PlaceParts (e.Unary operator operand at) = PointedParts operator operand
  PlaceParts _ = Unit {0}

  abbrev pub InitialiserParts : ℕ → ℕ → CType → Initialiser-F Initialiser → Type 0
  InitialiserParts number offset t (i.Value value at) = a.OfValue value
  InitialiserParts number offset t (i.Braces parts at) = a.OfParts number offset t 0 parts

-- it is so of all parts, where it is so of the whole, and it is so of full expressions and initialisers of the text
pub record IsKept (p : Program) (a : Asked) : Type 0 where
  pub value : (x : Expression) → a.OfValue x → ValueParts a x (out-Expression x)
  pub place : (x : Expression) → a.OfPlace x → PlaceParts a (out-Expression x)
  pub initialiser : (number offset : ℕ) (t : CType) (x : Initialiser) → a.OfPart number offset t x → InitialiserParts a number offset t (out-Initialiser x)
  pub parts : (number offset : ℕ) (t : CType) (part : ℕ) (x : Initialiser) (left : List Initialiser) → a.OfParts number offset t part (x ∷ left)
      → a.OfPart number (offset + part_offset p t part) (part_type p t part) x × a.OfParts number offset t (part + 1) left
  pub full : (x : Expression) → broken_expression (given_in p) x ≡ [] → AreTold p (of_expression (answering (given_in p)) x false) → a.OfValue x
  pub whole : (number equals : ℕ) (x : Initialiser) → broken_initialiser (given_in p) x (initialised_at p.names equals (Some (meaning.Object number))) ≡ []
      → AreTold p (found_in_initialiser (answering (given_in p)) x) → a.OfPart number 0 (object_type p number) x

-- ---- items

abbrev pub IsCode : Program → Asked → Item → List Item → Type 0
IsCode p a (Value x found) rest = a.OfValue x
IsCode p a (Needs x found) rest = a.OfValue x
IsCode p a (Place x found) rest = a.OfPlace x
IsCode p a (Locates x found) rest = a.OfPlace x
IsCode p a (CommaParts left) rest = Each a.OfValue left
IsCode p a (Work s) rest = StatementOn p rest s
IsCode p a (Tests s) rest = StatementOn p rest s
IsCode p a (Decides s v) rest = StatementOn p rest s
IsCode p a (Rest left) rest = BlockOn p rest left
IsCode p a (Branches left otherwise) rest = BranchesOn p rest left otherwise
IsCode p a (Branching left otherwise) rest = BranchesOn p rest left otherwise
IsCode p a (Branched left otherwise v) rest = BranchesOn p rest left otherwise
IsCode p a (Seeks kind value left otherwise) rest = SwitchOn p rest left otherwise
IsCode p a (Labels kind value s left otherwise) rest = SwitchOn p rest left otherwise
IsCode p a (Loop s) rest = StatementOn p rest s
IsCode p a (Again s) rest = StatementOn p rest s
IsCode p a Breaking rest = MayBreak rest
IsCode p a Continuing rest = MayContinue rest
IsCode p a (Declaring left) rest = Each (DeclaredIn p) left
IsCode p a (Fills number offset t x) rest = a.OfPart number offset t x
IsCode p a (Parts number offset t part left) rest = a.OfParts number offset t part left
IsCode p a _ rest = Unit {0}

abbrev pub AreCode : Program → Asked → List Item → Type 0
AreCode p a [] = Unit {0}
AreCode p a (item ∷ rest) = IsCode p a item rest × AreCode p a rest
