-- The straight program that a tree is. Sections are those of ISO/IEC 9899:2011.
use Rattle.std.specs.Prelude.{◌≡◌, ℕ, zero, suc, ℤ, pos, ◌^◌, Bool, true, false, not, ◌&&◌, nat_lt, nat_eq, List, [], ◌∷◌, ◌++◌, length, Option, Some, None, slice_get, unwrap_or, if◌then◌else◌, codes}
use Rattle.std.specs.Option.{is_some}
use Rattle.std.specs.Str.{bytes_eq}
use Rattle.kv_num.specs.declared.types.IntType.{IntType}
use Rattle.kv_num.specs.declared.types.IntType.TheVariants.{Int}
use Rattle.c_straight_model.specs.declared.program.Operand.{Operand}
use Rattle.c_straight_model.specs.declared.program.Operand.TheVariants as operand
use Rattle.c_straight_model.specs.declared.program.Sign.{Sign}
use Rattle.c_straight_model.specs.declared.program.Sign.TheVariants.{Plus, Minus}
use Rattle.c_straight_model.specs.declared.program.Sum.{Sum}
use Rattle.c_straight_model.specs.declared.program.Relation.{Relation}
use Rattle.c_straight_model.specs.declared.program.Relation.TheVariants as relation
use Rattle.c_straight_model.specs.declared.program.BlockItem.{BlockItem}
use Rattle.c_straight_model.specs.declared.program.BlockItem.TheVariants as straight
use Rattle.c_straight_model.specs.declared.program.Program.{Program}
use Rattle.c_tree.specs.declared.expression.BinaryOperator.{BinaryOperator}
use Rattle.c_tree.specs.declared.expression.BinaryOperator.TheVariants as binary
use Rattle.c_tree.specs.declared.expression.AssignOperator.{AssignOperator}
use Rattle.c_tree.specs.declared.expression.AssignOperator.TheVariants.{Plain}
use Rattle.c_tree.specs.declared.expression.BaseWord.{BaseWord}
use Rattle.c_tree.specs.declared.expression.BaseWord.TheVariants as word
use Rattle.c_tree.specs.declared.expression.Expression.{Expression, out-Expression}
use Rattle.c_tree.specs.declared.expression.Specifier.{Specifier, out-Specifier}
use Rattle.c_tree.specs.declared.expression.Declarator.{Declarator, out-Declarator}
use Rattle.c_tree.specs.declared.expression.Declarator.TheOpen.{Expression-F as e, Specifier-F as s, Declarator-F as d}
use Rattle.c_tree.specs.declared.expression.Parameter.{Parameter, out-Parameter}
use Rattle.c_tree.specs.declared.declaration.Initialiser.{Initialiser, out-Initialiser}
use Rattle.c_tree.specs.declared.declaration.Initialiser.TheOpen.{Initialiser-F as i}
use Rattle.c_tree.specs.declared.declaration.Declared.{Declared}
use Rattle.c_tree.specs.declared.declaration.Declared.TheVariants as declared
use Rattle.c_tree.specs.declared.declaration.Declaration.{Declaration}
use Rattle.c_tree.specs.declared.declaration.External.{External}
use Rattle.c_tree.specs.declared.declaration.External.TheVariants as external
use Rattle.c_tree.specs.declared.declaration.Tree.{Tree}
use Rattle.c_tree.specs.declared.statement.Statement.{Statement, out-Statement}
use Rattle.c_tree.specs.declared.statement.BlockItem.{BlockItem as TreeItem, out-BlockItem}
use Rattle.c_tree.specs.declared.statement.BlockItem.TheOpen.{Statement-F as t, BlockItem-F as b}
use Rattle.c_straight.specs.Names.{AreScoped}

-- ---- options

abbrev pub and_then : {A B : Type 0} → Option A → (A → Option B) → Option B
and_then None f = None
and_then (Some x) f = f x

abbrev pub where_true : {A : Type 0} → Bool → Option A → Option A
where_true true o = o
where_true false o = None

-- ---- sums (6.5.6)

-- a constant of type int that isn't negative (6.4.4.1)
abbrev pub number_of : IntType → ℤ → Option Operand
number_of Int (pos value) = if nat_lt value (2 ^ 31) then Some (operand.Number value) else None
number_of _ _ = None

abbrev pub operand_of : Expression → Option Operand
operand_of x = elim (out-Expression x) as (λ _. Option Operand) [
  | e.«Expression::Name» name at ↦ Some (operand.Name name)
  | e.Constant kind value at ↦ number_of kind value
  | _ ↦ None
]

abbrev pub sign_of : BinaryOperator → Option Sign
sign_of binary.Add = Some Plus
sign_of binary.Subtract = Some Minus
sign_of _ = None

abbrev pub alone : Operand → Sum
alone x = record { first = x; rest = [] }

abbrev pub with_addend : Sum → Sign → Operand → Sum
with_addend sum sign x = record { first = sum.first; rest = sum.rest ++ record { sign = sign; operand = x } ∷ [] }

abbrev pub sum_by : (Expression → Option Sum) → Expression → Option Sum
sum_by left_sum x = elim (out-Expression x) as (λ _. Option Sum) [
  | e.Binary operator left right at ↦ and_then (sign_of operator) (λ sign. and_then (left_sum left) (λ sum. and_then (operand_of right) (λ o. Some (with_addend sum sign o))))
  | _ ↦ and_then (operand_of x) (λ o. Some (alone o))
]

-- a sum of at most n operands; a text has no sum of more operands than it has tokens
unfoldable pub sum_of : ℕ → Expression → Option Sum
sum_of zero x = None
sum_of (suc n) x = sum_by (sum_of n) x

-- ---- items (6.8.2)

-- the line of the token of this number
abbrev pub line_at : List ℕ → ℕ → ℕ
line_at lines at = unwrap_or (slice_get lines at) 0

-- an expression that is a name: the name, and its token's number
abbrev pub name_in : Expression → Option (List ℕ)
name_in x = elim (out-Expression x) as (λ _. Option (List ℕ)) [ e.«Expression::Name» name at ↦ Some name | _ ↦ None ]

abbrev pub place_of : Expression → ℕ
place_of x = elim (out-Expression x) as (λ _. ℕ) [ e.«Expression::Name» name at ↦ at | _ ↦ 0 ]

-- the one specifier `int`, by its token's number
abbrev pub int_at : BaseWord → ℕ → Option ℕ
int_at word.Int at = Some at
int_at _ at = None

abbrev pub int_place : List Specifier → Option ℕ
int_place (x ∷ []) = elim (out-Specifier x) as (λ _. Option ℕ) [ s.Base w at ↦ int_at w at | _ ↦ None ]
int_place _ = None

abbrev pub name_of : Declarator → Option (List ℕ)
name_of x = elim (out-Declarator x) as (λ _. Option (List ℕ)) [ d.«Declarator::Name» name at ↦ Some name | _ ↦ None ]

abbrev pub value_of : ℕ → Initialiser → Option Sum
value_of n x = elim (out-Initialiser x) as (λ _. Option Sum) [ i.Value value at ↦ sum_of n value | _ ↦ None ]

-- `int name = sum;`
abbrev pub declared_by : List ℕ → ℕ → ℕ → List Declared → Option BlockItem
declared_by lines n at (declared.Initialised declarator value equals ∷ []) =
    and_then (name_of declarator) (λ name. and_then (value_of n value) (λ sum. Some (straight.Declare name sum (line_at lines at))))
declared_by lines n at _ = None

abbrev pub declaration_of : List ℕ → ℕ → Declaration → Option BlockItem
declaration_of lines n x = and_then (int_place x.specifiers) (λ at. declared_by lines n at x.names)

-- `name = sum;`
abbrev pub assignment_of : List ℕ → ℕ → AssignOperator → Expression → Expression → Option BlockItem
assignment_of lines n Plain target value =
    and_then (name_in target) (λ name. and_then (sum_of n value) (λ sum. Some (straight.Assign name sum (line_at lines (place_of target)))))
assignment_of lines n _ target value = None

-- 6.5.9
abbrev pub relation_of : BinaryOperator → Option Relation
relation_of binary.Equal = Some relation.Equal
relation_of binary.NotEqual = Some relation.Unequal
relation_of _ = None

abbrev pub comparison_of : ℕ → ℕ → BinaryOperator → Expression → Expression → Option BlockItem
comparison_of n line operator left right =
    and_then (relation_of operator) (λ r. and_then (sum_of n left) (λ v. and_then (sum_of n right) (λ w. Some (straight.Assert r v w line))))

abbrev pub asserted : ℕ → ℕ → Expression → Option BlockItem
asserted n line x = elim (out-Expression x) as (λ _. Option BlockItem) [ e.Binary operator left right at ↦ comparison_of n line operator left right | _ ↦ None ]

abbrev pub is_named : List ℕ → Option (List ℕ) → Bool
is_named text None = false
is_named text (Some name) = bytes_eq name text

-- `assert(sum == sum);` or `assert(sum != sum);`
abbrev pub call_of : List ℕ → ℕ → Expression → List Expression → Option BlockItem
call_of lines n function (x ∷ []) = where_true (is_named (codes "assert") (name_in function)) (asserted n (line_at lines (place_of function)) x)
call_of lines n function _ = None

abbrev pub value_item : List ℕ → ℕ → Expression → Option BlockItem
value_item lines n x = elim (out-Expression x) as (λ _. Option BlockItem) [
  | e.Assign operator target value at ↦ assignment_of lines n operator target value
  | e.Call function arguments at ↦ call_of lines n function arguments
  | _ ↦ None
]

abbrev pub statement_item : List ℕ → ℕ → Statement → Option BlockItem
statement_item lines n x = elim (out-Statement x) as (λ _. Option BlockItem) [ t.Value value at ↦ value_item lines n value | _ ↦ None ]

abbrev pub item_of : List ℕ → ℕ → TreeItem → Option BlockItem
item_of lines n x = elim (out-BlockItem x) as (λ _. Option BlockItem) [ b.Declared declaration ↦ declaration_of lines n declaration | b.Run statement ↦ statement_item lines n statement ]

-- ---- bodies

abbrev pub is_zero : Option Operand → Bool
is_zero (Some (operand.Number value)) = nat_eq value 0
is_zero _ = false

abbrev pub gives_zero : Option Expression → Bool
gives_zero (Some x) = is_zero (operand_of x)
gives_zero None = false

-- `return 0;`
abbrev pub returns_zero : TreeItem → Bool
returns_zero x = elim (out-BlockItem x) as (λ _. Bool) [
  | b.Run statement ↦ elim (out-Statement statement) as (λ _. Bool) [ t.Return value at ↦ gives_zero value | _ ↦ false ]
  | _ ↦ false
]

-- items, and `return 0;` after them
unfoldable pub body_of : List ℕ → ℕ → List TreeItem → Option (List BlockItem)
body_of lines n [] = None
body_of lines n (x ∷ []) = where_true (returns_zero x) (Some [])
body_of lines n (x ∷ (y ∷ rest)) = and_then (item_of lines n x) (λ item. and_then (body_of lines n (y ∷ rest)) (λ items. Some (item ∷ items)))

-- ---- the program

abbrev pub is_void_word : BaseWord → Bool
is_void_word word.Void = true
is_void_word _ = false

abbrev pub is_void : List Specifier → Bool
is_void (x ∷ []) = elim (out-Specifier x) as (λ _. Bool) [ s.Base w at ↦ is_void_word w | _ ↦ false ]
is_void _ = false

abbrev pub is_unnamed : Declarator → Bool
is_unnamed x = elim (out-Declarator x) as (λ _. Bool) [ d.Unnamed at ↦ true | _ ↦ false ]

-- `(void)` (6.7.6.3p10)
abbrev pub is_none : List Parameter → Bool
is_none (x ∷ []) = is_void (out-Parameter x).specifiers && is_unnamed (out-Parameter x).declarator
is_none _ = false

-- `main(void)`
abbrev pub names_main : Declarator → Bool
names_main x = elim (out-Declarator x) as (λ _. Bool) [
  | d.«Declarator::Function» inner parameters variadic at ↦ is_named (codes "main") (name_of inner) && (is_none parameters && not (is_some variadic))
  | _ ↦ false
]

abbrev pub items_of : List ℕ → List External → Option (List BlockItem)
items_of lines (external.Defined specifiers declarator body at ∷ []) =
    where_true (is_some (int_place specifiers) && names_main declarator) (body_of lines (length lines) body)
items_of lines _ = None

-- the tree is that of a straight program: one function `main` of declarations, assignments and assertions
pub record IsStraight (tree : Tree) (program : Program) : Type 0 where
  pub items : items_of tree.lines tree.externals ≡ Some program.items
  pub scoped : AreScoped [] program.items
