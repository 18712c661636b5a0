-- Which tokens spell an expression, and the types that stand in it: a case for each case of the grammar.
-- Each relation goes from the place where its tokens begin to the place where they end.
-- Sections are those of ISO/IEC 9899:2011.
use Rattle.std.specs.Prelude.{◌≡◌, ℕ, ℤ, ◌+◌, Bool, true, false, List, [], ◌∷◌, Option, Some, None}
use Rattle.kv_num.specs.declared.types.IntType.{IntType}
use Rattle.c_tokens.specs.declared.token.TokenKind.{TokenKind}
use Rattle.c_tokens.specs.declared.token.TokenKind.TheVariants as token
use Rattle.c_tree.specs.declared.expression.Step.{Step}
use Rattle.c_tree.specs.declared.expression.UnaryOperator.{UnaryOperator}
use Rattle.c_tree.specs.declared.expression.BinaryOperator.{BinaryOperator}
use Rattle.c_tree.specs.declared.expression.AssignOperator.{AssignOperator}
use Rattle.c_tree.specs.declared.expression.StorageWord.{StorageWord}
use Rattle.c_tree.specs.declared.expression.FunctionWord.{FunctionWord}
use Rattle.c_tree.specs.declared.expression.Qualifier.{Qualifier}
use Rattle.c_tree.specs.declared.expression.Qualifier.TheVariants.{Const, Restrict}
use Rattle.c_tree.specs.declared.expression.BaseWord.{BaseWord}
use Rattle.c_tree.specs.declared.expression.Expression.{Expression}
use Rattle.c_tree.specs.declared.expression.Expression.TheVariants as tree
use Rattle.c_tree.specs.declared.expression.Specifier.{Specifier}
use Rattle.c_tree.specs.declared.expression.Specifier.TheVariants as specifier_node
use Rattle.c_tree.specs.declared.expression.MemberLine.{MemberLine}
use Rattle.c_tree.specs.declared.expression.Member.{Member}
use Rattle.c_tree.specs.declared.expression.Member.TheVariants as member_node
use Rattle.c_tree.specs.declared.expression.EnumConstant.{EnumConstant}
use Rattle.c_tree.specs.declared.expression.EnumConstant.TheVariants as constant_node
use Rattle.c_tree.specs.declared.expression.Declarator.{Declarator}
use Rattle.c_tree.specs.declared.expression.Declarator.TheVariants as declarator_node
use Rattle.c_tree.specs.declared.expression.Parameter.{Parameter}
use Rattle.c_tree.specs.declared.expression.TypeName.{TypeName}
use Rattle.c_tree.specs.Places.{Entry, Place, At, next, IsTypedefName, IsOrdinary, declare, enter, leave, first_of}
use Rattle.c_tree.specs.Signs.{step_sign, unary_sign, binary_sign, assign_sign, level, storage_sign, is_typedef, function_sign, qualifier_sign, base_sign, Bracket, opening, closing, is_bracket}

-- ---- what has no meaning

-- tokens whose brackets balance
pub data IsBalanced (kinds : List TokenKind) : Place → Place → Type 0 where
  balanced_nothing : (p : Place) → IsBalanced kinds p p
  balanced_token : (p q : Place) (kind : TokenKind) → At kinds p kind → is_bracket kind ≡ false → IsBalanced kinds (next p) q → IsBalanced kinds p q
  balanced_group : (p q r : Place) (bracket : Bracket) → At kinds p (opening bracket) → IsBalanced kinds (next p) q → At kinds q (closing bracket)
      → IsBalanced kinds (next q) r → IsBalanced kinds p r

-- any number of `__attribute__((..))` and `__extension__`
pub data AreAttributes (kinds : List TokenKind) : Place → Place → Type 0 where
  no_attributes : (p : Place) → AreAttributes kinds p p
  extension : (p q : Place) → At kinds p token.Extension → AreAttributes kinds (next p) q → AreAttributes kinds p q
  attribute : (p q r : Place) → At kinds p token.Attribute → At kinds (next p) token.LeftParenthesis → At kinds (next (next p)) token.LeftParenthesis
      → IsBalanced kinds (next (next (next p))) q → At kinds q token.RightParenthesis → At kinds (next q) token.RightParenthesis
      → AreAttributes kinds (next (next q)) r → AreAttributes kinds p r

-- ---- qualifiers of a pointer (6.7.6.1)

pub data AreQualifiers (kinds : List TokenKind) : Place → Place → List Qualifier → Type 0 where
  no_qualifiers : (p : Place) → AreQualifiers kinds p p []
  more_qualifiers : (p q : Place) (qualifier : Qualifier) (further : List Qualifier) → At kinds p (qualifier_sign qualifier)
      → AreQualifiers kinds (next p) q further → AreQualifiers kinds p q (qualifier ∷ further)

-- a pointer that stands for no declarator has no `volatile`, in a type name no `restrict` either
pub data Unnamed : Type 0 where
  InParameter : Unnamed
  InTypeName : Unnamed

abbrev pub may_qualify : Unnamed → Qualifier → Bool
may_qualify InParameter Const = true
may_qualify InParameter Restrict = true
may_qualify InTypeName Const = true
may_qualify _ _ = false

abbrev pub may_all_qualify : Unnamed → List Qualifier → Bool
may_all_qualify unnamed [] = true
may_all_qualify unnamed (qualifier ∷ further) = elim (may_qualify unnamed qualifier) [ true ↦ may_all_qualify unnamed further | false ↦ false ]

-- ---- tags (6.7.2.3)

pub data IsTag (kinds : List TokenKind) : Place → Place → Option (List ℕ) → Type 0 where
  no_tag : (p : Place) → IsTag kinds p p None
  tag : (p : Place) (text : List ℕ) → At kinds p (token.Name text) → IsTag kinds p (next p) (Some text)

-- ---- specifiers so far

-- what a specifier is for the others: `typedef`, a type, or none of these
pub data Role : Type 0 where
  Defines : Role
  Types : Role
  Modifies : Role

abbrev pub storage_role : StorageWord → Role
storage_role word = elim (is_typedef word) [ true ↦ Defines | false ↦ Modifies ]

abbrev pub types_now : Bool → Role → Bool
types_now typed Types = true
types_now typed Defines = typed
types_now typed Modifies = typed

abbrev pub defines_now : Role → Bool → Bool
defines_now Defines further = true
defines_now Types further = further
defines_now Modifies further = further

-- specifiers end here: where no type stands among them, a typedef name would be a further one
abbrev pub EndsSpecifiers : List TokenKind → Bool → Place → Type 0
EndsSpecifiers kinds true p = Unit {0}
EndsSpecifiers kinds false p = (text : List ℕ) → At kinds p (token.Name text) → IsOrdinary p text

-- the parameters that a function's body sees are those nearest to its name
abbrev pub nearest : Option (List Entry) → List Entry → Option (List Entry)
nearest (Some parameters) here = Some parameters
nearest None here = Some here

mutual
  -- an expression of this level
  pub data IsExpression (kinds : List TokenKind) : ℕ → Place → Place → Expression → Type 0 where
    -- 6.5.1
    name : (p : Place) (text : List ℕ) → At kinds p (token.Name text) → IsOrdinary p text → IsExpression kinds 15 p (next p) (tree.Name text p.at)
    constant : (p : Place) (kind : IntType) (value : ℤ) → At kinds p (token.Constant kind value) → IsExpression kinds 15 p (next p) (tree.Constant kind value p.at)
    text : (p : Place) → At kinds p token.Text → IsExpression kinds 15 p (next p) (tree.Text p.at)
    brackets : (p q : Place) (x : Expression) → At kinds p token.LeftParenthesis → IsExpression kinds 0 (next p) q x → At kinds q token.RightParenthesis
        → IsExpression kinds 15 p (next q) x
    -- 6.5.2
    subscript : (p q r : Place) (array index : Expression) → IsExpression kinds 15 p q array → At kinds q token.LeftBracket
        → IsExpression kinds 0 (next q) r index → At kinds r token.RightBracket → IsExpression kinds 15 p (next r) (tree.Subscript array index q.at)
    call_empty : (p q : Place) (function : Expression) → IsExpression kinds 15 p q function → At kinds q token.LeftParenthesis
        → At kinds (next q) token.RightParenthesis → IsExpression kinds 15 p (next (next q)) (tree.Call function [] q.at)
    call : (p q r : Place) (function : Expression) (arguments : List Expression) → IsExpression kinds 15 p q function → At kinds q token.LeftParenthesis
        → AreAssignments kinds (next q) r arguments → At kinds r token.RightParenthesis → IsExpression kinds 15 p (next r) (tree.Call function arguments q.at)
    member : (p q : Place) (object : Expression) (text : List ℕ) → IsExpression kinds 15 p q object → At kinds q token.Dot → At kinds (next q) (token.Name text)
        → IsExpression kinds 15 p (next (next q)) (tree.Member object text q.at)
    pointed_member : (p q : Place) (pointer : Expression) (text : List ℕ) → IsExpression kinds 15 p q pointer → At kinds q token.Arrow → At kinds (next q) (token.Name text)
        → IsExpression kinds 15 p (next (next q)) (tree.PointedMember pointer text q.at)
    postfix : (p q : Place) (step : Step) (operand : Expression) → IsExpression kinds 15 p q operand → At kinds q (step_sign step)
        → IsExpression kinds 15 p (next q) (tree.Postfix step operand q.at)
    -- 6.5.3
    prefix : (p q : Place) (step : Step) (operand : Expression) → At kinds p (step_sign step) → IsExpression kinds 14 (next p) q operand
        → IsExpression kinds 14 p q (tree.Prefix step operand p.at)
    unary : (p q : Place) (operator : UnaryOperator) (operand : Expression) → At kinds p (unary_sign operator) → IsExpression kinds 13 (next p) q operand
        → IsExpression kinds 14 p q (tree.Unary operator operand p.at)
    sizeof_expression : (p q : Place) (operand : Expression) → At kinds p token.Sizeof → IsExpression kinds 14 (next p) q operand
        → IsExpression kinds 14 p q (tree.SizeofExpression operand p.at)
    sizeof_type : (p q : Place) (type : TypeName) → At kinds p token.Sizeof → At kinds (next p) token.LeftParenthesis → IsTypeName kinds (next (next p)) q type
        → At kinds q token.RightParenthesis → IsExpression kinds 14 p (next q) (tree.SizeofType type p.at)
    -- 6.5.4
    cast : (p q r : Place) (type : TypeName) (operand : Expression) → At kinds p token.LeftParenthesis → IsTypeName kinds (next p) q type
        → At kinds q token.RightParenthesis → IsExpression kinds 13 (next q) r operand → IsExpression kinds 13 p r (tree.Cast type operand p.at)
    -- 6.5.5 to 6.5.14: each binary level is left-associative
    binary : (p q r : Place) (operator : BinaryOperator) (left right : Expression) → IsExpression kinds (level operator) p q left
        → At kinds q (binary_sign operator) → IsExpression kinds (level operator + 1) (next q) r right
        → IsExpression kinds (level operator) p r (tree.Binary operator left right q.at)
    -- 6.5.15
    conditional : (p q r s : Place) (test then otherwise : Expression) → IsExpression kinds 3 p q test → At kinds q token.Question
        → IsExpression kinds 0 (next q) r then → At kinds r token.Colon → IsExpression kinds 2 (next r) s otherwise
        → IsExpression kinds 2 p s (tree.Conditional test then otherwise q.at)
    -- 6.5.16
    assign : (p q r : Place) (operator : AssignOperator) (target value : Expression) → IsExpression kinds 14 p q target → At kinds q (assign_sign operator)
        → IsExpression kinds 1 (next q) r value → IsExpression kinds 1 p r (tree.Assign operator target value q.at)
    -- 6.5.17
    comma : (p q r : Place) (first : Expression) (further : List Expression) → IsExpression kinds 1 p q first → At kinds q token.Comma
        → AreAssignments kinds (next q) r further → IsExpression kinds 0 p r (tree.Comma (first ∷ further) q.at)
    -- a level may pass to the next one
    pass : (k : ℕ) (p q : Place) (x : Expression) → IsExpression kinds (k + 1) p q x → IsExpression kinds k p q x

  -- assignment expressions with a comma between each two
  pub data AreAssignments (kinds : List TokenKind) : Place → Place → List Expression → Type 0 where
    one_assignment : (p q : Place) (x : Expression) → IsExpression kinds 1 p q x → AreAssignments kinds p q (x ∷ [])
    more_assignments : (p q r : Place) (x : Expression) (further : List Expression) → IsExpression kinds 1 p q x → At kinds q token.Comma
        → AreAssignments kinds (next q) r further → AreAssignments kinds p r (x ∷ further)

  -- 6.7.7
  pub data IsTypeName (kinds : List TokenKind) : Place → Place → TypeName → Type 0 where
    type_name : (p q r : Place) (defines : Bool) (specifiers : List Specifier) (inner : Declarator) → AreSpecifiers kinds p q defines specifiers
        → IsUnnamed kinds InTypeName q r inner → IsTypeName kinds p r (record { specifiers = specifiers; declarator = inner })

  -- 6.7: one or more specifiers; whether `typedef` is among them
  pub data AreSpecifiers (kinds : List TokenKind) : Place → Place → Bool → List Specifier → Type 0 where
    all_specifiers : (p q r : Place) (defines : Bool) (list : List Specifier) → AreAttributes kinds p q → AreFurther kinds false q r defines list
        → AreSpecifiers kinds p r defines list

  -- specifiers after others, among which a type stands or not
  pub data AreFurther (kinds : List TokenKind) : Bool → Place → Place → Bool → List Specifier → Type 0 where
    last_specifier : (typed : Bool) (p q r : Place) (role : Role) (x : Specifier) → IsSpecifier kinds typed p q role x → AreAttributes kinds q r
        → EndsSpecifiers kinds (types_now typed role) r → AreFurther kinds typed p r (defines_now role false) (x ∷ [])
    more_specifiers : (typed : Bool) (p q r s : Place) (role : Role) (defines : Bool) (x : Specifier) (list : List Specifier) → IsSpecifier kinds typed p q role x
        → AreAttributes kinds q r → AreFurther kinds (types_now typed role) r s defines list → AreFurther kinds typed p s (defines_now role defines) (x ∷ list)

  -- a specifier after others, among which a type stands or not
  pub data IsSpecifier (kinds : List TokenKind) : Bool → Place → Place → Role → Specifier → Type 0 where
    -- 6.7.1, 6.7.4, 6.7.3
    storage_word : (typed : Bool) (p : Place) (word : StorageWord) → At kinds p (storage_sign word)
        → IsSpecifier kinds typed p (next p) (storage_role word) (specifier_node.Storage word p.at)
    function_word : (typed : Bool) (p : Place) (word : FunctionWord) → At kinds p (function_sign word) → IsSpecifier kinds typed p (next p) Modifies (specifier_node.Function word p.at)
    qualifier_word : (typed : Bool) (p : Place) (word : Qualifier) → At kinds p (qualifier_sign word) → IsSpecifier kinds typed p (next p) Modifies (specifier_node.Qualified word p.at)
    -- 6.7.2
    base_word : (typed : Bool) (p : Place) (word : BaseWord) → At kinds p (base_sign word) → IsSpecifier kinds typed p (next p) Types (specifier_node.Base word p.at)
    type_word : (typed : Bool) (p : Place) (kind : IntType) → At kinds p (token.TypeWord kind) → IsSpecifier kinds typed p (next p) Types (specifier_node.TypeWord kind p.at)
    -- 6.7.2.1
    struct_body : (typed : Bool) (p q r : Place) (tag : Option (List ℕ)) (lines : List MemberLine) → At kinds p token.Struct → IsTag kinds (next p) q tag
        → At kinds q token.LeftBrace → AreMemberLines kinds (next q) r lines → At kinds r token.RightBrace
        → IsSpecifier kinds typed p (next r) Types (specifier_node.Struct tag lines p.at)
    struct_tag : (typed : Bool) (p : Place) (tag : List ℕ) → At kinds p token.Struct → At kinds (next p) (token.Name tag)
        → IsSpecifier kinds typed p (next (next p)) Types (specifier_node.StructTag tag p.at)
    -- 6.7.2.2
    enum_body : (typed : Bool) (p q r : Place) (tag : Option (List ℕ)) (constants : List EnumConstant) → At kinds p token.Enum → IsTag kinds (next p) q tag
        → At kinds q token.LeftBrace → AreEnumConstants kinds (next q) r constants → At kinds r token.RightBrace
        → IsSpecifier kinds typed p (next r) Types (specifier_node.Enum tag constants p.at)
    enum_tag : (typed : Bool) (p : Place) (tag : List ℕ) → At kinds p token.Enum → At kinds (next p) (token.Name tag)
        → IsSpecifier kinds typed p (next (next p)) Types (specifier_node.EnumTag tag p.at)
    -- 6.7.8: only where no type stands before it
    typedef_name : (p : Place) (text : List ℕ) → At kinds p (token.Name text) → IsTypedefName p text
        → IsSpecifier kinds false p (next p) Types (specifier_node.TypedefName text p.at)

  -- 6.7.2.1: any number of lines of a struct
  pub data AreMemberLines (kinds : List TokenKind) : Place → Place → List MemberLine → Type 0 where
    no_lines : (p : Place) → AreMemberLines kinds p p []
    more_lines : (p q r s : Place) (defines : Bool) (specifiers : List Specifier) (members : List Member) (lines : List MemberLine)
        → AreSpecifiers kinds p q defines specifiers → AreMembers kinds q r members → At kinds r token.Semicolon → AreMemberLines kinds (next r) s lines
        → AreMemberLines kinds p s (record { specifiers = specifiers; members = members } ∷ lines)

  pub data AreMembers (kinds : List TokenKind) : Place → Place → List Member → Type 0 where
    one_member : (p q : Place) (x : Member) → IsMember kinds p q x → AreMembers kinds p q (x ∷ [])
    more_members : (p q r : Place) (x : Member) (further : List Member) → IsMember kinds p q x → At kinds q token.Comma → AreMembers kinds (next q) r further
        → AreMembers kinds p r (x ∷ further)

  -- members have a name space of their own (6.2.3)
  pub data IsMember (kinds : List TokenKind) : Place → Place → Member → Type 0 where
    plain_member : (p q : Place) (name : List ℕ) (parameters : Option (List Entry)) (inner : Declarator) → IsDecorated kinds p q name parameters inner
        → IsMember kinds p q (member_node.Plain inner)
    bit_field : (p q r : Place) (name : List ℕ) (parameters : Option (List Entry)) (inner : Declarator) (width : Expression) → IsDecorated kinds p q name parameters inner
        → At kinds q token.Colon → IsExpression kinds 2 (next q) r width → IsMember kinds p r (member_node.BitField inner width q.at)
    unnamed_bit_field : (p q : Place) (width : Expression) → At kinds p token.Colon → IsExpression kinds 2 (next p) q width
        → IsMember kinds p q (member_node.UnnamedBitField width p.at)

  -- 6.7.2.2: one or more constants; a comma may end them
  pub data AreEnumConstants (kinds : List TokenKind) : Place → Place → List EnumConstant → Type 0 where
    one_constant : (p q : Place) (x : EnumConstant) → IsEnumConstant kinds p q x → AreEnumConstants kinds p q (x ∷ [])
    last_constant : (p q : Place) (x : EnumConstant) → IsEnumConstant kinds p q x → At kinds q token.Comma → AreEnumConstants kinds p (next q) (x ∷ [])
    more_constants : (p q r : Place) (x : EnumConstant) (further : List EnumConstant) → IsEnumConstant kinds p q x → At kinds q token.Comma
        → AreEnumConstants kinds (next q) r further → AreEnumConstants kinds p r (x ∷ further)

  -- a constant is declared from the end of its line on (6.2.1p7)
  pub data IsEnumConstant (kinds : List TokenKind) : Place → Place → EnumConstant → Type 0 where
    plain_constant : (p : Place) (text : List ℕ) → At kinds p (token.Name text) → IsEnumConstant kinds p (declare (next p) text false) (constant_node.Next text p.at)
    valued_constant : (p q : Place) (text : List ℕ) (value : Expression) → At kinds p (token.Name text) → At kinds (next p) token.Equal
        → IsExpression kinds 2 (next (next p)) q value → IsEnumConstant kinds p (declare q text false) (constant_node.Valued text value p.at)

  -- a declarator, and what has no meaning after it
  pub data IsDecorated (kinds : List TokenKind) : Place → Place → List ℕ → Option (List Entry) → Declarator → Type 0 where
    decorated : (p q r : Place) (name : List ℕ) (parameters : Option (List Entry)) (inner : Declarator) → IsDeclarator kinds p q name parameters inner
        → AreAttributes kinds q r → IsDecorated kinds p r name parameters inner

  -- 6.7.6: a declarator, its name, and the parameters nearest to the name
  pub data IsDeclarator (kinds : List TokenKind) : Place → Place → List ℕ → Option (List Entry) → Declarator → Type 0 where
    pointer : (p q r : Place) (qualifiers : List Qualifier) (name : List ℕ) (parameters : Option (List Entry)) (inner : Declarator) → At kinds p token.Star
        → AreQualifiers kinds (next p) q qualifiers → IsDeclarator kinds q r name parameters inner
        → IsDeclarator kinds p r name parameters (declarator_node.Pointer qualifiers inner p.at)
    direct : (p q : Place) (name : List ℕ) (parameters : Option (List Entry)) (inner : Declarator) → IsDirect kinds p q name parameters inner
        → IsDeclarator kinds p q name parameters inner

  pub data IsDirect (kinds : List TokenKind) : Place → Place → List ℕ → Option (List Entry) → Declarator → Type 0 where
    declared_name : (p : Place) (text : List ℕ) → At kinds p (token.Name text) → IsDirect kinds p (next p) text None (declarator_node.Name text p.at)
    declarator_brackets : (p q : Place) (name : List ℕ) (parameters : Option (List Entry)) (inner : Declarator) → At kinds p token.LeftParenthesis
        → IsDecorated kinds (next p) q name parameters inner → At kinds q token.RightParenthesis → IsDirect kinds p (next q) name parameters inner
    -- 6.7.6.2
    array : (p q r : Place) (name : List ℕ) (parameters : Option (List Entry)) (inner : Declarator) (size : Expression) → IsDirect kinds p q name parameters inner
        → At kinds q token.LeftBracket → IsExpression kinds 2 (next q) r size → At kinds r token.RightBracket
        → IsDirect kinds p (next r) name parameters (declarator_node.Array inner size q.at)
    open_array : (p q : Place) (name : List ℕ) (parameters : Option (List Entry)) (inner : Declarator) → IsDirect kinds p q name parameters inner
        → At kinds q token.LeftBracket → At kinds (next q) token.RightBracket → IsDirect kinds p (next (next q)) name parameters (declarator_node.OpenArray inner q.at)
    -- 6.7.6.3: the parameters are a block of their own
    function_empty : (p q : Place) (name : List ℕ) (parameters : Option (List Entry)) (inner : Declarator) → IsDirect kinds p q name parameters inner
        → At kinds q token.LeftParenthesis → At kinds (next q) token.RightParenthesis
        → IsDirect kinds p (next (next q)) name (nearest parameters []) (declarator_node.Function inner [] None q.at)
    function_parameters : (p q r : Place) (name : List ℕ) (parameters : Option (List Entry)) (inner : Declarator) (list : List Parameter) (variadic : Option ℕ)
        → IsDirect kinds p q name parameters inner → At kinds q token.LeftParenthesis → AreParameters kinds (enter (next q)) r list variadic
        → At kinds r token.RightParenthesis
        → IsDirect kinds p (leave (next r)) name (nearest parameters (first_of r.blocks)) (declarator_node.Function inner list variadic q.at)

  -- 6.7.6: one or more parameters; the number of the `...` that ends them
  pub data AreParameters (kinds : List TokenKind) : Place → Place → List Parameter → Option ℕ → Type 0 where
    one_parameter : (p q : Place) (x : Parameter) → IsParameter kinds p q x → AreParameters kinds p q (x ∷ []) None
    variadic_parameters : (p q : Place) (x : Parameter) → IsParameter kinds p q x → At kinds q token.Comma → At kinds (next q) token.Ellipsis
        → AreParameters kinds p (next (next q)) (x ∷ []) (Some (next q).at)
    more_parameters : (p q r : Place) (x : Parameter) (further : List Parameter) (variadic : Option ℕ) → IsParameter kinds p q x → At kinds q token.Comma
        → AreParameters kinds (next q) r further variadic → AreParameters kinds p r (x ∷ further) variadic

  -- a parameter's name is declared from the end of its declarator on (6.2.1p7); `typedef` has no meaning there
  pub data IsParameter (kinds : List TokenKind) : Place → Place → Parameter → Type 0 where
    named_parameter : (p q r : Place) (defines : Bool) (specifiers : List Specifier) (name : List ℕ) (parameters : Option (List Entry)) (inner : Declarator)
        → AreSpecifiers kinds p q defines specifiers → IsDecorated kinds q r name parameters inner
        → IsParameter kinds p (declare r name false) (record { specifiers = specifiers; declarator = inner })
    unnamed_parameter : (p q r : Place) (defines : Bool) (specifiers : List Specifier) (inner : Declarator) → AreSpecifiers kinds p q defines specifiers
        → IsUnnamed kinds InParameter q r inner → IsParameter kinds p r (record { specifiers = specifiers; declarator = inner })

  -- 6.7.7: pointers and, in a type name, arrays without a name
  pub data IsUnnamed (kinds : List TokenKind) : Unnamed → Place → Place → Declarator → Type 0 where
    no_declarator : (p : Place) → IsUnnamed kinds InParameter p p (declarator_node.Unnamed p.at)
    unnamed_arrays : (p q : Place) (inner : Declarator) → AreArrays kinds p q inner → IsUnnamed kinds InTypeName p q inner
    unnamed_pointer : (unnamed : Unnamed) (p q r : Place) (qualifiers : List Qualifier) (inner : Declarator) → At kinds p token.Star
        → AreQualifiers kinds (next p) q qualifiers → may_all_qualify unnamed qualifiers ≡ true → IsUnnamed kinds unnamed q r inner
        → IsUnnamed kinds unnamed p r (declarator_node.Pointer qualifiers inner p.at)

  pub data AreArrays (kinds : List TokenKind) : Place → Place → Declarator → Type 0 where
    no_arrays : (p : Place) → AreArrays kinds p p (declarator_node.Unnamed p.at)
    unnamed_array : (p q r : Place) (inner : Declarator) (size : Expression) → AreArrays kinds p q inner → At kinds q token.LeftBracket
        → IsExpression kinds 2 (next q) r size → At kinds r token.RightBracket → AreArrays kinds p (next r) (declarator_node.Array inner size q.at)
