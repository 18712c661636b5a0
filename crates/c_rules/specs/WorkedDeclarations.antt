-- Worked examples: the rules that specifiers and declarators break where nothing is declared yet.
use Rattle.std.specs.Prelude.{◌≡◌, ℕ, pos, false, List, [], ◌∷◌, Option, Some}
use Rattle.kv_num.specs.declared.types.IntType.TheVariants.{Int}
use Rattle.c_tokens.specs.declared.data_model.DataModel.TheVariants.{Lp64}
use Rattle.c_tree.specs.declared.expression.BaseWord.TheVariants as word
use Rattle.c_tree.specs.declared.expression.Qualifier.TheVariants as qualifier
use Rattle.c_tree.specs.declared.expression.Expression.TheVariants as tree
use Rattle.c_tree.specs.declared.expression.Specifier.{Specifier}
use Rattle.c_tree.specs.declared.expression.Specifier.TheVariants as specifier
use Rattle.c_tree.specs.declared.expression.Declarator.{Declarator}
use Rattle.c_tree.specs.declared.expression.Declarator.TheVariants as form
use Rattle.c_tree.specs.declared.expression.Member.TheVariants as member
use Rattle.c_kinds.specs.declared.types.CType.{CType}
use Rattle.c_kinds.specs.Types.{integer}
use Rattle.c_rules.specs.declared.names.Pair.{Pair}
use Rattle.c_rules.specs.Broken.{pair}
use Rattle.c_rules.specs.Scopes.{State}
use Rattle.c_rules.specs.Specifiers.{Specified, no_specifiers}
use Rattle.c_rules.specs.Declarators.{Needed, Site}
use Rattle.c_rules.specs.Resolving.{build, specify}
use Rattle.c_rules.specs.Texts.{beginning, site_of}

-- nothing is declared yet; the first specifier of a declaration
abbrev pub nothing : State
nothing = beginning Lp64 []

abbrev pub first : Specified
first = no_specifiers nothing

-- after `int` at token 6
abbrev pub behind_int : Site
behind_int = site_of Needed 6

abbrev pub int_type : Option CType
int_type = Some (integer Int)

abbrev pub broken : State → List Pair
broken st = st.names.broken

abbrev pub int_at : ℕ → Specifier
int_at at = specifier.Base word.Int at

abbrev pub name_at : ℕ → Declarator
name_at at = form.Name (97 ∷ []) at

pub record WorkedDeclarations : Type 0 where
  -- `int a[0]`: the `[`
  pub size_of_zero : broken (build (form.Array (name_at 7) (tree.Constant Int (pos 0) 9) 8) behind_int int_type nothing).state ≡ pair 8 8 ∷ []
  -- `volatile`
  pub volatile_word : broken (specify (specifier.Qualified qualifier.Volatile 3) false first).state ≡ pair 3 26 ∷ []
  -- `struct a {int a; struct a a[2];}`: the array's name
  pub array_of_itself : broken (specify (specifier.Struct (Some (97 ∷ []))
      (record { specifiers = int_at 3 ∷ []; members = member.Plain (name_at 4) ∷ [] }
      ∷ record { specifiers = specifier.StructTag (97 ∷ []) 6 ∷ []; members = member.Plain (form.Array (form.Name (98 ∷ []) 8) (tree.Constant Int (pos 2) 10) 9) ∷ [] } ∷ []) 0) false first).state
      ≡ pair 8 10 ∷ []
  -- `struct a {struct a {int a;} b;}`: the inner tag
  pub tag_inside_itself : broken (specify (specifier.Struct (Some (97 ∷ []))
      (record { specifiers = specifier.Struct (Some (97 ∷ [])) (record { specifiers = int_at 6 ∷ []; members = member.Plain (name_at 7) ∷ [] } ∷ []) 3 ∷ []; members = member.Plain (form.Name (98 ∷ []) 10) ∷ [] } ∷ []) 0) false first).state
      ≡ pair 4 4 ∷ []
  -- `struct a {int a:1;}`: the `:`; `struct a {}`: the tag
  pub bit_field : broken (specify (specifier.Struct (Some (97 ∷ [])) (record { specifiers = int_at 3 ∷ []; members = member.BitField (name_at 4) (tree.Constant Int (pos 1) 6) 5 ∷ [] } ∷ []) 0) false first).state ≡ pair 5 10 ∷ []
  pub no_members : broken (specify (specifier.Struct (Some (97 ∷ [])) [] 0) false first).state ≡ pair 1 10 ∷ []
  -- `struct a {struct a b;}`: the member's name
  pub member_of_itself : broken (specify (specifier.Struct (Some (97 ∷ [])) (record { specifiers = specifier.StructTag (97 ∷ []) 3 ∷ []; members = member.Plain (form.Name (98 ∷ []) 5) ∷ [] } ∷ []) 0) false first).state ≡ pair 5 10 ∷ []
  -- `struct a`, which isn't declared
  pub unknown_tag : broken (specify (specifier.StructTag (97 ∷ []) 0) false first).state ≡ pair 1 3 ∷ []
