-- Each worked example of declarations holds by computation.
use Rattle.std.proofs.Common.{◌≡◌, ℕ, ℤ, Option, ap, ◌∙◌}
use Rattle.kv_num.specs.declared.types.IntType.{IntType}
use Rattle.c_tree.specs.declared.expression.Declarator.{Declarator}
use Rattle.c_kinds.specs.declared.types.CType.{CType}
use Rattle.c_kinds.specs.declared.typed.Fixed.TheVariants.{Number}
use Rattle.c_kinds.specs.Types.{integer}
use Rattle.c_kinds.specs.declared.answer.Answer.{Answer}
use Rattle.c_kinds.specs.declared.answer.Answer.TheVariants.{Gives}
use Rattle.c_kinds.specs.Values.{result}
use Rattle.c_rules.specs.Typing.{expression_answer, answer_of}
use Rattle.c_rules.specs.Scopes.{State, given_at, answer_at, passes}
use Rattle.c_rules.specs.Declarators.{Site, Built, length_at, array_with}
use Rattle.c_rules.specs.Resolving.{build, on_trees, declarator_node, resolve_node}
use Rattle.c_tree.specs.declared.expression.Expression.TheVariants as tree
use Rattle.c_tree.specs.declared.expression.Specifier.TheVariants as specifier
use Rattle.c_tree.specs.declared.expression.Declarator.TheVariants as form
use Rattle.c_tree.specs.declared.expression.Member.TheVariants as member
use Rattle.c_rules.specs.WorkedDeclarations.{WorkedDeclarations}
use Rattle.c_rules.proofs.Typings.{answer_is}
use Rattle.c_rules.proofs.Resolutions.{build_is, resolve_is, add_member_is, specify_is, add_line_is}

-- an array whose size was looked at
abbrev array_of_size : Declarator → ℕ → Site → Option CType → Answer → State → Built
array_of_size inside at site t x now = let size = length_at at x now in array_with site at size.length t (build inside site) size.state

-- an array whose size is a constant
constant_array : (inside : Declarator) (k : IntType) (n : ℤ) (a at : ℕ) (site : Site) (t : Option CType) (st : State)
    → build (form.Array inside (tree.Constant k n a) at) site t st
    ≡ (let now = passes a (passes at st) in let size = length_at at (Gives (result (integer k) (Number n) a a)) now in array_with site at size.length t (build inside site) size.state)
constant_array inside k n a at site t st =
    build_is (form.Array inside (tree.Constant k n a) at) site t st
    ∙ ap (λ l. declarator_node on_trees l site t st) (form.outs-Array inside (tree.Constant k n a) at)
    ∙ ap (λ now. array_of_size inside at site t (answer_at (tree.Constant k n a) now) now) (resolve_is (tree.Constant k n a) (passes at st) ∙ ap (λ l. resolve_node on_trees l (passes at st)) (tree.outs-Constant k n a))
    ∙ ap (λ x. array_of_size inside at site t x (passes a (passes at st)))
    (answer_is (given_at (passes a (passes at st))) (tree.Constant k n a) st.is_unevaluated
    ∙ ap (λ l. expression_answer (given_at (passes a (passes at st))) (answer_of (given_at (passes a (passes at st)))) (λ y. y) l st.is_unevaluated) (tree.outs-Constant k n a))

pub worked_declarations : WorkedDeclarations
worked_declarations = record {
  size_of_zero = simp (constant_array, build_is, form.outs-Name);
  volatile_word = simp (specify_is, specifier.outs-Qualified);
  array_of_itself = simp (constant_array, specify_is, add_line_is, add_member_is, build_is, specifier.outs-Struct, specifier.outs-StructTag, specifier.outs-Base, member.outs-Plain, form.outs-Name);
  tag_inside_itself = simp (specify_is, add_line_is, add_member_is, build_is, specifier.outs-Struct, specifier.outs-Base, member.outs-Plain, form.outs-Name);
  bit_field = simp (specify_is, add_line_is, add_member_is, build_is, resolve_is, specifier.outs-Struct, specifier.outs-Base, member.outs-BitField, form.outs-Name, tree.outs-Constant);
  no_members = simp (specify_is, specifier.outs-Struct);
  member_of_itself = simp (specify_is, add_line_is, add_member_is, build_is, specifier.outs-Struct, specifier.outs-StructTag, member.outs-Plain, form.outs-Name);
  unknown_tag = simp (specify_is, specifier.outs-StructTag);
}
