-- The name of a declarator, from that of the one inside it.
use Rattle.std.proofs.Common.{◌≡◌, refl, sym, ◌∙◌}
use Rattle.c_tree.specs.declared.expression.Declarator.{Declarator, out-Declarator}
use Rattle.c_tree.specs.declared.expression.Declarator.TheOpen.{Declarator-F as d}
use Rattle.c_rules.specs.Initialisers.{naming, name_node, name_at}
use Rattle.c_rules.proofs.Recursion.{declarator_beside, declarator_is}
use Rattle.c_lookups.specs.Names.{DeclaratorNode, name_within}

one_layer : (l : DeclaratorNode) → name_node (declarator_beside naming l) ≡ name_within l
unfolding name_at
one_layer (d.«Declarator::Name» name at) = refl
one_layer (d.Unnamed at) = refl
one_layer (d.Pointer qualifiers inside at) = refl
one_layer (d.Array inside size at) = refl
one_layer (d.OpenArray inside at) = refl
one_layer (d.«Declarator::Function» inside parameters variadic at) = refl

pub name_is : (x : Declarator) → name_within (out-Declarator x) ≡ name_at x
unfolding name_at
name_is x = sym (declarator_is naming x ∙ one_layer (out-Declarator x))
