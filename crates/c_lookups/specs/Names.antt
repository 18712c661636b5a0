-- The name of a declarator, from that of the one inside it. Sections are those of ISO/IEC 9899:2011.
use Rattle.std.specs.Prelude.{ℕ}
use Rattle.c_tree.specs.declared.expression.Declarator.{Declarator}
use Rattle.c_tree.specs.declared.expression.Declarator.TheOpen.{Declarator-F}
use Rattle.c_tree.specs.declared.expression.Declarator.TheOpen.{Declarator-F as d}
use Rattle.c_tree.specs.declared.expression.EnumConstant.{EnumConstant}
use Rattle.c_tree.specs.declared.expression.Expression.{Expression}
use Rattle.c_tree.specs.declared.expression.Member.{Member}
use Rattle.c_tree.specs.declared.expression.MemberLine.{MemberLine}
use Rattle.c_tree.specs.declared.expression.Parameter.{Parameter}
use Rattle.c_tree.specs.declared.expression.Specifier.{Specifier}
use Rattle.c_tree.specs.declared.expression.TypeName.{TypeName}
use Rattle.c_rules.specs.Initialisers.{name_at}

abbrev pub DeclaratorNode : Type 0
DeclaratorNode = Declarator-F Declarator EnumConstant Expression Member Specifier MemberLine Parameter TypeName

-- 6.7.6p2
abbrev pub name_within : DeclaratorNode → ℕ
name_within (d.«Declarator::Name» name at) = at
name_within (d.Unnamed at) = at
name_within (d.Pointer qualifiers inside at) = name_at inside
name_within (d.Array inside size at) = name_at inside
name_within (d.OpenArray inside at) = name_at inside
name_within (d.«Declarator::Function» inside parameters variadic at) = name_at inside
