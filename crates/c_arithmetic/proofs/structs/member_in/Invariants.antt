use Rattle.std.proofs.Common.{◌≡◌, drop}
use Rattle.c_kinds.specs.Layouts.{member_in}
use Rattle.c_arithmetic.proofs.structs.member_in.Given as goal

-- no member before this place has the name
abbrev pub invariant-loop-member : goal.invariant-loop-member
invariant-loop-member l = member_in (drop l.member-index l.members) l.name ≡ member_in l.members l.name
