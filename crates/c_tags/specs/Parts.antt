-- What the passes hand on beside the state, as the definitions have it: with the state.
use Rattle.std.specs.Prelude.{ℕ, nat_lt, Bool}
use Rattle.c_kinds.specs.declared.limits.TheConstants.{MAX_OBJECT_CELLS}
use Rattle.c_rules.specs.Scopes.{State}
use Rattle.c_rules.specs.Specifiers.{Specified}
use Rattle.c_tags.specs.declared.specified.Specified.{Specified as Said}

-- more cells than an object may have
abbrev pub exceeds : ℕ → Bool
exceeds cells = nat_lt MAX_OBJECT_CELLS cells

abbrev pub specified : State → Said → Specified
specified st x = record {
  state = st;
  is_typedef = x.is_typedef;
  is_extern = x.is_extern;
  is_static = x.is_static;
  is_const = x.is_const;
  is_unsaid = x.is_unsaid;
  words = x.words;
  others = x.others;
}
