-- Why a source gives no program.
use Rattle.std.specs.Prelude.{ℕ, List}
use Rattle.c_tokens.specs.declared.token.Token.{Token}
use Rattle.c_source.specs.declared.reading.Unread.{Unread}
use Rattle.c_source.specs.declared.reading.Unread.TheVariants.{Refused, NoMemory}
use Rattle.c_source.specs.Sources.{HasTokens, Refuses}

-- the source is refused for this, unless memory is
abbrev pub IsCause : List ℕ → Unread → Type 0
IsCause source (Refused refusal) = Refuses source refusal
IsCause source NoMemory = Unit {0}

-- each source with these tokens is
abbrev pub IsCauseBehind : List Token → Unread → Type 0
IsCauseBehind tokens unread = (source : List ℕ) → HasTokens source tokens → IsCause source unread
