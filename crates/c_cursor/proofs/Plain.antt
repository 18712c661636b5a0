-- A mark that carries no name is what its bare form tells.
use Rattle.std.proofs.Common.{◌≡◌, [], refl, sym, subst, ◌∙◌, ap}
use Rattle.c_cursor.specs.declared.marks.Mark.{Mark}
use Rattle.c_cursor.specs.declared.marks.Mark.TheVariants as mark
use Rattle.c_cursor.specs.Bare.{bare}
use Rattle.c_grammar.specs.Marks as spec

abbrev full : Mark → spec.Mark
full mark.Name = spec.Name []
full mark.RoundOpens = spec.RoundOpens
full mark.RoundCloses = spec.RoundCloses
full mark.SquareOpens = spec.SquareOpens
full mark.SquareCloses = spec.SquareCloses
full mark.CurlyOpens = spec.CurlyOpens
full mark.CurlyCloses = spec.CurlyCloses
full mark.Semicolon = spec.Semicolon
full mark.Comma = spec.Comma
full mark.Colon = spec.Colon
full mark.Equals = spec.Equals
full mark.Star = spec.Star
full mark.Ellipsis = spec.Ellipsis
full mark.Attribute = spec.Attribute
full mark.Extension = spec.Extension
full (mark.Stores word) = spec.Stores word
full (mark.Functions word) = spec.Functions word
full (mark.Qualifies word) = spec.Qualifies word
full (mark.Bases word) = spec.Bases word
full (mark.TypeWords kind) = spec.TypeWords kind
full mark.Structs = spec.Structs
full mark.Enums = spec.Enums
full mark.Case = spec.Case
full mark.Default = spec.Default
full mark.If = spec.If
full mark.Else = spec.Else
full mark.Switch = spec.Switch
full mark.While = spec.While
full mark.Do = spec.Do
full mark.For = spec.For
full mark.Break = spec.Break
full mark.Continue = spec.Continue
full mark.Return = spec.Return
full mark.NoMark = spec.NoMark

-- it isn't the mark of a name
abbrev pub IsPlain : Mark → Type 0
IsPlain mark.Name = ⊥
IsPlain _ = Unit {0}

full_bare : (m : spec.Mark) → IsPlain (bare m) → m ≡ full (bare m)
full_bare (spec.Name text) h = absurd h
full_bare _ h = refl

pub told : (m n : spec.Mark) → IsPlain (bare n) → bare m ≡ bare n → m ≡ n
told m n h e = full_bare m (subst IsPlain (sym e) h) ∙ (ap full e ∙ sym (full_bare n h))
