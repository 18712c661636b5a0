-- What the reader of texts gives is what a text spells, by the laws of the grammar.
use Rattle.std.proofs.Common.{◌≡◌, ℕ, List, None, subst}
use Rattle.std.specs.Prelude.{Result, Ok, Err}
use Rattle.c_tokens.specs.declared.token.Token.{Token}
use Rattle.c_tree.specs.declared.declaration.External.{External}
use Rattle.c_tree.specs.declared.declaration.Tree.{Tree}
use Rattle.c_tree.specs.SpellsText.{kinds_of, lines_of, Spells}
use Rattle.c_grammar_laws.specs.Laws.{ReadsWhatIsSpelled, RefusesTheRest}
use Rattle.c_grammar.specs.ReadExpressions.{Refuses}
use Rattle.c_grammar.specs.ReadText.{text}
use Rattle.c_parser.specs.declared.parser.ParseFault.{ParseFault}
use Rattle.c_parser.specs.declared.parser.ParseFault.TheVariants as fault
use Rattle.c_parser.specs.Parses.{left_out, IsFirstTooDeep, IsWithin, SpellsNone, IsWhole, ReadsText}

pub spelled : (law : ReadsWhatIsSpelled) (tokens : List Token) (externals : List External) (lines : List ℕ) → ReadsText (text (kinds_of tokens)) (Ok externals)
    → lines ≡ lines_of tokens → Spells tokens (record { externals = externals; lines = lines })
spelled law tokens externals lines read are = (law tokens (record { externals = externals; lines = lines })).1 (read, are)

pub unspelled : (law : RefusesTheRest) (tokens : List Token) → text (kinds_of tokens) ≡ Refuses → SpellsNone tokens
unspelled law tokens refuses = (law tokens).0 refuses

-- a text that is read whole and has no tree
pub refused_whole : (tokens slice : List Token) (result : Result Tree ParseFault) (at : ℕ) → slice ≡ tokens → left_out slice ≡ None → IsFirstTooDeep slice None
    → IsWhole slice result → result ≡ Err (fault.Syntax at) → IsWithin tokens × SpellsNone tokens
refused_whole tokens slice result at e none within whole is =
    let refuses : SpellsNone slice = subst (IsWhole slice) is whole in
    let P : List Token → Type 0 = λ ts. IsWithin ts × SpellsNone ts in
    subst P e ((none, within), refuses)
