-- The contexts and forms of the code as those of the definition.
use Rattle.std.specs.Prelude.{ℕ, ◌||◌, List, if◌then◌else◌}
use Rattle.c_tokens.specs.Pieces.{begins_name}
use Rattle.c_tokens.specs.Directives.{Context as SpecContext, Outside, InQuotes, InLine, AtOpening, InBlock, Form as SpecForm, Nothing, Includes, Defines, Wrong, is_commented, opens_comment, word_size, number_size}
use Rattle.c_lexer.specs.declared.directives.Context.{Context}
use Rattle.c_lexer.specs.declared.directives.Context.TheVariants as contexts
use Rattle.c_lexer.specs.declared.directives.Form.{Form}
use Rattle.c_lexer.specs.declared.directives.Form.TheVariants as forms
use Rattle.c_macros.specs.HeaderRows.{header_view}

abbrev pub context_view : Context → SpecContext
context_view contexts.Outside = Outside
context_view (contexts.InQuotes quote taken) = InQuotes quote taken
context_view contexts.InLine = InLine
context_view contexts.AtOpening = AtOpening
context_view (contexts.InBlock starred) = InBlock starred

abbrev pub form_view : Form → SpecForm
form_view forms.Nothing = Nothing
form_view (forms.Includes header) = Includes (header_view header)
form_view (forms.Defines name text place) = Defines name.now text.now place
form_view forms.Wrong = Wrong

-- a byte as a directive's line shows it
abbrev pub shown : SpecContext → ℕ → ℕ → ℕ
shown context c next = if is_commented context || opens_comment context c next then 32 else c

-- how long the replacement at the front may be
abbrev pub replacement_size : List ℕ → ℕ
replacement_size text = if begins_name text then word_size text else number_size text
