-- The own tokens of the nodes of a text rise.
use Rattle.std.proofs.Common.{ℕ, List, length, subst}
use Rattle.c_tree.specs.OwnTokens.{own_tokens}
use Rattle.c_tree.specs.SpellsText.{kinds_of, beginning}
use Rattle.c_grammar_laws.specs.Laws.{RiseWithin, ExpressionTokensRise, DeclarationTokensRise, StatementTokensRise, ExternalTokensRise, OwnTokensRise}
use Rattle.c_grammar_laws.proofs.Rising.{IsRising, rising_within, rising_steps}
use Rattle.c_grammar_laws.proofs.OwnExpressions.{expression_rises}
use Rattle.c_grammar_laws.proofs.OwnStatements.{declaration_rises, statement_rises, external_rises, externals_rise}

rise_within : (a b : ℕ) (xs : List ℕ) → IsRising a b xs → RiseWithin a b xs
rise_within a b xs r = record { increasing = λ k lt. rising_steps a b xs k r lt; within = λ k d lt. rising_within a b xs k d r lt }

pub expression_tokens_rise : ExpressionTokensRise
expression_tokens_rise kinds k p q x d = rise_within p.at q.at _ (expression_rises kinds k p q x d)

pub declaration_tokens_rise : DeclarationTokensRise
declaration_tokens_rise kinds p q x d = rise_within p.at q.at _ (declaration_rises kinds p q x d)

pub statement_tokens_rise : StatementTokensRise
statement_tokens_rise kinds ends_open p q x d = rise_within p.at q.at _ (statement_rises kinds ends_open p q x d)

pub external_tokens_rise : ExternalTokensRise
external_tokens_rise kinds p q x d = rise_within p.at q.at _ (external_rises kinds p q x d)

pub own_tokens_rise : OwnTokensRise
own_tokens_rise tokens tree s =
    let r : IsRising 0 s.end.at (own_tokens tree) = externals_rise (kinds_of tokens) beginning s.end tree.externals s.spelled in
    let P : ℕ → Type 0 = λ n. IsRising 0 n (own_tokens tree) in
    rise_within 0 (length tokens) (own_tokens tree) (subst P s.all r)
