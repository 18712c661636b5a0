-- One step of the readers of types and declarators.
use Rattle.std.proofs.Common.{◌≡◌, ℕ, zero, suc, List, [], Bool, refl}
use Rattle.c_tokens.specs.declared.token.TokenKind.{TokenKind}
use Rattle.c_tree.specs.declared.expression.MemberLine.{MemberLine}
use Rattle.c_tree.specs.declared.expression.Member.{Member}
use Rattle.c_tree.specs.declared.expression.EnumConstant.{EnumConstant}
use Rattle.c_tree.specs.declared.expression.Declarator.{Declarator}
use Rattle.c_tree.specs.declared.expression.Parameter.{Parameter}
use Rattle.c_tree.specs.Places.{Place}
use Rattle.c_tree.specs.Signs.{Bracket}
use Rattle.c_grammar.specs.Kinds.{kind_at}
use Rattle.c_grammar.specs.Marks.{bracketing, mark_at}
use Rattle.c_grammar.specs.ReadExpressions.{Outcome, Refuses, and_then, ReadsExpression}
use Rattle.c_grammar.specs.ReadTypes.{balanced, balanced_by, attributes, attributes_by, ListOf, separated, separated_after, listed, listed_after, Titled, ReadsSpecifiers, qualifiers, qualifiers_by, lines, lines_by, specifier_by, further, further_after, suffixes, suffixes_by, Takes, parameters, parameters_after, arrays, arrays_by, unnamed, unnamed_by, all_specifiers, perhaps_with}
use Rattle.c_grammar.specs.Readers.{struct_with, enum_with, read, specifiers, perhaps}

pub balanced_none : (kinds : List TokenKind) (pending : List Bracket) (p : Place) → balanced kinds zero pending p ≡ Refuses
unfolding balanced
balanced_none kinds pending p = refl

pub balanced_on : (kinds : List TokenKind) (n : ℕ) (pending : List Bracket) (p : Place)
    → balanced kinds (suc n) pending p ≡ balanced_by (balanced kinds n) pending p (bracketing (kind_at kinds p))
unfolding balanced
balanced_on kinds n pending p = refl

pub attributes_none : (kinds : List TokenKind) (p : Place) → attributes kinds zero p ≡ Refuses
unfolding attributes
attributes_none kinds p = refl

pub attributes_on : (kinds : List TokenKind) (n : ℕ) (p : Place)
    → attributes kinds (suc n) p ≡ attributes_by kinds (balanced kinds n []) (attributes kinds n) p (mark_at kinds p)
unfolding attributes
attributes_on kinds n p = refl

pub separated_none : {A : Type 0} (kinds : List TokenKind) (one : Place → Outcome A) (p : Place) → separated kinds one zero p ≡ Refuses
unfolding separated
separated_none kinds one p = refl

pub separated_on : {A : Type 0} (kinds : List TokenKind) (one : Place → Outcome A) (n : ℕ) (p : Place)
    → separated kinds one (suc n) p ≡ and_then (one p) (λ x q. separated_after (separated kinds one n) x q (mark_at kinds q))
unfolding separated
separated_on kinds one n p = refl

pub listed_none : {A : Type 0} (kinds : List TokenKind) (one : Place → Outcome A) (p : Place) → listed kinds one zero p ≡ Refuses
unfolding listed
listed_none kinds one p = refl

pub listed_on : {A : Type 0} (kinds : List TokenKind) (one : Place → Outcome A) (n : ℕ) (p : Place)
    → listed kinds one (suc n) p ≡ and_then (one p) (λ x q. listed_after kinds (listed kinds one n) x q (mark_at kinds q))
unfolding listed
listed_on kinds one n p = refl

pub qualifiers_none : (kinds : List TokenKind) (p : Place) → qualifiers kinds zero p ≡ Refuses
unfolding qualifiers
qualifiers_none kinds p = refl

pub qualifiers_on : (kinds : List TokenKind) (n : ℕ) (p : Place)
    → qualifiers kinds (suc n) p ≡ qualifiers_by (qualifiers kinds n) p (mark_at kinds p)
unfolding qualifiers
qualifiers_on kinds n p = refl

pub lines_none : (kinds : List TokenKind) (sp : ReadsSpecifiers) (members : ListOf Member) (p : Place) → lines kinds sp members zero p ≡ Refuses
unfolding lines
lines_none kinds sp members p = refl

pub lines_on : (kinds : List TokenKind) (sp : ReadsSpecifiers) (members : ListOf Member) (n : ℕ) (p : Place)
    → lines kinds sp members (suc n) p ≡ lines_by kinds sp members (lines kinds sp members n) p (mark_at kinds p)
unfolding lines
lines_on kinds sp members n p = refl

pub further_none : (kinds : List TokenKind) (struct : ListOf MemberLine) (enum : ListOf EnumConstant) (typed : Bool) (p : Place) → further kinds struct enum zero typed p ≡ Refuses
unfolding further
further_none kinds struct enum typed p = refl

pub further_on : (kinds : List TokenKind) (struct : ListOf MemberLine) (enum : ListOf EnumConstant) (n : ℕ) (typed : Bool) (p : Place)
    → further kinds struct enum (suc n) typed p ≡ and_then (specifier_by kinds struct enum typed p (mark_at kinds p)) (further_after kinds (attributes kinds n) (further kinds struct enum n) typed)
unfolding further
further_on kinds struct enum n typed p = refl

pub suffixes_none : (kinds : List TokenKind) (rd : ReadsExpression) (list : Place → Outcome Takes) (d : Titled) (q : Place) → suffixes kinds rd list zero d q ≡ Refuses
unfolding suffixes
suffixes_none kinds rd list d q = refl

pub suffixes_on : (kinds : List TokenKind) (rd : ReadsExpression) (list : Place → Outcome Takes) (n : ℕ) (d : Titled) (q : Place)
    → suffixes kinds rd list (suc n) d q ≡ suffixes_by kinds rd list (suffixes kinds rd list n) d q (mark_at kinds q)
unfolding suffixes
suffixes_on kinds rd list n d q = refl

pub parameters_none : (kinds : List TokenKind) (one : Place → Outcome Parameter) (p : Place) → parameters kinds one zero p ≡ Refuses
unfolding parameters
parameters_none kinds one p = refl

pub parameters_on : (kinds : List TokenKind) (one : Place → Outcome Parameter) (n : ℕ) (p : Place)
    → parameters kinds one (suc n) p ≡ and_then (one p) (λ x q. parameters_after kinds (parameters kinds one n) x q (mark_at kinds q))
unfolding parameters
parameters_on kinds one n p = refl

pub arrays_none : (kinds : List TokenKind) (rd : ReadsExpression) (inner : Declarator) (q : Place) → arrays kinds rd zero inner q ≡ Refuses
unfolding arrays
arrays_none kinds rd inner q = refl

pub arrays_on : (kinds : List TokenKind) (rd : ReadsExpression) (n : ℕ) (inner : Declarator) (q : Place)
    → arrays kinds rd (suc n) inner q ≡ arrays_by kinds rd (arrays kinds rd n) inner q (mark_at kinds q)
unfolding arrays
arrays_on kinds rd n inner q = refl

pub unnamed_none : (kinds : List TokenKind) (rd : ReadsExpression) (p : Place) → unnamed kinds rd zero p ≡ Refuses
unfolding unnamed
unnamed_none kinds rd p = refl

pub unnamed_on : (kinds : List TokenKind) (rd : ReadsExpression) (n : ℕ) (p : Place)
    → unnamed kinds rd (suc n) p ≡ unnamed_by (arrays kinds rd (suc n)) (qualifiers kinds n) (unnamed kinds rd n) p (mark_at kinds p)
unfolding unnamed
unnamed_on kinds rd n p = refl

pub specifiers_none : (kinds : List TokenKind) (p : Place) → specifiers kinds zero p ≡ Refuses
unfolding specifiers
specifiers_none kinds p = refl

pub specifiers_on : (kinds : List TokenKind) (n : ℕ) (p : Place)
    → specifiers kinds (suc n) p ≡ all_specifiers kinds (struct_with kinds (read kinds n) (specifiers kinds n) (perhaps kinds n) n) (enum_with kinds (read kinds n) n) (suc n) p
unfolding specifiers
specifiers_on kinds n p = refl

pub perhaps_none : (kinds : List TokenKind) (p : Place) → perhaps kinds zero p ≡ Refuses
unfolding perhaps
perhaps_none kinds p = refl

pub perhaps_on : (kinds : List TokenKind) (n : ℕ) (p : Place)
    → perhaps kinds (suc n) p ≡ perhaps_with kinds (read kinds n) (specifiers kinds n) (perhaps kinds n) n p (mark_at kinds p)
unfolding perhaps
perhaps_on kinds n p = refl
