-- Faults that are passed on.
use Rattle.std.proofs.Common.{◌≡◌, List, ℕ, sym, subst}
use Rattle.std.specs.Prelude.{Result, Err}
use Rattle.c_tokens.specs.declared.token.TokenKind.{TokenKind}
use Rattle.c_tree.specs.Places.{Place}
use Rattle.c_cursor.specs.declared.fault.Fault.{Fault}
use Rattle.c_cursor.specs.declared.fault.Fault.TheVariants.{Syntax, NoMemory}
use Rattle.c_cursor.specs.declared.marks.Mark.{Mark}
use Rattle.c_cursor.specs.Bare.{bare_at, Takes}
use Rattle.c_grammar.specs.ReadExpressions.{Outcome, Refuses}
use Rattle.c_cursor.specs.Reads.{Reads}

refused_by : {A B : Type 0} (o : Outcome A) (whole : Outcome B) (fault : Fault) (q r : Place) → (o ≡ Refuses → whole ≡ Refuses)
    → Reads o (Err fault) q → Reads whole (Err fault) r
refused_by o whole (Syntax at) q r f h = f h
refused_by o whole NoMemory q r f h = tt

-- what gives up where a part does
pub refused : {A B : Type 0} (o : Outcome A) (whole : Outcome B) (fault : Fault) (result : Result B Fault) (q r : Place) → result ≡ Err fault
    → (o ≡ Refuses → whole ≡ Refuses) → Reads o (Err fault) q → Reads whole result r
refused o whole fault result q r e f h = subst (λ x. Reads whole x r) (sym e) (refused_by o whole fault q r f h)

expected_by : {B : Type 0} (kinds : List TokenKind) (wanted : Mark) (old new : Place) (whole : Outcome B) (fault : Fault) (r : Place)
    → ((bare_at kinds old ≡ wanted → ⊥) → whole ≡ Refuses) → Takes kinds wanted old (Err fault) new → Reads whole (Err fault) r
expected_by kinds wanted old new whole (Syntax at) r f h = f h
expected_by kinds wanted old new whole NoMemory r f h = tt

-- what gives up where a token is missing
pub expected : {B : Type 0} (kinds : List TokenKind) (wanted : Mark) (old new : Place) (whole : Outcome B) (fault : Fault) (result : Result B Fault) (r : Place)
    → result ≡ Err fault → ((bare_at kinds old ≡ wanted → ⊥) → whole ≡ Refuses) → Takes kinds wanted old (Err fault) new → Reads whole result r
expected kinds wanted old new whole fault result r e f h = subst (λ x. Reads whole x r) (sym e) (expected_by kinds wanted old new whole fault r f h)

-- what gives up at this place
pub refuses : {B : Type 0} (whole : Outcome B) (fault : Fault) (at : ℕ) (r : Place) → fault ≡ Syntax at → whole ≡ Refuses → Reads whole (Err fault) r
refuses whole fault at r e h = subst (λ f. Reads whole (Err f) r) (sym e) h
