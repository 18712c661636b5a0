-- The names of a straight program.
use Rattle.std.specs.Prelude.{ℕ, List, [], ◌∷◌, All, Contains, codes}
use Rattle.c_straight_model.specs.declared.program.Operand.{Operand}
use Rattle.c_straight_model.specs.declared.program.Operand.TheVariants.{Name, Number}
use Rattle.c_straight_model.specs.declared.program.Sum.{Sum}
use Rattle.c_straight_model.specs.declared.program.BlockItem.{BlockItem}
use Rattle.c_straight_model.specs.declared.program.BlockItem.TheVariants.{Declare, Assign, Assert}

-- names that name no object: `main`, and the known functions
abbrev pub reserved : List (List ℕ)
reserved = codes "main"
    ∷ codes "assert" ∷ codes "__VERIFIER_assume" ∷ codes "__ESBMC_assume" ∷ codes "abort" ∷ codes "exit" ∷ codes "reach_error"
    ∷ codes "__VERIFIER_error" ∷ codes "__assert_fail"
    ∷ codes "__VERIFIER_nondet_bool" ∷ codes "__VERIFIER_nondet_char" ∷ codes "__VERIFIER_nondet_uchar"
    ∷ codes "__VERIFIER_nondet_short" ∷ codes "__VERIFIER_nondet_ushort" ∷ codes "__VERIFIER_nondet_int"
    ∷ codes "__VERIFIER_nondet_uint" ∷ codes "__VERIFIER_nondet_unsigned" ∷ codes "__VERIFIER_nondet_long"
    ∷ codes "__VERIFIER_nondet_ulong" ∷ codes "__VERIFIER_nondet_longlong" ∷ codes "__VERIFIER_nondet_ulonglong"
    ∷ codes "nondet_bool" ∷ codes "nondet_char" ∷ codes "nondet_uchar" ∷ codes "nondet_short" ∷ codes "nondet_ushort"
    ∷ codes "nondet_int" ∷ codes "nondet_uint" ∷ codes "nondet_unsigned" ∷ codes "nondet_long" ∷ codes "nondet_ulong"
    ∷ codes "nondet_longlong" ∷ codes "nondet_ulonglong" ∷ []

-- a name in scope, or a number
abbrev pub IsOperand : List (List ℕ) → Operand → Type 0
IsOperand names (Name name) = Contains names name
IsOperand names (Number value) = Unit {0}

abbrev pub AreOperands : List (List ℕ) → Sum → Type 0
AreOperands names sum = IsOperand names sum.first × All (λ addend. IsOperand names addend.operand) sum.rest

-- the item declares a new name or none, and uses names in scope
abbrev pub IsScoped : List (List ℕ) → BlockItem → Type 0
IsScoped names (Declare name value line) = (Contains reserved name → ⊥) × (Contains names name → ⊥) × AreOperands names value
IsScoped names (Assign name value line) = Contains names name × AreOperands names value
IsScoped names (Assert relation left right line) = AreOperands names left × AreOperands names right

-- the names in scope after an item
abbrev pub scope_after : List (List ℕ) → BlockItem → List (List ℕ)
scope_after names (Declare name value line) = name ∷ names
scope_after names (Assign name value line) = names
scope_after names (Assert relation left right line) = names

-- each name is declared once, and used only in items after its declaration (6.2.1p7)
abbrev pub AreScoped : List (List ℕ) → List BlockItem → Type 0
AreScoped names [] = Unit {0}
AreScoped names (item ∷ items) = IsScoped names item × AreScoped (scope_after names item) items
