-- What the queries say block by block: each block's clauses over its own part of the assignment, whose beginning is the
-- end of the block before.
use Rattle.std.specs.Prelude.{ℕ, zero, suc, ◌≡◌, Bool, true, List, map}
use Rattle.sat_clause.specs.Literals.{is_true, clause_holds, complement_of, MeetsAll, AreTrue, later}
use Rattle.kv_clause.specs.Blocks.{stride}
use Rattle.kv_clause.specs.Queries.{lits_of}
use Rattle.kv_clause.specs.declared.template.Template.{Template}
use Rattle.kv_clause.specs.declared.bound.Bound.{Bound}

-- k blocks arrive
abbrev pub MeetsArrivals : Template → ℕ → (ℕ → Bool) → Type 0
MeetsArrivals T zero A = Unit {0}
MeetsArrivals T (suc k) A = MeetsAll A T.clauses × (is_true A T.next ≡ true) × MeetsArrivals T k (later (stride T) A)

-- k blocks arrive, and the one after them breaks
abbrev pub MeetsBreak : Template → ℕ → (ℕ → Bool) → Type 0
MeetsBreak T zero A = MeetsAll A T.clauses × (is_true A T.broken ≡ true)
MeetsBreak T (suc k) A = MeetsAll A T.clauses × (is_true A T.next ≡ true) × MeetsBreak T k (later (stride T) A)

-- the same, with the bounds true at the beginning of each of these blocks
abbrev pub MeetsBreakUnder : Template → List Bound → ℕ → (ℕ → Bool) → Type 0
MeetsBreakUnder T bs zero A = MeetsAll A T.clauses × AreTrue A (lits_of T.bounds bs) × (is_true A T.broken ≡ true)
MeetsBreakUnder T bs (suc k) A = MeetsAll A T.clauses × AreTrue A (lits_of T.bounds bs) × (is_true A T.next ≡ true) × MeetsBreakUnder T bs k (later (stride T) A)

-- a block arrives where some bound of the set is false
abbrev pub MeetsLeaving : Template → List Bound → (ℕ → Bool) → Type 0
MeetsLeaving T bs A = MeetsAll A T.clauses × (is_true A T.next ≡ true) × MeetsAll (later (stride T) A) T.clauses × (clause_holds (later (stride T) A) (map complement_of (lits_of T.bounds bs)) ≡ true)
