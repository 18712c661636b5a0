-- The queries over a template's blocks. Each contains the clauses of its blocks, that its beginning is a start or
-- a loop head, and what it asks of its blocks; what a prover may assume instead of adding is kept apart.
use Rattle.std.specs.Prelude.{ℕ, zero, suc, ◌+◌, ◌-◌, ◌*◌, Bool, ◌&&◌, ◌==◌, List, [], ◌∷◌, ◌++◌, map}
use mathlib.Core.Bool.{beq}
use Rattle.std.specs.List.{list_any, filter}
use Rattle.std.specs.Ordering.{int_eq}
use Rattle.sat_clause.specs.Literals.{complement_of, units}
use Rattle.sat_clause.specs.Propagation.{Spent}
use Rattle.kv_clause.specs.Blocks.{stride, literal_in, block_of}
use Rattle.kv_clause.specs.declared.template.Template.{Template}
use Rattle.kv_clause.specs.declared.bound.Bound.{Bound}
use Rattle.kv_clause.specs.declared.bound.BoundLit.{BoundLit}
use Rattle.kv_clause.specs.declared.query.Query.{Query}
use Rattle.kv_clause.specs.declared.query.Query.TheVariants.{Base, Forward, Step, First, Induct, Closing}

-- the clauses of blocks 0 to k - 1
abbrev pub blocks_of : Template → ℕ → List (List ℕ)
blocks_of T zero = []
blocks_of T (suc k) = blocks_of T k ++ block_of T k

-- how many variables k blocks have
abbrev pub vars_of : Template → ℕ → ℕ
vars_of T k = T.state + k * stride T

-- blocks 0 to k - 1 arrive
abbrev pub arrivals : Template → ℕ → List ℕ
arrivals T zero = []
arrivals T (suc k) = arrivals T k ++ literal_in T k T.next ∷ []

abbrev pub is_same : Bound → Bound → Bool
is_same a b = (a.head == b.head) && (a.cell == b.cell) && beq a.at_least b.at_least && int_eq a.number b.number

abbrev pub has_bound : List Bound → Bound → Bool
has_bound bs b = list_any (λ a. is_same a b) bs

-- the literals of the candidates that stand among the bounds, in the candidates' order
abbrev pub lits_of : List BoundLit → List Bound → List ℕ
lits_of cs bs = map (λ c. c.lit) (filter (λ c. has_bound bs c.bound) cs)

-- the bounds hold at the beginning of block i
abbrev pub bounds_at : Template → List Bound → ℕ → List ℕ
bounds_at T bs i = map (literal_in T i) (lits_of T.bounds bs)

-- the bounds hold at the beginnings of blocks 0 to k - 1
abbrev pub bounds_before : Template → List Bound → ℕ → List ℕ
bounds_before T bs zero = []
bounds_before T bs (suc k) = bounds_before T bs k ++ bounds_at T bs k

-- blocks 0 to k - 2 arrive and block k - 1 breaks
abbrev pub breaks_last : Template → ℕ → List ℕ
breaks_last T k = arrivals T (k - 1) ++ literal_in T (k - 1) T.broken ∷ []

-- block 0 arrives, and some bound of the set is false at the arrival
abbrev pub leaves_set : Template → List Bound → List (List ℕ)
leaves_set T bs = units (arrivals T 1) ++ map complement_of (bounds_at T bs 1) ∷ []

-- the query begins at the program's start, or at a loop head
abbrev pub beginning_of : Template → Query → List (List ℕ)
beginning_of T (Base k) = T.start
beginning_of T (Forward k) = T.start
beginning_of T (Step k under) = T.head
beginning_of T (First round bs) = T.start
beginning_of T (Induct round bs) = T.head
beginning_of T (Closing k under) = T.head

-- what a query about a set says of it
abbrev pub further_of : Template → Query → List (List ℕ)
further_of T (Base k) = []
further_of T (Forward k) = []
further_of T (Step k under) = []
further_of T (First round bs) = leaves_set T bs
further_of T (Induct round bs) = units (bounds_at T bs 0) ++ leaves_set T bs
further_of T (Closing k under) = []

-- how many blocks a query has
abbrev pub blocks_in : Query → ℕ
blocks_in (Base k) = k
blocks_in (Forward k) = k
blocks_in (Step k under) = k
blocks_in (First round bs) = 2
blocks_in (Induct round bs) = 2
blocks_in (Closing k under) = k

-- the clauses of a query that are no asked literals
abbrev pub fixed : Template → Query → List (List ℕ)
fixed T q = beginning_of T q ++ blocks_of T (blocks_in q) ++ further_of T q

-- the literals of a query that a solver may assume
abbrev pub asked : Template → Query → List ℕ
asked T (Base k) = breaks_last T k
asked T (Forward k) = arrivals T k
asked T (Step k under) = bounds_before T under k ++ breaks_last T k
asked T (First round bs) = []
asked T (Induct round bs) = []
asked T (Closing k under) = bounds_before T under k ++ breaks_last T k

-- all clauses of a query
abbrev pub query : Template → Query → List (List ℕ)
query T q = fixed T q ++ units (asked T q)

-- a budget of clauses is spent on the fixed clauses of a query
abbrev pub SpentAt : Template → Query → ℕ → List (List ℕ) → Type 0
SpentAt T q B L = Spent (vars_of T (blocks_in q)) (fixed T q) B L
