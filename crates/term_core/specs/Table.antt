-- Tables of terms, and assignments that give each term its value.
use Rattle.std.specs.Prelude.{ℕ, ◌≡◌, ◌≢◌, ◌<◌, ◌≤◌, ℤ, pos, List, length, slice_index_or, if◌then◌else◌}
use Rattle.std.specs.Ordering.{int_eq}
use Rattle.term_core.specs.declared.term.Shape.{Shape}
use Rattle.term_core.specs.declared.term.Term.{Term}
use Rattle.term_core.specs.declared.term.TermId.{TermId}
use Rattle.term_core.specs.declared.term.TermKind.{TermKind}
use Rattle.term_core.specs.declared.term.TermKind.TheVariants.{Constant, Variable, Unary, Binary, Fits, Select, Convert}
use Rattle.term_core.specs.Shape.{IsShape, HasShape, wrap_to, one_bit}
use Rattle.term_core.specs.Term.{truth, unary_value, binary_value, fits_value, result_shape, OperandsFit}

abbrev pub term_at : List Term → ℕ → Term
term_at ts i = slice_index_or ts i (record { shape = one_bit; kind = Constant (pos 0) })

abbrev pub shape_at : List Term → ℕ → Shape
shape_at ts i = (term_at ts i).shape

-- ---- values

-- the value of what a term of shape s is made of, where E gives the variables' numbers and V the values of the
-- table's terms
abbrev pub kind_value : (ℕ → ℤ) → (ℕ → ℤ) → List Term → Shape → TermKind → ℤ
kind_value E V ts s (Constant n) = n
kind_value E V ts s (Variable n) = wrap_to s (E n)
kind_value E V ts s (Unary op a) = unary_value s op (V a.0)
kind_value E V ts s (Binary op a b) = binary_value (shape_at ts a.0) (shape_at ts b.0) op (V a.0) (V b.0)
kind_value E V ts s (Fits op a b) = truth (fits_value (shape_at ts a.0) (shape_at ts b.0) op (V a.0) (V b.0))
kind_value E V ts s (Select t y n) = if int_eq (V t.0) (pos 0) then V n.0 else V y.0  -- 6.5.15
kind_value E V ts s (Convert a) = wrap_to s (V a.0)  -- 6.3.1.3

abbrev pub term_value : (ℕ → ℤ) → (ℕ → ℤ) → List Term → Term → ℤ
term_value E V ts t = kind_value E V ts t.shape t.kind

-- V gives each term of the table its value
pub record Agrees (E V : ℕ → ℤ) (ts : List Term) : Type 0 where
  pub at : (i : ℕ) → i < length ts → V i ≡ term_value E V ts (term_at ts i)

-- ---- tables

-- a is an earlier term than number i, of shape s
abbrev pub IsOperand : List Term → ℕ → Shape → TermId → Type 0
IsOperand ts i s a = (a.0 < i) × (shape_at ts a.0 ≡ s)

-- the operands are earlier terms than number i, and their shapes fit
abbrev pub IsKindAt : List Term → ℕ → Shape → TermKind → Type 0
IsKindAt ts i s (Constant n) = HasShape s n
IsKindAt ts i s (Variable n) = Unit {0}
IsKindAt ts i s (Unary op a) = IsOperand ts i s a
IsKindAt ts i s (Binary op a b) = (a.0 < i) × (b.0 < i) × OperandsFit op (shape_at ts a.0) (shape_at ts b.0) × (s ≡ result_shape op (shape_at ts a.0))
IsKindAt ts i s (Fits op a b) = (a.0 < i) × (b.0 < i) × OperandsFit op (shape_at ts a.0) (shape_at ts b.0) × (s ≡ one_bit)
IsKindAt ts i s (Select t y n) = IsOperand ts i one_bit t × IsOperand ts i s y × IsOperand ts i s n
IsKindAt ts i s (Convert a) = a.0 < i

-- t can be number i of the table
abbrev pub IsTermAt : List Term → ℕ → Term → Type 0
IsTermAt ts i t = IsShape t.shape × IsKindAt ts i t.shape t.kind

-- each term names earlier ones alone, and the shapes fit
abbrev pub IsTable : List Term → Type 0
IsTable ts = (i : ℕ) → i < length ts → IsTermAt ts i (term_at ts i)

-- no two terms are equal
abbrev pub IsShared : List Term → Type 0
IsShared ts = (i j : ℕ) → i < j → j < length ts → term_at ts i ≢ term_at ts j

-- earlier terms keep their numbers and their values
pub record Grows (old new : List Term) : Type 0 where
  pub longer : length old ≤ length new
  pub same : (i : ℕ) → i < length old → term_at new i ≡ term_at old i
  pub kept : (E V : ℕ → ℤ) → Agrees E V new → Agrees E V old

-- ---- what holds of each table

-- an environment gives the terms values
abbrev pub HasValues : List Term → Type 0
HasValues ts = (E : ℕ → ℤ) → (V : ℕ → ℤ) × Agrees E V ts

-- and only these
abbrev pub HasOneValue : List Term → Type 0
HasOneValue ts = (E V W : ℕ → ℤ) → Agrees E V ts → Agrees E W ts → (i : ℕ) → i < length ts → V i ≡ W i

-- which have the terms' shapes
abbrev pub HasShapes : List Term → Type 0
HasShapes ts = (E V : ℕ → ℤ) → Agrees E V ts → (i : ℕ) → i < length ts → HasShape (shape_at ts i) (V i)
