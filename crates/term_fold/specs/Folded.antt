-- What takes the place of a term.
use Rattle.std.specs.Prelude.{◌≡◌, ℕ, ◌<◌, ℤ, List, length, Option, Some, IfSome}
use Rattle.std.specs.Option.{unwrap_or}
use Rattle.term_core.specs.declared.term.Shape.{Shape}
use Rattle.term_core.specs.declared.term.Term.{Term}
use Rattle.term_core.specs.declared.term.TermId.{TermId}
use Rattle.term_core.specs.declared.term.TermKind.{TermKind}
use Rattle.term_core.specs.declared.term.TermKind.TheVariants.{Constant, Variable, Unary, Binary, Fits, Select, Convert}
use Rattle.term_core.specs.Shape.{IsShape, HasShape}
use Rattle.term_core.specs.Table.{shape_at, kind_value, Agrees, IsKindAt}
use Rattle.term_fold.specs.declared.operands.Operands.{Operands}
use Rattle.term_fold.specs.declared.operands.Pick.{Pick}
use Rattle.term_fold.specs.declared.operands.Pick.TheVariants.{Left, Right, Number, Neither}
use Rattle.term_fold.specs.declared.simpler.Simpler.{Simpler}
use Rattle.term_fold.specs.declared.simpler.Simpler.TheVariants.{Same, Computed, Other}
use Rattle.term_fold.specs.Picks.{Knows}

-- the term id always has the number n
pub record IsConstant (ts : List Term) (id : TermId) (n : ℤ) : Type 0 where
  pub has : HasShape (shape_at ts id.0) n
  pub value : (E V : ℕ → ℤ) → Agrees E V ts → V id.0 ≡ n

-- o is what is known of the terms l and r
pub record AreOperands (ts : List Term) (l r : TermId) (o : Operands) : Type 0 where
  pub shape : o.shape ≡ shape_at ts l.0
  pub other : o.other ≡ shape_at ts r.0
  pub valid : IsShape o.shape
  pub left_has : IfSome o.left (HasShape o.shape)
  pub right_has : IfSome o.right (HasShape o.other)
  pub knows : (E V : ℕ → ℤ) → Agrees E V ts → Knows o (V l.0) (V r.0)

-- what is picked of the terms l and r, and else k
abbrev pub chosen_of : Pick → TermId → TermId → TermKind → Simpler
chosen_of Left l r k = Same l
chosen_of Right l r k = Same r
chosen_of (Number n) l r k = Computed n
chosen_of Neither l r k = Other k

-- what takes the place of a term of shape s is in the table, or can be added
abbrev pub Stands : List Term → Shape → Simpler → Type 0
Stands ts s (Same id) = (id.0 < length ts) × (shape_at ts id.0 ≡ s)
Stands ts s (Computed n) = HasShape s n
Stands ts s (Other k) = IsKindAt ts (length ts) s k

-- and its value
abbrev pub simpler_value : (ℕ → ℤ) → (ℕ → ℤ) → List Term → Shape → Simpler → ℤ
simpler_value E V ts s (Same id) = V id.0
simpler_value E V ts s (Computed n) = n
simpler_value E V ts s (Other k) = kind_value E V ts s k

-- r can take the place of a term of shape s that is made of k
pub record IsSimpler (ts : List Term) (s : Shape) (k : TermKind) (r : Simpler) : Type 0 where
  pub stands : Stands ts s r
  pub value : (E V : ℕ → ℤ) → Agrees E V ts → simpler_value E V ts s r ≡ kind_value E V ts s k

-- id has the shape s, and the value v gives
pub record Replaces (new : List Term) (s : Shape) (v : (ℕ → ℤ) → (ℕ → ℤ) → ℤ) (id : TermId) : Type 0 where
  pub within : id.0 < length new
  pub shape : shape_at new id.0 ≡ s
  pub value : (E V : ℕ → ℤ) → Agrees E V new → V id.0 ≡ v E V

-- the terms i and id have one shape and one value in every environment
pub record IsSame (ts : List Term) (i : ℕ) (id : TermId) : Type 0 where
  pub within : id.0 < length ts
  pub shape : shape_at ts id.0 ≡ shape_at ts i
  pub value : (E V : ℕ → ℤ) → Agrees E V ts → V id.0 ≡ V i

-- what stands for the term id: what F says that it was folded to, and else itself
abbrev pub renamed_id : (ℕ → Option TermId) → TermId → TermId
renamed_id F id = unwrap_or (F id.0) id

-- each term that F says that something was folded to stands for it
pub record AllSame (ts : List Term) (F : ℕ → Option TermId) : Type 0 where
  pub within : (i : ℕ) (id : TermId) → F i ≡ Some id → i < length ts
  pub at : (i : ℕ) (id : TermId) → F i ≡ Some id → IsSame ts i id

abbrev pub renamed_kind : (ℕ → Option TermId) → TermKind → TermKind
renamed_kind F (Constant n) = Constant n
renamed_kind F (Variable n) = Variable n
renamed_kind F (Unary op a) = Unary op (renamed_id F a)
renamed_kind F (Binary op a b) = Binary op (renamed_id F a) (renamed_id F b)
renamed_kind F (Fits op a b) = Fits op (renamed_id F a) (renamed_id F b)
renamed_kind F (Select t y n) = Select (renamed_id F t) (renamed_id F y) (renamed_id F n)
renamed_kind F (Convert a) = Convert (renamed_id F a)

-- the operands are below i
abbrev pub NamesBelow : ℕ → TermKind → Type 0
NamesBelow i (Constant n) = Unit {0}
NamesBelow i (Variable n) = Unit {0}
NamesBelow i (Unary op a) = a.0 < i
NamesBelow i (Binary op a b) = (a.0 < i) × (b.0 < i)
NamesBelow i (Fits op a b) = (a.0 < i) × (b.0 < i)
NamesBelow i (Select t y n) = (t.0 < i) × (y.0 < i) × (n.0 < i)
NamesBelow i (Convert a) = a.0 < i
