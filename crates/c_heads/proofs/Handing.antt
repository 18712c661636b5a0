-- States stay sound where a value is given, an operand asked for, a value stored, or a block left.
use Rattle.std.proofs.Common.{◌≡◌, ℕ, zero, suc, ◌+◌, ◌≤◌, not, List, [], ◌∷◌, ◌++◌, length, map, take, Option, Some, None, IsTrue, refl, sym, ap, subst, arith}
use Rattle.std.specs.Prelude.{slice_set, slice_get}
use Rattle.kv_num.specs.declared.types.IntType.TheVariants.{Int}
use Rattle.c_tree.specs.declared.expression.Expression.{Expression, out-Expression}
use Rattle.c_tree.specs.declared.statement.Statement.{out-Statement}
use Rattle.c_tree.specs.declared.statement.BlockItem.TheOpen.{Statement-F as t}
use Rattle.c_kinds.specs.declared.types.CType.{CType}
use Rattle.c_kinds.specs.declared.types.CellType.{CellType}
use Rattle.c_kinds.specs.Types.{integer}
use Rattle.c_kinds.specs.Layouts.{begins_with}
use Rattle.c_rules.specs.declared.program.Program.{Program}
use Rattle.c_model.specs.declared.values.Scalar.{Scalar}
use Rattle.c_model.specs.declared.values.Scalar.TheVariants.{Inside}
use Rattle.c_model.specs.declared.values.Object.{Object}
use Rattle.c_model.specs.Programs.{StatementNode, type_of, types_of}
use Rattle.c_model.specs.Values.{truth_of, is_no}
use Rattle.c_model.specs.Store.{types_from, object_with, stored_by, stored, outlives, survivors}
use Rattle.c_model.specs.Moves.{put, give, giving, asking, item_outlived, closes}
use Rattle.c_model.specs.Configurations.{Item, Needs, Place, Locates, Truth, Converts, Drops, Tests, Branching, Awaits, State}
use Rattle.c_model.specs.Heads.{Wait, AsValue, AsPlace, AreOf, IsPlace}
use Rattle.c_heads.specs.Typed.{IsOfType, IsLaidOut}
use Rattle.c_heads.specs.Waiting.{Given, Runs, Acts, Evaluates, Hands, type_given, IsGiven, StandsFor, given_by, awaited, place_awaited, AreFound}
use Rattle.c_heads.specs.Controls.{running_in, MayTest, HasTested, Delivers, IsResult, DropsTo, IsTop, IsSoundControl, IsSoundState}
use Rattle.c_heads.proofs.Numbers.{truth_fits}
use Rattle.c_heads.proofs.Conversions.{converts_to}
use Rattle.c_heads.proofs.Stores.{stored_grows, survivors_are}
use Rattle.c_heads.proofs.Moving.{grown_control, lived_on}

is_top : (g : Given) → DropsTo g → IsTop g
is_top (Hands w) h = absurd h
is_top _ h = tt

module _ (p : Program) where
  -- ---- what is given

  module _ (store : List Object) (n : ℕ) where
    pub as_value : (w : Wait) (v : List Scalar) → IsGiven p store n w v → IsOfType p store (type_given w) v
    as_value (AsValue of) v h = h
    as_value (AsPlace of) [] h = absurd h
    as_value (AsPlace of) (s ∷ []) h = (h.1, tt)
    as_value (AsPlace of) (s ∷ (r ∷ v)) h = absurd h

    place_as : (of other : CType) (s : Scalar) → types_of p of ≡ types_of p other → IsPlace p store n of (s ∷ []) → IsPlace p store n other (s ∷ [])
    place_as of other (Inside object offset) e h =
        let P : List CellType → Type 0 = λ ts. IsTrue (begins_with (types_from p (slice_get store object) offset) ts) in
        (h.0, subst P e h.1)
    place_as of other _ e h = absurd h

    pub stands : (w a : Wait) (v : List Scalar) → StandsFor p w a → IsGiven p store n w v → IsGiven p store n a v
    stands (AsValue of) (AsValue other) v e h = let P : List CellType → Type 0 = λ ts. AreOf store ts v in subst P e h
    stands (AsPlace of) (AsPlace other) [] e h = absurd h
    stands (AsPlace of) (AsPlace other) (s ∷ []) e h = (place_as of other s e h.0, h.1)
    stands (AsPlace of) (AsPlace other) (s ∷ (r ∷ v)) e h = absurd h
    stands (AsPlace of) (AsValue other) v e h = let P : List CellType → Type 0 = λ ts. AreOf store ts v in subst P e (as_value (AsPlace of) v h)
    stands (AsValue of) (AsPlace other) v e h = absurd e

    pub delivered : (w : Wait) (v : List Scalar) (below : Given) → Delivers p w below → IsGiven p store n w v → IsResult p store n v below
    delivered w v (Hands a) e h = stands w a v e h
    delivered w v _ e h = absurd e

    one_more : (w : ℕ → Wait) (k : ℕ) (found : List (List Scalar)) (v : List Scalar) (m : ℕ) → k + length found ≡ m → AreFound p store n w k found → IsGiven p store n (w m) v → AreFound p store n w k (found ++ v ∷ [])
    one_more w k [] v m e h g =
        let same : m ≡ k = omega (arith, e) in
        let P : ℕ → Type 0 = λ i. IsGiven p store n (w i) v in
        (subst P same g, tt)
    one_more w k (u ∷ found) v m e h g = (h.0, one_more w (suc k) found v m (omega (arith, e)) h.1 g)

    pub found_more : (w : ℕ → Wait) (found : List (List Scalar)) (v : List Scalar) (a : Wait) → a ≡ w (length found) → AreFound p store n w 0 found → IsGiven p store n a v → AreFound p store n w 0 (found ++ v ∷ [])
    found_more w found v a e h g =
        let P : Wait → Type 0 = λ x. IsGiven p store n x v in
        one_more w 0 found v (length found) (omega arith) h (subst P e g)

    tested : (f : Option ℕ) (l : StatementNode) (of : CType) (v : List Scalar) → MayTest p f l of → IsOfType p store of v → HasTested p store f l v
    tested f (t.Return value at) of v m h = (of, m, h)
    tested f _ of v m h = tt

    -- the item that waits has its value
    pub record Handed (items : List Item) : Type 0 where
      pub top : Given
      pub active : IsTop top
      pub control : IsSoundControl p store n top items

    hand : (v : List Scalar) (w : Wait) → IsGiven p store n w v → (items : List Item) → IsSoundControl p store n (Hands w) items → Handed (give v items)
    hand v w g [] h = absurd (cc)
    hand v w g (Needs x found ∷ rest) h = record {
      top = Evaluates;
      active = tt;
      control = (h.0, tt, (found_more (awaited p (out-Expression x)) found v w h.1 h.2.0 g, h.2.1), h.3);
    }
    hand v w g (Locates x found ∷ rest) h = record {
      top = Evaluates;
      active = tt;
      control = (h.0, tt, (found_more (place_awaited p (out-Expression x)) found v w h.1 h.2.0 g, h.2.1), h.3);
    }
    hand v w g (Truth ∷ rest) h = record {
      top = Evaluates;
      active = tt;
      control = (h.0, tt, delivered (AsValue (integer Int)) (truth_of (not (is_no v)) ∷ []) h.0 h.2 (truth_fits (not (is_no v)), tt), h.3);
    }
    hand v w g (Converts to ∷ rest) h = record {
      top = Evaluates;
      active = tt;
      control = (h.0, tt, delivered (AsValue to) _ h.0 h.2 (converts_to p store to (type_given w) v h.1 (as_value w v g)), h.3);
    }
    hand v w g (Drops ∷ rest) h = record { top = h.0; active = is_top h.0 h.2; control = h.3 }
    hand v w g (Tests s ∷ rest) h = record {
      top = Acts;
      active = tt;
      control = (h.0, tt, (tested (running_in rest) (out-Statement s) (type_given w) v h.1 (as_value w v g), h.2), h.3);
    }
    hand v w g (Branching left otherwise ∷ rest) h = record { top = Acts; active = tt; control = (h.0, tt, h.2, h.3) }
    hand v w g (Awaits number offset to ∷ rest) h = record {
      top = Acts;
      active = tt;
      control = (h.0, tt, ((to, h.2.0, converts_to p store to (type_given w) v h.1 (as_value w v g)), h.2.1), h.3);
    }
    hand v w g (_ ∷ rest) h = absurd h.1

    pub handed_on : (v : List Scalar) (below : Given) → IsResult p store n v below → (items : List Item) → IsSoundControl p store n below items → Handed (give v items)
    handed_on v (Hands w) g items h = hand v w g items h
    handed_on v _ g items h = absurd g

  -- ---- the number of living objects

  same_count : (store : List Object) (i : ℕ) (o : Object) → length (slice_set store i o) ≡ length store
  same_count [] i o = refl
  same_count (a ∷ store) zero o = refl
  same_count (a ∷ store) (suc i) o = ap suc (same_count store i o)

  stored_by_count : (store : List Object) (object offset : ℕ) (v : List Scalar) (found : Option Object) → length (stored_by found object offset v store) ≡ length store
  stored_by_count store object offset v None = refl
  stored_by_count store object offset v (Some old) = same_count store object (object_with offset v old)

  stored_count : (v : List Scalar) (s : Scalar) (store : List Object) → length (stored v s store) ≡ length store
  stored_count v (Inside object offset) store = stored_by_count store object offset v (slice_get store object)
  stored_count v _ store = refl

  survivor_count : (m n : ℕ) (store : List Object) → n ≤ length store → length (map (outlives m) (take n store)) ≡ n
  survivor_count m zero store h = refl
  survivor_count m (suc n) [] h = absurd (omega (arith, h))
  survivor_count m (suc n) (a ∷ store) h = ap suc (survivor_count m n store (omega (arith, h)))

  -- ---- states

  module _ (c : State) (is : IsLaidOut p c.store) where
    pub gives_is : (v : List Scalar) (below : Given) → IsResult p c.store (length c.store) v below → IsSoundControl p c.store (length c.store) below c.control → IsSoundState p (giving v c)
    gives_is v below g h =
        let r = handed_on c.store (length c.store) v below g c.control h in
        record { store = is; top = r.top; active = r.active; control = r.control }

    pub asks_is : (x : Expression) (item : Item) (w : Wait) → StandsFor p (given_by p x) w → IsSoundControl p c.store (length c.store) (Hands w) (item ∷ c.control) → IsSoundState p (asking x item c)
    asks_is x item w e h = record { store = is; top = Evaluates; active = tt; control = (Hands w, tt, (tt, e), h) }

    pub locates_is : (x : Expression) (item : Item) (w : Wait) → StandsFor p (AsPlace (type_of p x)) w → IsSoundControl p c.store (length c.store) (Hands w) (item ∷ c.control)
        → IsSoundState p (put (Place x []) (put item c))
    locates_is x item w e h = record { store = is; top = Evaluates; active = tt; control = (Hands w, tt, (tt, e), h) }

    pub goes_is : (items : List Item) → IsSoundControl p c.store (length c.store) Runs items → IsSoundState p (record c { control = items })
    goes_is items h = record { store = is; top = Runs; active = tt; control = h }

    -- the control stays sound where a value is stored
    pub kept_control : (v : List Scalar) (s : Scalar) (given : Given) (items : List Item) → IsSoundControl p c.store (length c.store) given items
        → IsSoundControl p (stored v s c.store) (length (stored v s c.store)) given items
    kept_control v s given items h =
        let P : ℕ → Type 0 = λ n. IsSoundControl p (stored v s c.store) n given items in
        subst P (sym (stored_count v s c.store)) (grown_control p c.store (stored v s c.store) (stored_grows v s c.store) (length c.store) (omega arith) given items h)

    -- and where only the first k objects live on
    pub closed_control : (k : ℕ) → k ≤ length c.store → (given : Given) (items : List Item) → IsSoundControl p c.store k given items
        → IsSoundControl p (survivors k c.store) (length (survivors k c.store)) given (map (item_outlived k) items)
    closed_control k le given items h =
        let P : ℕ → Type 0 = λ n. IsSoundControl p (survivors k c.store) n given (map (item_outlived k) items) in
        subst P (sym (survivor_count k k c.store le)) (lived_on p k c.store k (omega arith) given items h)

    pub closed_is : (k : ℕ) → k ≤ length c.store → (given : Given) → IsTop given → IsSoundControl p c.store k given c.control → IsSoundState p (closes k c)
    closed_is k le given a h = record { store = survivors_are p k c.store is; top = given; active = a; control = closed_control k le given c.control h }
