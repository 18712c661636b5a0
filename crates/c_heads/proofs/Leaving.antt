-- Jumps, ends of calls, and declarations.
use Rattle.std.proofs.Common.{◌≡◌, ℕ, ◌+◌, ◌≤◌, Bool, true, false, List, [], ◌∷◌, ◌++◌, length, map, take, drop, Option, Some, None, refl, sym, subst, cond}
use Rattle.std.specs.Prelude.{slice_get}
use Rattle.c_tree.specs.declared.declaration.Declared.{Declared}
use Rattle.c_tree.specs.declared.declaration.Declared.TheVariants as declared
use Rattle.c_tree.specs.declared.declaration.Initialiser.{Initialiser}
use Rattle.c_tree.specs.declared.declaration.Initialiser.TheOpen.{Initialiser-F as i}
use Rattle.c_kinds.specs.declared.types.CType.{CType}
use Rattle.c_kinds.specs.declared.types.CellType.{CellType}
use Rattle.c_kinds.specs.declared.types.CellType.TheVariants as cell
use Rattle.c_kinds.specs.declared.types.Shape.{Shape}
use Rattle.c_kinds.specs.declared.types.Shape.TheVariants as shape
use Rattle.c_kinds.specs.Types.{shape_of, is_void, is_void_shape}
use Rattle.c_kinds.specs.Layouts.{begins_with}
use Rattle.c_rules.specs.declared.names.Meaning.{Meaning}
use Rattle.c_rules.specs.declared.names.Meaning.TheVariants as meaning
use Rattle.c_rules.specs.declared.program.Program.{Program}
use Rattle.c_model.specs.declared.values.Scalar.{Scalar}
use Rattle.c_model.specs.declared.values.Scalar.TheVariants.{Number, Wild}
use Rattle.c_model.specs.declared.values.Object.{Object}
use Rattle.c_model.specs.Programs.{types_of, types_in, part_type, object_type, is_static, declares}
use Rattle.c_model.specs.Functions.{result_of}
use Rattle.c_model.specs.Values.{value_as, zero_of}
use Rattle.c_model.specs.Store.{further, place_of, survivors}
use Rattle.c_model.specs.Calls.{falls_off, makes_cell, makes}
use Rattle.c_model.specs.Declarations.{filling, unset_cell, unset_move, part_offset, left_out, fill_node, parts_move, begins_life, declares_by, declaring_move}
use Rattle.c_model.specs.Moves.{put, gives, closes}
use Rattle.c_model.specs.Loops.{breaks, continues, leaves}
use Rattle.c_model.specs.Configurations.{Item, Result, Work, Decides, Rest, Close, Branches, Branched, Seeks, Labels, Switched, Loop, Again, Breaking, Continuing, Leaving, Back, Makes, Declaring, Unset, Fills, Parts, Awaits, Keeps, State, Goes}
use Rattle.c_model.specs.Heads.{AsValue, IsOf, AreOf}
use Rattle.c_heads.specs.Typed.{IsOfType, IsLaidOut}
use Rattle.c_heads.specs.Waiting.{Given, Runs, Acts, Evaluates, given_by}
use Rattle.c_heads.specs.Controls.{running_in, IsReturned, Takes, Delivers, HasPart, AreFirst, IsSoundItem, IsSoundControl, IsSoundState}
use Rattle.c_heads.specs.Sound.{InitialiserNode, Lives, IsFilled, IsLeftOut, StaysInside}
use Rattle.c_heads.proofs.Numbers.{zero_fits}
use Rattle.c_heads.proofs.Conversions.{types_of_void, converts_to}
use Rattle.c_heads.proofs.Stores.{survivors_are}
use Rattle.c_heads.proofs.Layouts.{begins_one}
use Rattle.c_heads.proofs.Handing.{delivered, gives_is, asks_is, kept_control, closed_control, closed_is}
use Rattle.c_heads.proofs.Reading.{filled}
use Rattle.c_heads.proofs.Evaluating.{stands_same, AllSound}

module _ (store : List Object) where
  -- a value has all its cells
  all_made : (ts : List CellType) (made : List Scalar) → slice_get ts (length made) ≡ None → AreOf store (take (length made) ts) made → AreOf store ts made
  all_made [] [] q h = tt
  all_made [] (s ∷ made) q h = absurd h
  all_made (k ∷ ts) [] q h = absurd (cc)
  all_made (k ∷ ts) (s ∷ made) q h = (h.0, all_made ts made q h.1)

  -- one more cell
  more_made : (ts : List CellType) (made : List Scalar) (k : CellType) (s : Scalar) → slice_get ts (length made) ≡ Some k → IsOf store k s → AreOf store (take (length made) ts) made
      → AreOf store (take (length (made ++ s ∷ [])) ts) (made ++ s ∷ [])
  more_made [] [] k s q g h = absurd (cc)
  more_made [] (r ∷ made) k s q g h = absurd h
  more_made (a ∷ ts) [] k s q g h =
      let same : k ≡ a = cc in
      let P : CellType → Type 0 = λ z. IsOf store z s in
      (subst P same g, tt)
  more_made (a ∷ ts) (r ∷ made) k s q g h = (h.0, more_made ts made k s q g h.1)

  zeros_are : (ts : List CellType) → AreOf store ts (map zero_of ts)
  zeros_are [] = tt
  zeros_are (cell.Integer kind ∷ ts) = (zero_fits kind, zeros_are ts)
  zeros_are (cell.Pointer to ∷ ts) = (tt, zeros_are ts)

void_by : (s : Shape) → is_void_shape s ≡ true → s ≡ shape.Void
void_by shape.Void q = refl
void_by _ q = absurd (cc)

module _ (p : Program) where
  -- what runs gives nothing to what runs below it
  runs_on : (store : List Object) (n : ℕ) (item : Item) (rest : List Item) (below : Given) → Takes p Runs item rest → IsSoundItem p store n item rest below → StaysInside (item ∷ rest) → below ≡ Runs
  runs_on store n (Back function objects) rest below k h inside = absurd inside
  runs_on store n (Work s) rest below k h inside = h
  runs_on store n (Decides s v) rest below k h inside = h.1
  runs_on store n (Rest left) rest below k h inside = h
  runs_on store n (Close objects) rest below k h inside = h.1
  runs_on store n (Branches left otherwise) rest below k h inside = h
  runs_on store n (Branched left otherwise v) rest below k h inside = h
  runs_on store n (Seeks kind value left otherwise) rest below k h inside = h
  runs_on store n (Labels kind value s left otherwise) rest below k h inside = h
  runs_on store n Switched rest below k h inside = h
  runs_on store n (Loop s) rest below k h inside = h
  runs_on store n (Again s) rest below k h inside = h
  runs_on store n Breaking rest below k h inside = h
  runs_on store n Continuing rest below k h inside = h
  runs_on store n (Leaving v) rest below k h inside = h.1
  runs_on store n (Declaring left) rest below k h inside = h
  runs_on store n (Unset number offset) rest below k h inside = h
  runs_on store n (Fills number offset to x) rest below k h inside = h
  runs_on store n (Parts number offset to part left) rest below k h inside = h
  runs_on store n (Keeps number offset v) rest below k h inside = h.1
  runs_on store n _ rest below k h inside = absurd k

  module _ (c : State) (is : IsLaidOut p c.store) where
    abbrev n : ℕ
    n = length c.store

    at_run : (m : ℕ) (below : Given) (items : List Item) → below ≡ Runs → IsSoundControl p c.store m below items → IsSoundControl p c.store m Runs items
    at_run m below items q h = let P : Given → Type 0 = λ g. IsSoundControl p c.store m g items in subst P q h

    state : (items : List Item) → IsSoundControl p c.store n Runs items → IsSoundState p (record c { control = items })
    state items h = record { store = is; top = Runs; active = tt; control = h }

    -- ---- jumps

    pub breaks_are : (items : List Item) → StaysInside items → IsSoundControl p c.store n Runs items → AllSound p (breaks items c)
    breaks_are [] inside h = tt
    breaks_are (Switched ∷ rest) inside h = state rest (at_run n h.0 rest h.2 h.3)
    breaks_are (Again s ∷ rest) inside h = state rest (at_run n h.0 rest h.2 h.3)
    breaks_are (Close objects ∷ rest) inside h = closed_is p (record c { control = Breaking ∷ rest }) is objects h.2.0 Runs tt (Runs, tt, refl, at_run objects h.0 rest h.2.1 h.3)
    breaks_are (Back function objects ∷ rest) inside h = absurd inside
    breaks_are (item ∷ rest) inside h = state (Breaking ∷ rest) (Runs, tt, refl, at_run n h.0 rest (runs_on c.store n item rest h.0 h.1 h.2 tt) h.3)

    pub continues_are : (items : List Item) → StaysInside items → IsSoundControl p c.store n Runs items → AllSound p (continues items c)
    continues_are [] inside h = tt
    continues_are (Again s ∷ rest) inside h = state (Again s ∷ rest) h
    continues_are (Close objects ∷ rest) inside h = closed_is p (record c { control = Continuing ∷ rest }) is objects h.2.0 Runs tt (Runs, tt, refl, at_run objects h.0 rest h.2.1 h.3)
    continues_are (Back function objects ∷ rest) inside h = absurd inside
    continues_are (item ∷ rest) inside h = state (Continuing ∷ rest) (Runs, tt, refl, at_run n h.0 rest (runs_on c.store n item rest h.0 h.1 h.2 tt) h.3)

    pub leaves_are : (v : List Scalar) (items : List Item) → IsReturned p c.store (running_in items) v → IsSoundControl p c.store n Runs items → AllSound p (leaves p v items c)
    leaves_are v [] g h = tt
    leaves_are v (Back f objects ∷ rest) g h =
        let result : List Scalar = value_as (result_of p f) v in
        closed_is p (record c { control = Result result ∷ rest }) is objects h.2.0 Evaluates tt
        (h.0, tt, delivered p c.store objects (AsValue (result_of p f)) result h.0 h.2.1 (converts_to p c.store (result_of p f) g.0 v g.1 g.2), h.3)
    leaves_are v (Close objects ∷ rest) g h = closed_is p (record c { control = Leaving v ∷ rest }) is objects h.2.0 Acts tt (Runs, tt, (g, refl), at_run objects h.0 rest h.2.1 h.3)
    leaves_are v (item ∷ rest) g h = record { store = is; top = Acts; active = tt; control = (Runs, tt, (g, refl), at_run n h.0 rest (runs_on c.store n item rest h.0 h.1 h.2 tt) h.3) }

    -- ---- ends of calls

    module _ (f : ℕ) (below : Given) (d : Delivers p (AsValue (result_of p f)) below) where
      falls_by : (objects : ℕ) → objects ≤ n → IsSoundControl p c.store objects below c.control → (v : Bool) → is_void (result_of p f) ≡ v
          → AllSound p (cond v (gives [] (closes objects c)) (Goes (put (Makes f []) (closes objects c))))
      falls_by objects le h true q =
          let others : List Object = survivors objects c.store in
          let P : List CellType → Type 0 = λ ts. AreOf others ts [] in
          let none : AreOf others (types_of p (result_of p f)) [] = subst P (sym (types_of_void p (result_of p f) (void_by (shape_of (result_of p f)) q))) tt in
          gives_is p (closes objects c) (survivors_are p objects c.store is) [] below (delivered p others (length others) (AsValue (result_of p f)) [] below d none) (closed_control p c is objects le below c.control h)
      falls_by objects le h false q = record {
        store = survivors_are p objects c.store is;
        top = Evaluates;
        active = tt;
        control = (below, tt, (tt, d), closed_control p c is objects le below c.control h);
      }

      pub falls : (objects : ℕ) → objects ≤ n → IsSoundControl p c.store objects below c.control → AllSound p (falls_off p f objects c)
      falls objects le h = falls_by objects le h (is_void (result_of p f)) refl

      makes_by : (made : List Scalar) → AreFirst p c.store (result_of p f) made → IsSoundControl p c.store n below c.control → (k : Option CellType) → slice_get (types_of p (result_of p f)) (length made) ≡ k
          → AllSound p (makes_cell k f made c)
      makes_by made g h None q = gives_is p c is made below (delivered p c.store n (AsValue (result_of p f)) made below d (all_made c.store (types_of p (result_of p f)) made q g)) h
      makes_by made g h (Some (cell.Integer kind)) q = λ z within. record {
        store = is;
        top = Evaluates;
        active = tt;
        control = (below, tt, (more_made c.store (types_of p (result_of p f)) made (cell.Integer kind) (Number z) q within g, d), h);
      }
      makes_by made g h (Some (cell.Pointer to)) q = record {
        store = is;
        top = Evaluates;
        active = tt;
        control = (below, tt, (more_made c.store (types_of p (result_of p f)) made (cell.Pointer to) Wild q tt g, d), h);
      }

      pub makes_are : (made : List Scalar) → AreFirst p c.store (result_of p f) made → IsSoundControl p c.store n below c.control → AllSound p (makes p f made c)
      makes_are made g h = makes_by made g h (slice_get (types_of p (result_of p f)) (length made)) refl

    -- ---- declarations

    module _ (r : IsSoundControl p c.store n Runs c.control) where
      begins_are : (x : Declared) (number : ℕ) (left : List Declared) → AllSound p (begins_life p x number (put (Declaring left) c))
      begins_are (declared.Plain declarator) number left = state (Unset number 0 ∷ (Declaring left ∷ c.control)) (Runs, tt, refl, (Runs, tt, refl, r))
      begins_are (declared.Initialised declarator initialiser at) number left =
          state (Fills number 0 (object_type p number) initialiser ∷ (Declaring left ∷ c.control)) (Runs, tt, refl, (Runs, tt, refl, r))

      object_are : (x : Declared) (number : ℕ) (left : List Declared) (static : Bool) → AllSound p (cond static (Goes (put (Declaring left) c)) (begins_life p x number (put (Declaring left) c)))
      object_are x number left true = state (Declaring left ∷ c.control) (Runs, tt, refl, r)
      object_are x number left false = begins_are x number left

      declared_are : (m : Option Meaning) (x : Declared) (left : List Declared) → AllSound p (declares_by p m x (put (Declaring left) c))
      declared_are (Some (meaning.Object number)) x left = object_are x number left (is_static p number)
      declared_are (Some _) x left = state (Declaring left ∷ c.control) (Runs, tt, refl, r)
      declared_are None x left = state (Declaring left ∷ c.control) (Runs, tt, refl, r)

      pub declares_are : (xs : List Declared) → AllSound p (declaring_move p xs c)
      declares_are [] = record { store = is; top = Runs; active = tt; control = r }
      declares_are (x ∷ left) = declared_are (declares p x) x left

      filled_state : (number offset : ℕ) (us : List CellType) (v : List Scalar) (items : List Item) → Lives c.store number → begins_with (drop offset (types_in p number)) us ≡ true → AreOf c.store us v
          → IsSoundControl p c.store n Runs items → IsSoundState p (record (filling number offset v c) { control = items })
      filled_state number offset us v items live q k h = record {
        store = filled p c.store is number offset us v live q k;
        top = Runs;
        active = tt;
        control = kept_control p c is v (further offset (place_of number c.store)) Runs items h;
      }

      unset_by : (number offset : ℕ) → Lives c.store number → (k : Option CellType) → slice_get (types_in p number) offset ≡ k → AllSound p (unset_cell k number offset c)
      unset_by number offset live None q = record { store = is; top = Runs; active = tt; control = r }
      unset_by number offset live (Some (cell.Integer kind)) q = λ z within.
          filled_state number offset (cell.Integer kind ∷ []) (Number z ∷ []) (Unset number (offset + 1) ∷ c.control) live (begins_one (types_in p number) offset (cell.Integer kind) q) (within, tt) (Runs, tt, refl, r)
      unset_by number offset live (Some (cell.Pointer to)) q =
          filled_state number offset (cell.Pointer to ∷ []) (Wild ∷ []) (Unset number (offset + 1) ∷ c.control) live (begins_one (types_in p number) offset (cell.Pointer to) q) (tt, tt) (Runs, tt, refl, r)

      pub unset_are : (number offset : ℕ) → Lives c.store number → AllSound p (unset_move p number offset c)
      unset_are number offset live = unset_by number offset live (slice_get (types_in p number) offset) refl

      pub fills_are : (number offset : ℕ) (to : CType) (l : InitialiserNode) → HasPart p number offset to → IsFilled p to l → AllSound p (fill_node number offset to l c)
      fills_are number offset to (i.Value value at) part y = asks_is p c is value (Awaits number offset to) (given_by p value) (stands_same p (given_by p value)) (Runs, y, (part, refl), r)
      fills_are number offset to (i.Braces parts at) part y = state (Parts number offset to 0 parts ∷ c.control) (Runs, tt, refl, r)

      pub parts_are : (number offset : ℕ) (to : CType) (part : ℕ) (left : List Initialiser) → Lives c.store number → IsLeftOut p number offset to part left → AllSound p (parts_move p number offset to part left c)
      parts_are number offset to part [] live y =
          filled_state number (offset + part_offset p to part) (drop (part_offset p to part) (types_of p to)) (left_out p to part) c.control live y (zeros_are c.store (drop (part_offset p to part) (types_of p to))) r
      parts_are number offset to part (x ∷ left) live y =
          state (Fills number (offset + part_offset p to part) (part_type p to part) x ∷ (Parts number offset to (part + 1) left ∷ c.control)) (Runs, tt, refl, (Runs, tt, refl, r))

      pub keeps_are : (number offset : ℕ) (to : CType) (v : List Scalar) → Lives c.store number → HasPart p number offset to → IsOfType p c.store to v → IsSoundState p (filling number offset v c)
      keeps_are number offset to v live part k = filled_state number offset (types_of p to) v c.control live part k r
