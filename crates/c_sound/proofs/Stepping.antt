-- Jumps, declarations and ends of calls leave code on the control stack, and so does each step of the bare machine.
use Rattle.std.proofs.Common.{◌≡◌, ℕ, Bool, true, false, cond, List, [], ◌∷◌, length, Option, Some, None, refl, subst, ⊎_elim, slice_get}
use Rattle.c_tree.specs.declared.declaration.Declared.{Declared}
use Rattle.c_tree.specs.declared.declaration.Declared.TheVariants as declared
use Rattle.c_tree.specs.declared.declaration.Initialiser.{Initialiser, out-Initialiser}
use Rattle.c_tree.specs.declared.declaration.Initialiser.TheOpen.{Initialiser-F}
use Rattle.c_tree.specs.declared.declaration.Initialiser.TheOpen.{Initialiser-F as i}
use Rattle.c_kinds.specs.declared.types.CType.{CType}
use Rattle.c_kinds.specs.declared.types.CellType.{CellType}
use Rattle.c_kinds.specs.declared.types.CellType.TheVariants as cell
use Rattle.c_kinds.specs.Types.{is_void}
use Rattle.c_rules.specs.declared.names.Meaning.{Meaning}
use Rattle.c_rules.specs.declared.names.Meaning.TheVariants as meaning
use Rattle.c_rules.specs.declared.program.Program.{Program}
use Rattle.c_rules.specs.Accepted.{given_in}
use Rattle.c_rules.specs.Initialisers.{initialised_at, broken_initialiser}
use Rattle.c_rules.specs.Recursion.{of_declarator}
use Rattle.c_rules.specs.Found.{answering}
use Rattle.c_rules.proofs.Empty.{second_empty}
use Rattle.c_model.specs.declared.values.Scalar.{Scalar}
use Rattle.c_model.specs.Values.{value_as}
use Rattle.c_model.specs.Programs.{is_static, types_of, types_in, declares}
use Rattle.c_model.specs.Functions.{result_of}
use Rattle.c_model.specs.Calls.{makes_cell}
use Rattle.c_model.specs.Declarations.{unset_cell, fill_node, parts_move, begins_life, declares_by, declaring_move}
use Rattle.c_model.specs.Loops.{breaks, continues, leaves}
use Rattle.c_model.specs.Moves.{put, gives, closes}
use Rattle.c_model.specs.Steps.{item_move, move_by, move_of, Leads}
use Rattle.c_model.specs.Heads.{BareRun, here, onward}
use Rattle.c_model.specs.Configurations.{Item, Value, Place, CommaParts, Result, Work, Decides, Rest, Close, Branches, Branched, Seeks, Labels, Switched, Loop, Again, Breaking, Continuing, Leaving, Back, Makes, Declaring, Unset, Fills, Parts, Keeps as Filled, State, Move, Goes, Unmet, Forks, Takes, Unassumed, Stops}
use Rattle.c_sound.proofs.Tables.{second_told}
use Rattle.c_sound.proofs.Standing.{Each, MayBreak, MayContinue, DeclaredIn, Asked, InitialiserParts, IsKept, IsCode, AreCode}
use Rattle.c_sound.proofs.Keeping.{Keeps, given, codes_outlived}
use Rattle.c_sound.proofs.Evaluating.{HasBodies, value_kept, place_kept, of_commas}
use Rattle.c_sound.proofs.Running.{rests, branches, branched, seeks, labels, work, decision, loop, again}
use Rattle.c_tree.specs.declared.statement.Statement.{out-Statement}

module _ (p : Program) (a : Asked) where
  -- ---- jumps

  breaking : (items : List Item) (c : State) → MayBreak items → AreCode p a items → Keeps p a (breaks items c)
  breaking [] c h r = tt
  breaking (Switched ∷ rest) c h r = r.1
  breaking (Again x ∷ rest) c h r = r.1
  breaking (Close objects ∷ rest) c h r = codes_outlived p a objects (Breaking ∷ rest) (h, r.1)
  breaking (Back function objects ∷ rest) c h r = absurd h
  breaking (item ∷ rest) c h r = (h, r.1)

  continuing : (items : List Item) (c : State) → MayContinue items → AreCode p a items → Keeps p a (continues items c)
  continuing [] c h r = tt
  continuing (Again x ∷ rest) c h r = r
  continuing (Close objects ∷ rest) c h r = codes_outlived p a objects (Continuing ∷ rest) (h, r.1)
  continuing (Back function objects ∷ rest) c h r = absurd h
  continuing (item ∷ rest) c h r = (h, r.1)

  leaving : (v : List Scalar) (items : List Item) (c : State) → AreCode p a items → Keeps p a (leaves p v items c)
  leaving v [] c r = tt
  leaving v (Back function objects ∷ rest) c r = codes_outlived p a objects (Result (value_as (result_of p function) v) ∷ rest) (tt, r.1)
  leaving v (Close objects ∷ rest) c r = codes_outlived p a objects (Leaving v ∷ rest) (tt, r.1)
  leaving v (item ∷ rest) c r = (tt, r.1)

  module _ (c : State) (r : AreCode p a c.control) where
    -- ---- ends of calls

    falling : (b : Bool) (f objects : ℕ) → Keeps p a (cond b (gives [] (closes objects c)) (Goes (put (Makes f []) (closes objects c))))
    falling true f objects = given p a [] _ (codes_outlived p a objects c.control r)
    falling false f objects = (tt, codes_outlived p a objects c.control r)

    making : (t : Option CellType) (f : ℕ) (made : List Scalar) → Keeps p a (makes_cell t f made c)
    making None f made = given p a made c.control r
    making (Some (cell.Integer kind)) f made = λ n. (tt, r)
    making (Some (cell.Pointer pointee)) f made = (tt, r)

    -- ---- declarations

    unsetting : (t : Option CellType) (number offset : ℕ) → Keeps p a (unset_cell t number offset c)
    unsetting None number offset = r
    unsetting (Some (cell.Integer kind)) number offset = λ n. (tt, r)
    unsetting (Some (cell.Pointer pointee)) number offset = (tt, r)

    module _ (k : IsKept p a) where
      filling : (number offset : ℕ) (t : CType) (l : Initialiser-F Initialiser) → InitialiserParts a number offset t l → Keeps p a (fill_node number offset t l c)
      filling number offset t (i.Value x at) h = (h, (tt, r))
      filling number offset t (i.Braces xs at) h = (h, r)

      parting : (number offset : ℕ) (t : CType) (part : ℕ) (xs : List Initialiser) → a.OfParts number offset t part xs → Keeps p a (parts_move p number offset t part xs c)
      parting number offset t part [] h = r
      parting number offset t part (x ∷ xs) h = let parts = k.parts number offset t part x xs h in (parts.0, (parts.1, r))

      begun : (x : Declared) (number : ℕ) → declares p x ≡ Some (meaning.Object number) → DeclaredIn p x → Keeps p a (begins_life p x number c)
      begun (declared.Plain inside) number q h = (tt, r)
      begun (declared.Initialised inside value at) number q h =
          let clear = subst (λ m. broken_initialiser (given_in p) value (initialised_at p.names at m) ≡ []) q (second_empty _ _ h.clear) in
          (k.whole number at value clear (second_told p (of_declarator (answering (given_in p)) inside false) _ h.told), r)

      either : (b : Bool) (x : Declared) (number : ℕ) → declares p x ≡ Some (meaning.Object number) → DeclaredIn p x → Keeps p a (cond b (Goes c) (begins_life p x number c))
      either true x number q h = r
      either false x number q h = begun x number q h

      one_declared : (m : Option Meaning) (x : Declared) → declares p x ≡ m → DeclaredIn p x → Keeps p a (declares_by p m x c)
      one_declared None x q h = r
      one_declared (Some (meaning.Object number)) x q h = either (is_static p number) x number q h
      one_declared (Some m) x q h = r

  declaring : (k : IsKept p a) (xs : List Declared) (c : State) → AreCode p a c.control → Each (DeclaredIn p) xs → Keeps p a (declaring_move p xs c)
  declaring k [] c r h = r
  declaring k (x ∷ xs) c r h = one_declared (put (Declaring xs) c) (h.1, r) k (declares p x) x refl h.0

  -- ---- each item

  module _ (k : IsKept p a) (bodies : HasBodies p) where
    item_keeps : (item : Item) (c : State) → IsCode p a item c.control → AreCode p a c.control → Keeps p a (item_move p item c)
    item_keeps (Value x found) c h r = value_kept p a k bodies c r x found h
    item_keeps (Place x found) c h r = place_kept p a k bodies c r x found h
    item_keeps (CommaParts left) c h r = of_commas p a k bodies c r left h
    item_keeps (Result v) c h r = given p a v c.control r
    item_keeps (Work x) c h r = work p a k c r x h
    item_keeps (Decides x v) c h r = decision p a k c r x v h
    item_keeps (Rest left) c h r = rests p a k c r left h
    item_keeps (Close objects) c h r = codes_outlived p a objects c.control r
    item_keeps (Branches left otherwise) c h r = branches p a k c r left otherwise h
    item_keeps (Branched left otherwise v) c h r = branched p a k c r left otherwise v h
    item_keeps (Seeks kind value left otherwise) c h r = seeks p a k c r kind value left otherwise h
    item_keeps (Labels kind value x left otherwise) c h r = labels p a k c r kind value (out-Statement x) left otherwise h
    item_keeps Switched c h r = r
    item_keeps (Loop x) c h r = loop p a k c r x h
    item_keeps (Again x) c h r = again p a k c r x h
    item_keeps Breaking c h r = breaking c.control c h r
    item_keeps Continuing c h r = continuing c.control c h r
    item_keeps (Leaving v) c h r = leaving v c.control c r
    item_keeps (Back f objects) c h r = falling c r (is_void (result_of p f)) f objects
    item_keeps (Makes f made) c h r = making c r (slice_get (types_of p (result_of p f)) (length made)) f made
    item_keeps (Declaring left) c h r = declaring k left c r h
    item_keeps (Unset number offset) c h r = unsetting c r (slice_get (types_in p number) offset) number offset
    item_keeps (Fills number offset t x) c h r = filling c r k number offset t (out-Initialiser x) (k.initialiser number offset t x h)
    item_keeps (Parts number offset t part left) c h r = parting c r k number offset t part left h
    item_keeps (Filled number offset v) c h r = r
    item_keeps item c h r = tt

    move_keeps : (items : List Item) (c : State) → AreCode p a items → Keeps p a (move_by p items c)
    move_keeps [] c h = tt
    move_keeps (item ∷ rest) c h = item_keeps item (record c { control = rest }) h.0 h.1

    -- ---- runs

    there : (c d : State) → c ≡ d → AreCode p a c.control → AreCode p a d.control
    there c d e h = subst (λ (s : State). AreCode p a s.control) e h

    leads_kept : (m : Move) (d : State) → Keeps p a m → Leads m d → AreCode p a d.control
    leads_kept (Goes next) d h e = there next d e h
    leads_kept (Unmet kind at next) d h e = there next d e h
    leads_kept (Forks holds x y) d h e = ⊎_elim (λ q. there x d q h.0) (λ q. there y d q h.1) e
    leads_kept (Takes kind go) d h e = there (go e.0) d e.2 (h e.0)
    leads_kept (Unassumed next) d h e = there next d e h
    leads_kept Stops d h e = absurd e

    pub run_kept : (c d : State) → BareRun p c d → AreCode p a c.control → AreCode p a d.control
    run_kept c d (here x) h = h
    run_kept c d (onward x y z step rest) h = run_kept y z rest (leads_kept (move_of p x) y (move_keeps x.control x h) step)
