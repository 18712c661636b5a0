-- Calls, and the value of each kind of expression.
use Rattle.std.proofs.Common.{◌≡◌, ℕ, zero, suc, ◌+◌, ◌≤◌, Bool, true, false, List, [], ◌∷◌, ◌++◌, length, Option, Some, None, refl, sym, ap, ◌∙◌, subst, cond, arith, length-append, pos}
use Rattle.std.specs.Prelude.{slice_get}
use Rattle.c_tree.specs.declared.expression.Expression.{Expression, out-Expression}
use Rattle.c_tree.specs.declared.expression.Declarator.TheOpen.{Expression-F as e}
use Rattle.c_kinds.specs.declared.types.CType.{CType}
use Rattle.c_kinds.specs.declared.types.CellType.{CellType}
use Rattle.c_kinds.specs.declared.types.Shape.TheVariants as shape
use Rattle.c_kinds.specs.Integers.{size_type}
use Rattle.c_kinds.specs.Layouts.{size_in_bytes}
use Rattle.c_rules.specs.declared.checks.CheckKind.TheVariants.{Assertion}
use Rattle.c_rules.specs.declared.names.KnownFunction.{KnownFunction}
use Rattle.c_rules.specs.declared.names.KnownFunction.TheVariants as known
use Rattle.c_rules.specs.declared.program.Program.{Program}
use Rattle.c_model.specs.declared.values.Scalar.{Scalar}
use Rattle.c_model.specs.declared.values.Scalar.TheVariants.{Number}
use Rattle.c_model.specs.declared.values.Object.{Object}
use Rattle.c_model.specs.Programs.{ExpressionNode, or_else, token_of, type_at, type_of, type_named, types_of, cell_count, meaning_at, object_type, bytes}
use Rattle.c_model.specs.Functions.{Called, Defined, Known, Neither, called, body_of, result_of, parameters_of}
use Rattle.c_model.specs.Values.{is_no}
use Rattle.c_model.specs.Store.{born}
use Rattle.c_model.specs.Moves.{giving, gives, asks}
use Rattle.c_model.specs.Calls.{objects_of, passed, entering, call_by}
use Rattle.c_model.specs.KnownFunctions.{asks_first, known_call, call_move}
use Rattle.c_model.specs.Configurations.{Needs, State, Unmet, Unassumed}
use Rattle.c_model.specs.Expressions.{value_node}
use Rattle.c_model.specs.Heads.{AreOf, value_wait, argument_wait}
use Rattle.c_heads.specs.Typed.{IsLaidOut, Grows, ArePassed}
use Rattle.c_heads.specs.Waiting.{Given, Runs, IsGiven, StandsFor, given_by, awaited, AreFound, MayWait}
use Rattle.c_heads.specs.Controls.{Delivers, IsSoundControl, IsSoundState}
use Rattle.c_heads.specs.Sound.{HasShape, value_type, NameLives, IsResultType, ArePassable, IsKnownCall, IsCall, IsTypedValue}
use Rattle.c_heads.proofs.Numbers.{wraps}
use Rattle.c_heads.proofs.Conversions.{converts_to}
use Rattle.c_heads.proofs.Stores.{opened, born_is, passed_is}
use Rattle.c_heads.proofs.Moving.{grown_control}
use Rattle.c_heads.proofs.Evaluating.{stands_value, delivers_as, AllSound, type_here, plain_delivers, gives_value, gives_scalar, asks_for, asks_place}
use Rattle.c_heads.proofs.Values.{of_operand, last_delivers, named, lvalues, after_step, before_step, unaries, binaries, casts, conditionals, assignments, commas}

grows_twice : (store a b : List Object) → Grows store ((store ++ a) ++ b)
grows_twice [] a b = tt
grows_twice (o ∷ store) a b = (refl, refl, grows_twice store a b)

module _ (p : Program) (agree : (t : CType) → cell_count p t ≡ length (types_of p t)) (c : State) (is : IsLaidOut p c.store) (below : Given) (h : IsSoundControl p c.store (length c.store) below c.control) (x : Expression)
    (d : Delivers p (given_by p x) below) where
  abbrev n : ℕ
  n = length c.store

  -- ---- a defined function

  entered : (f : ℕ) (found : List (List Scalar)) → ArePassed p c.store (parameters_of p f) found → types_of p (result_of p f) ≡ types_of p (type_of p x) → IsResultType (type_of p x) → IsSoundState p (entering p f found c)
  entered f found k same r =
      let a : List Object = passed p (parameters_of p f) found in
      let b : List Object = born p (objects_of p (body_of p f)) in
      let le : length c.store ≤ length ((c.store ++ a) ++ b) = omega (arith, length-append c.store a, length-append (c.store ++ a) b) in
      record {
        store = opened p (c.store ++ a) b (opened p c.store a is (passed_is p c.store (parameters_of p f) found k)) (born_is p (c.store ++ a) (objects_of p (body_of p f)));
        top = Runs;
        active = tt;
        control = (
          Runs,
          tt,
          refl,
          (
            below,
            tt,
            (le, delivers_as p (result_of p f) (type_of p x) below same (plain_delivers p c is below h x d r)),
            grown_control p c.store ((c.store ++ a) ++ b) (grows_twice c.store a b) (length c.store) (omega arith) below c.control h,
          ),
        );
      }

  passes : (numbers : List ℕ) (all : List Expression) (k : ℕ) (rest : List Expression) → ((j : ℕ) → slice_get all (k + j) ≡ slice_get rest j) → (found : List (List Scalar)) → ArePassable p numbers rest
      → AreFound p c.store n (λ i. argument_wait p (slice_get all i)) k found → ArePassed p c.store numbers found
  passes [] all k rest q found y f = tt
  passes (number ∷ numbers) all k [] q found y f = absurd y
  passes (number ∷ numbers) all k (a ∷ rest) q [] y f = tt
  passes (number ∷ numbers) all k (a ∷ rest) q (v ∷ found) y f =
      let same : k ≡ k + 0 = omega arith in
      let here : slice_get all k ≡ Some a = ap (slice_get all) same ∙ q 0 in
      let P : Option Expression → Type 0 = λ o. IsGiven p c.store n (argument_wait p o) v in
      let g : IsGiven p c.store n (value_wait p a) v = subst P here f.0 in
      let later : (j : ℕ) → slice_get all (suc k + j) ≡ slice_get rest j = λ j. let e : suc k + j ≡ k + suc j = omega arith in ap (slice_get all) e ∙ q (suc j) in
      (converts_to p c.store (object_type p number) (value_type p a) v y.0 (of_operand p c.store a v g), passes numbers all (suc k) rest later found y.1 f.1)

  module _ (function : Expression) (arguments : List Expression) (at : ℕ) (q : out-Expression x ≡ e.Call function arguments at) where
    any_many : (k : ℕ) → MayWait k (e.Call function arguments at)
    any_many zero = tt
    any_many (suc k) = tt

    argument : (a : Expression) (found : List (List Scalar)) → slice_get arguments (length found) ≡ Some a → AreFound p c.store n (awaited p (e.Call function arguments at)) 0 found → AllSound p (asks a (Needs x found) c)
    argument a found same f =
        let P : Option Expression → Type 0 = λ o. StandsFor p (given_by p a) (argument_wait p o) in
        asks_for p c is below h x (e.Call function arguments at) q d a found f (subst P (sym same) (stands_value p a)) (any_many (length found))

    called_by : (f : ℕ) (next : Option Expression) (found : List (List Scalar)) → slice_get arguments (length found) ≡ next → AreFound p c.store n (awaited p (e.Call function arguments at)) 0 found
        → IsCall p (type_of p x) arguments (Defined f) → AllSound p (call_by p f next x found c)
    called_by f (Some a) found same g y = argument a found same g
    called_by f None found same g y =
        let first : (j : ℕ) → slice_get arguments (0 + j) ≡ slice_get arguments j = λ j. let e : 0 + j ≡ j = omega arith in ap (slice_get arguments) e in
        entered f found (passes (parameters_of p f) arguments 0 arguments first found y.1 g) y.0.0 y.0.1

    -- ---- a known function

    nothing : types_of p (type_of p x) ≡ [] → IsResultType (type_of p x) → IsSoundState p (giving [] c)
    nothing none r = let P : List CellType → Type 0 = λ ts. AreOf c.store ts [] in gives_value p c is below h x d [] r (subst P (sym none) tt)

    first_argument : (all : List Expression) → all ≡ arguments → types_of p (type_of p x) ≡ [] → IsResultType (type_of p x) → AllSound p (asks_first all x c)
    first_argument [] same none r = nothing none r
    first_argument (a ∷ rest) same none r = let there : slice_get arguments 0 ≡ Some a = ap (λ xs. slice_get xs 0) (sym same) in argument a [] there tt

    if_asserted : (at_name : ℕ) (no : Bool) → types_of p (type_of p x) ≡ [] → IsResultType (type_of p x) → AllSound p (cond no (Unmet Assertion at_name (giving [] c)) (gives [] c))
    if_asserted at_name true none r = tt
    if_asserted at_name false none r = nothing none r

    if_assumed : (no : Bool) → types_of p (type_of p x) ≡ [] → IsResultType (type_of p x) → AllSound p (cond no (Unassumed (giving [] c)) (gives [] c))
    if_assumed true none r = tt
    if_assumed false none r = nothing none r

    known_calls : (f : KnownFunction) (at_name : ℕ) (found : List (List Scalar)) → IsKnownCall p (type_of p x) f → IsResultType (type_of p x) → AllSound p (known_call f at_name arguments x found c)
    known_calls known.Assert at_name [] y r = first_argument arguments refl y r
    known_calls known.Assert at_name (v ∷ rest) y r = if_asserted at_name (is_no v) y r
    known_calls known.Assume at_name [] y r = first_argument arguments refl y r
    known_calls known.Assume at_name (v ∷ rest) y r = if_assumed (is_no v) y r
    known_calls known.Abort at_name found y r = tt
    known_calls known.Exit at_name [] y r = first_argument arguments refl y r
    known_calls known.Exit at_name (v ∷ rest) y r = tt
    known_calls known.Error at_name found y r = tt
    known_calls known.AssertFail at_name found y r = tt
    known_calls (known.Nondet kind) at_name found y r = λ i within. gives_scalar p c is below h x d (Number i) (shape.Integer kind) y tt within

    calls : (what : Called) (at_name : ℕ) (found : List (List Scalar)) → AreFound p c.store n (awaited p (e.Call function arguments at)) 0 found → IsCall p (type_of p x) arguments what
        → AllSound p (call_move p what at_name arguments x found c)
    calls (Defined f) at_name found g y = called_by f (slice_get arguments (length found)) found refl g y
    calls (Known f) at_name found g y = known_calls f at_name found y.0 y.1
    calls Neither at_name found g y = absurd y

  sizes : (t : CType) → HasShape (type_of p x) (shape.Integer (size_type p.checks.model)) → IsSoundState p (giving (Number (bytes p t) ∷ []) c)
  sizes t y = gives_scalar p c is below h x d (Number (bytes p t)) (shape.Integer (size_type p.checks.model)) y tt (wraps (size_type p.checks.model) (pos (or_else 0 (size_in_bytes p.checks.model t))))

  -- ---- each kind of expression

  pub values_by : (l : ExpressionNode) → out-Expression x ≡ l → (found : List (List Scalar)) → AreFound p c.store n (awaited p l) 0 found → NameLives p c.store l → IsTypedValue p (type_of p x) l → AllSound p (value_node p x l found c)
  values_by (e.«Expression::Name» name at) q found f live y = named p agree c is below h x d (meaning_at p at) (type_at p at) (type_here p x (e.«Expression::Name» name at) q) live y
  values_by (e.Constant kind value at) q found f live y = gives_scalar p c is below h x d (Number value) (shape.Integer kind) y.0 tt y.1
  values_by (e.Text at) q found f live y = absurd y
  values_by (e.Subscript array index at) q found f live y = lvalues p agree c is below h x d (e.Subscript array index at) q (type_at p at) (type_here p x (e.Subscript array index at) q) refl found f
  values_by (e.Call function arguments at) q found f live y = calls function arguments at q (called p (meaning_at p (token_of function))) (token_of function) found f y
  values_by (e.Member object name at) q found f live y = lvalues p agree c is below h x d (e.Member object name at) q (type_at p at) (type_here p x (e.Member object name at) q) refl found f
  values_by (e.PointedMember pointer name at) q found f live y = lvalues p agree c is below h x d (e.PointedMember pointer name at) q (type_at p at) (type_here p x (e.PointedMember pointer name at) q) refl found f
  values_by (e.Postfix step operand at) q [] f live y = asks_place p c is below h x (e.Postfix step operand at) q d operand [] tt refl tt
  values_by (e.Postfix step operand at) q (v ∷ rest) f live y = after_step p agree c is below h x d at step (type_of p operand) v f.0 y.0 y.1
  values_by (e.Prefix step operand at) q [] f live y = asks_place p c is below h x (e.Prefix step operand at) q d operand [] tt refl tt
  values_by (e.Prefix step operand at) q (v ∷ rest) f live y = before_step p agree c is below h x d at step (type_of p operand) v f.0 y.0 y.1
  values_by (e.Unary operator operand at) q found f live y = unaries p agree c is below h x d at operator operand q found f y (type_here p x (e.Unary operator operand at) q)
  values_by (e.SizeofExpression operand at) q found f live y = sizes (type_of p operand) y
  values_by (e.SizeofType type_name at) q found f live y = sizes (type_named p at) y
  values_by (e.Cast type_name operand at) q found f live y = casts p agree c is below h x d at operand (e.Cast type_name operand at) q (type_at p at) (type_here p x (e.Cast type_name operand at) q) refl found f y.0 y.1
  values_by (e.Binary operator left right at) q found f live y = binaries p agree c is below h x d at operator left right q found f y
  values_by (e.Conditional test first otherwise at) q found f live y =
      conditionals p agree c is below h x d at test first otherwise q (type_at p at) (type_here p x (e.Conditional test first otherwise at) q) found y.0 y.1 y.2
  values_by (e.Assign operator target value at) q found f live y = assignments p agree c is below h x d at operator target value q found f y.0 y.1
  values_by (e.Comma parts at) q found f live y = commas p c is below h parts (last_delivers p (type_of p x) parts below y (plain_delivers p c is below h x d))
