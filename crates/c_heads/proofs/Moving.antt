-- Control stacks stay sound where the objects get other values, and where the youngest of them cease to live.
use Rattle.std.proofs.Common.{◌≡◌, ℕ, suc, ◌≤◌, List, [], ◌∷◌, length, map, take, Option, refl, sym, ap, ◌∙◌, subst, arith}
use Rattle.std.proofs.lemmas.List.{length-map}
use Rattle.c_tree.specs.declared.expression.Expression.{out-Expression}
use Rattle.c_tree.specs.declared.statement.Statement.{out-Statement}
use Rattle.c_tree.specs.declared.statement.BlockItem.TheOpen.{Statement-F as t}
use Rattle.c_rules.specs.declared.program.Program.{Program}
use Rattle.c_model.specs.declared.values.Scalar.{Scalar}
use Rattle.c_model.specs.declared.values.Object.{Object}
use Rattle.c_model.specs.Programs.{StatementNode, types_of}
use Rattle.c_model.specs.Functions.{result_of}
use Rattle.c_model.specs.Store.{outlived, survivors}
use Rattle.c_model.specs.Moves.{all_outlived, item_outlived}
use Rattle.c_model.specs.Configurations.{Item, Value, Needs, Place, Locates, CommaParts, Result, Work, Tests, Decides, Close, Leaving, Back, Makes, Keeps}
use Rattle.c_model.specs.Heads.{Wait, AsValue, AsPlace, AreOf}
use Rattle.c_heads.specs.Typed.{Grows}
use Rattle.c_heads.specs.Waiting.{Given, Runs, Acts, Continues, Evaluates, Hands, type_given, IsGiven, awaited, place_awaited, AreFound, MayWait, PlaceMayWait}
use Rattle.c_heads.specs.Controls.{running_in, IsReturned, MayTest, HasTested, Takes, IsResult, IsSoundItem, lived_below, IsSoundControl}
use Rattle.c_heads.proofs.Stores.{grown_values, grown_place, outlived_values, outlived_place}

module _ (p : Program) where
  lives_below : (store : List Object) (n : ℕ) (item : Item) (rest : List Item) (below : Given) → IsSoundItem p store n item rest below → lived_below n item ≤ n
  lives_below store n (Close objects) rest below h = h.0
  lives_below store n (Back function objects) rest below h = h.0
  lives_below store n item rest below h = omega arith

  -- ---- where objects get other values, or others follow them
  module _ (store others : List Object) (g : Grows store others) where
    grown_given : (n : ℕ) → n ≤ length store → (w : Wait) (v : List Scalar) → IsGiven p store n w v → IsGiven p others n w v
    grown_given n le (AsValue of) v h = grown_values store others g (types_of p of) v h
    grown_given n le (AsPlace of) [] h = absurd h
    grown_given n le (AsPlace of) (s ∷ []) h = grown_place p store others n of s g le h
    grown_given n le (AsPlace of) (s ∷ (r ∷ v)) h = absurd h

    grown_found : (n : ℕ) → n ≤ length store → (w : ℕ → Wait) (k : ℕ) (found : List (List Scalar)) → AreFound p store n w k found → AreFound p others n w k found
    grown_found n le w k [] h = tt
    grown_found n le w k (v ∷ found) h = (grown_given n le (w k) v h.0, grown_found n le w (suc k) found h.1)

    grown_returned : (f : Option ℕ) (v : List Scalar) → IsReturned p store f v → IsReturned p others f v
    grown_returned f v h = (h.0, h.1, grown_values store others g (types_of p h.0) v h.2)

    grown_tested : (f : Option ℕ) (l : StatementNode) (v : List Scalar) → HasTested p store f l v → HasTested p others f l v
    grown_tested f (t.Return value at) v h = grown_returned f v h
    grown_tested f _ v h = tt

    grown_result : (n : ℕ) → n ≤ length store → (v : List Scalar) (below : Given) → IsResult p store n v below → IsResult p others n v below
    grown_result n le v (Hands w) h = grown_given n le w v h
    grown_result n le v _ h = absurd h

    grown_item : (n : ℕ) → n ≤ length store → (item : Item) (rest : List Item) (below : Given) → IsSoundItem p store n item rest below → IsSoundItem p others n item rest below
    grown_item n le (Value x found) rest below h = (grown_found n le (awaited p (out-Expression x)) 0 found h.0, h.1)
    grown_item n le (Needs x found) rest below h = (grown_found n le (awaited p (out-Expression x)) 0 found h.0, h.1, h.2)
    grown_item n le (Place x found) rest below h = (grown_found n le (place_awaited p (out-Expression x)) 0 found h.0, h.1)
    grown_item n le (Locates x found) rest below h = (grown_found n le (place_awaited p (out-Expression x)) 0 found h.0, h.1, h.2)
    grown_item n le (Result v) rest below h = grown_result n le v below h
    grown_item n le (Decides s v) rest below h = (grown_tested (running_in rest) (out-Statement s) v h.0, h.1)
    grown_item n le (Leaving v) rest below h = (grown_returned (running_in rest) v h.0, h.1)
    grown_item n le (Makes function made) rest below h = (grown_values store others g (take (length made) (types_of p (result_of p function))) made h.0, h.1)
    grown_item n le (Keeps number offset v) rest below h = ((h.0.0, h.0.1, grown_values store others g (types_of p h.0.0) v h.0.2), h.1)
    grown_item n le item rest below h = h

    pub grown_control : (n : ℕ) → n ≤ length store → (given : Given) (items : List Item) → IsSoundControl p store n given items → IsSoundControl p others n given items
    grown_control n le given [] h = h
    grown_control n le given (item ∷ rest) h =
        let less = lives_below store n item rest h.0 h.2 in
        (h.0, h.1, grown_item n le item rest h.0 h.2, grown_control (lived_below n item) (omega (arith, less, le)) h.0 rest h.3)

  -- ---- where the first k objects live on
  module _ (k : ℕ) (store : List Object) where
    abbrev others : List Object
    others = survivors k store

    abbrev moved : List Item → List Item
    moved items = map (item_outlived k) items

    lived_given : (n : ℕ) → n ≤ k → (w : Wait) (v : List Scalar) → IsGiven p store n w v → IsGiven p others n w (all_outlived k v)
    lived_given n le (AsValue of) v h = outlived_values p k store (types_of p of) v h
    lived_given n le (AsPlace of) [] h = absurd h
    lived_given n le (AsPlace of) (s ∷ []) h = outlived_place p k store n of s le h
    lived_given n le (AsPlace of) (s ∷ (r ∷ v)) h = absurd h

    lived_found : (n : ℕ) → n ≤ k → (w : ℕ → Wait) (i : ℕ) (found : List (List Scalar)) → AreFound p store n w i found → AreFound p others n w i (map (all_outlived k) found)
    lived_found n le w i [] h = tt
    lived_found n le w i (v ∷ found) h = (lived_given n le (w i) v h.0, lived_found n le w (suc i) found h.1)

    same_function : (items : List Item) → running_in items ≡ running_in (moved items)
    same_function [] = refl
    same_function (Back function objects ∷ rest) = refl
    same_function (item ∷ rest) = same_function rest

    lived_returned : (f : Option ℕ) (v : List Scalar) → IsReturned p store f v → IsReturned p others f (all_outlived k v)
    lived_returned f v h = (h.0, h.1, outlived_values p k store (types_of p h.0) v h.2)

    lived_tested : (f : Option ℕ) (l : StatementNode) (v : List Scalar) → HasTested p store f l v → HasTested p others f l (all_outlived k v)
    lived_tested f (t.Return value at) v h = lived_returned f v h
    lived_tested f _ v h = tt

    lived_result : (n : ℕ) → n ≤ k → (v : List Scalar) (below : Given) → IsResult p store n v below → IsResult p others n (all_outlived k v) below
    lived_result n le v (Hands w) h = lived_given n le w v h
    lived_result n le v _ h = absurd h

    lived_first : (f : ℕ) (made : List Scalar) → AreOf store (take (length made) (types_of p (result_of p f))) made → AreOf others (take (length (all_outlived k made)) (types_of p (result_of p f))) (all_outlived k made)
    lived_first f made h =
        let P : ℕ → Type 0 = λ i. AreOf others (take i (types_of p (result_of p f))) (all_outlived k made) in
        subst P (sym (length-map made (outlived k))) (outlived_values p k store (take (length made) (types_of p (result_of p f))) made h)

    lived_item : (n : ℕ) → n ≤ k → (item : Item) (rest : List Item) (below : Given) → IsSoundItem p store n item rest below → IsSoundItem p others n (item_outlived k item) (moved rest) below
    lived_item n le (Value x found) rest below h = (lived_found n le (awaited p (out-Expression x)) 0 found h.0, h.1)
    lived_item n le (Needs x found) rest below h =
        let P : ℕ → Type 0 = λ i. MayWait i (out-Expression x) in
        (lived_found n le (awaited p (out-Expression x)) 0 found h.0, h.1, subst P (sym (length-map found (all_outlived k))) h.2)
    lived_item n le (Place x found) rest below h = (lived_found n le (place_awaited p (out-Expression x)) 0 found h.0, h.1)
    lived_item n le (Locates x found) rest below h =
        let P : ℕ → Type 0 = λ i. PlaceMayWait i (out-Expression x) in
        (lived_found n le (place_awaited p (out-Expression x)) 0 found h.0, h.1, subst P (sym (length-map found (all_outlived k))) h.2)
    lived_item n le (Result v) rest below h = lived_result n le v below h
    lived_item n le (Decides s v) rest below h =
        let P : Option ℕ → Type 0 = λ f. HasTested p others f (out-Statement s) (all_outlived k v) in
        (subst P (same_function rest) (lived_tested (running_in rest) (out-Statement s) v h.0), h.1)
    lived_item n le (Leaving v) rest below h =
        let P : Option ℕ → Type 0 = λ f. IsReturned p others f (all_outlived k v) in
        (subst P (same_function rest) (lived_returned (running_in rest) v h.0), h.1)
    lived_item n le (Makes function made) rest below h = (lived_first function made h.0, h.1)
    lived_item n le (Keeps number offset v) rest below h = ((h.0.0, h.0.1, outlived_values p k store (types_of p h.0.0) v h.0.2), h.1)
    lived_item n le item rest below h = h

    lived_takes : (given : Given) (item : Item) (rest : List Item) → Takes p given item rest → Takes p given (item_outlived k item) (moved rest)
    lived_takes (Hands w) (Needs x found) rest h = h ∙ ap (awaited p (out-Expression x)) (sym (length-map found (all_outlived k)))
    lived_takes (Hands w) (Locates x found) rest h = h ∙ ap (place_awaited p (out-Expression x)) (sym (length-map found (all_outlived k)))
    lived_takes (Hands w) (Tests s) rest h = let P : Option ℕ → Type 0 = λ f. MayTest p f (out-Statement s) (type_given w) in subst P (same_function rest) h
    lived_takes (Hands w) item rest h = h
    lived_takes Runs (Work s) rest h = h
    lived_takes Runs item rest h = h
    lived_takes Acts (Leaving v) rest h = h
    lived_takes Acts item rest h = h
    lived_takes Continues (CommaParts left) rest h = h
    lived_takes Continues item rest h = h
    lived_takes Evaluates (Value x found) rest h = h
    lived_takes Evaluates item rest h = h

    same_below : (n : ℕ) (item : Item) → lived_below n item ≡ lived_below n (item_outlived k item)
    same_below n (Close objects) = refl
    same_below n (Back function objects) = refl
    same_below n item = refl

    pub lived_on : (n : ℕ) → n ≤ k → (given : Given) (items : List Item) → IsSoundControl p store n given items → IsSoundControl p others n given (moved items)
    lived_on n le given [] h = h
    lived_on n le given (item ∷ rest) h =
        let less = lives_below store n item rest h.0 h.2 in
        let P : ℕ → Type 0 = λ m. IsSoundControl p others m h.0 (moved rest) in
        (h.0, lived_takes given item rest h.1, lived_item n le item rest h.0 h.2, subst P (same_below n item) (lived_on (lived_below n item) (omega (arith, less, le)) h.0 rest h.3))
