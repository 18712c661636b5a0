-- Where a text breaks no rule, each of its expressions has a type.
use Rattle.std.proofs.Common.{arith, slice_get, slice_index_or, ◌≡◌, ℕ, ◌+◌, Bool, true, false, ◌&&◌, cond, List, [], ◌∷◌, ◌++◌, map, Option, Some, None, ap, sym, subst, ◌∙◌}
use Rattle.std.specs.List.{All}
use Rattle.std.proofs.lemmas.List.Sums.{AllPass-from_list_all}
use Rattle.std.proofs.lemmas.List.Elements.{All-append, All-push}
use Rattle.c_tokens.specs.declared.data_model.DataModel.{DataModel}
use Rattle.c_tree.specs.declared.expression.Expression.{Expression}
use Rattle.c_tree.specs.declared.declaration.Initialiser.{Initialiser}
use Rattle.c_tree.specs.declared.declaration.Initialiser.TheOpen.{Initialiser-F}
use Rattle.c_tree.specs.declared.declaration.Initialiser.TheOpen.{Initialiser-F as i}
use Rattle.c_tree.specs.declared.declaration.Initialiser.TheViews.{roll-Initialiser}
use Rattle.c_tree.specs.declared.declaration.Initialiser.TheFolds.{map-Initialiser, para-roll-Initialiser, ind-Initialiser}
use Rattle.c_tree.specs.declared.declaration.Declared.{Declared}
use Rattle.c_tree.specs.declared.declaration.Declared.TheVariants as declared
use Rattle.c_tree.specs.declared.declaration.Tree.{Tree}
use Rattle.c_tree.specs.declared.statement.BlockItem.TheOpen.{Statement-F as t, BlockItem-F as b}
use Rattle.c_kinds.specs.declared.types.Shape.{Shape}
use Rattle.c_kinds.specs.declared.types.Shape.TheVariants as shape
use Rattle.c_kinds.specs.declared.types.CType.{CType}
use Rattle.c_kinds.specs.declared.typed.Typed.{Typed}
use Rattle.c_kinds.specs.Types.{shape_of, is_array}
use Rattle.c_kinds.specs.declared.answer.Answer.{Answer}
use Rattle.c_kinds.specs.declared.answer.Answer.TheVariants.{Gives, Breaks, Nothing}
use Rattle.c_rules.specs.declared.names.Pair.{Pair}
use Rattle.c_rules.specs.Broken.{of_each}
use Rattle.c_rules.specs.Typing.{Given, meaning_at, is_text}
use Rattle.c_rules.specs.Declarators.{holds}
use Rattle.c_rules.specs.Recursion.{of_expression}
use Rattle.c_rules.specs.Expressions.{has_type, broken_value, is_used}
use Rattle.c_rules.specs.Initialisers.{name_at, initialised_at, Initialised, part_of, elements, members, parts_by, parts_pairs, initialiser_pairs, broken_initialiser, declared_pairs}
use Rattle.c_rules.specs.Found.{initialiser_found, found_in_initialiser, found_in_declared, AnswerAt, answering, looking, answers_in_text, InitialiserOf, initialiser_of}
use Rattle.c_rules.specs.Accepted.{Accepted, given_of, given_in, type_by, HasTypes}
use Rattle.c_rules.specs.Laws.{EachHasAType, TableHasEachType, InitialisersFit}
use Rattle.c_rules.specs.declared.program.Program.{Program}
use Rattle.c_rules.specs.Texts.{names_of}
use Rattle.c_rules.proofs.FoundInTexts.{text_has}
use Rattle.c_rules.proofs.Told.{Tell, accepted_tell}
use Rattle.c_rules.proofs.Empty.{first_empty, second_empty}
use Rattle.c_rules.proofs.Typed.{has_answer, AllTyped, nothing_typed, typed_both}
use Rattle.c_rules.proofs.Clear.{both, declarator_clear, expression_clear, specifier_clear}

module _ (g : Given) (told : Tell g.names) where
  value_clear : (f : Typed → Answer) (x : Expression) → broken_value g x f ≡ [] → AllTyped (of_expression (answering g) x false)
  value_clear f x h = expression_clear g told x false (first_empty _ _ h)

  -- ---- initialisers

  abbrev ClearInitialiser : Initialiser → Type 0
  ClearInitialiser x = (y : Initialised) → broken_initialiser g x y ≡ [] → AllTyped (found_in_initialiser (answering g) x)

  abbrev broken_beside : Initialiser → Initialiser × (Initialised → List Pair)
  broken_beside x = (x, broken_initialiser g x)

  abbrev answers_beside : Initialiser → Initialiser × List AnswerAt
  answers_beside x = (x, found_in_initialiser (answering g) x)

  abbrev parts_of : List ((x : Initialiser) × ClearInitialiser x) → List Initialiser
  parts_of ps = map (λ p. p.0) ps

  abbrev Found : List ((x : Initialiser) × ClearInitialiser x) → Type 0
  Found ps = AllTyped (of_each (λ (x : Initialiser × List AnswerAt). x.1) (map answers_beside (parts_of ps)))

  elements_clear : (y : Initialised) (ps : List ((x : Initialiser) × ClearInitialiser x)) → elements (λ x. x.1) y (map broken_beside (parts_of ps)) ≡ [] → Found ps
  elements_clear y [] h = nothing_typed
  elements_clear y (p ∷ ps) h = both _ _ _ _ (p.1 y) (elements_clear y ps) h

  members_clear : (y : Initialised) (ts : List (Option CType)) (ps : List ((x : Initialiser) × ClearInitialiser x)) → members (λ x. x.1) y ts (map broken_beside (parts_of ps)) ≡ [] → Found ps
  members_clear y ts [] h = nothing_typed
  members_clear y [] (p ∷ ps) h = cc
  members_clear y (t ∷ ts) (p ∷ ps) h = both _ _ _ _ (p.1 (part_of y y.first t)) (members_clear y ts ps) h

  by_shape_clear : (y : Initialised) (first : ℕ) (s : Shape) (t : CType) (ps : List ((x : Initialiser) × ClearInitialiser x)) → parts_by g (λ x. x.1) y first s t (map broken_beside (parts_of ps)) ≡ [] → Found ps
  by_shape_clear y first (shape.Array n) t ps h = elements_clear _ ps (second_empty _ _ h)
  by_shape_clear y first (shape.Struct n) t ps h = members_clear (part_of y first None) _ ps h
  by_shape_clear y first (shape.Function n) t ps h = elements_clear _ ps h
  by_shape_clear y first shape.Void t ps h = elements_clear _ ps h
  by_shape_clear y first _ t ps h = cc

  braces_clear : (y : Initialised) (first : ℕ) (t : Option CType) (ps : List ((x : Initialiser) × ClearInitialiser x)) → parts_pairs g (λ x. x.1) y first t (map broken_beside (parts_of ps)) ≡ [] → Found ps
  braces_clear y first None ps h = elements_clear _ ps h
  braces_clear y first (Some t) ps h = by_shape_clear y first (shape_of t) t ps h

  one_clear : (b : Bool) (x : Expression) (p : Pair) (more : List Pair) → cond b (p ∷ []) (broken_value g x is_used ++ more) ≡ [] → AllTyped (of_expression (answering g) x false)
  one_clear true x p more h = cc
  one_clear false x p more h = value_clear is_used x (first_empty _ _ h)

  abbrev parts_under : Initialiser-F ((x : Initialiser) × ClearInitialiser x) → Initialiser-F Initialiser
  parts_under = map-Initialiser ((x : Initialiser) × ClearInitialiser x) Initialiser (λ p. p.0)

  layer_clear : (l : Initialiser-F ((x : Initialiser) × ClearInitialiser x)) (y : Initialised)
      → initialiser_pairs g (λ x. x.1) (map-Initialiser Initialiser (Initialiser × (Initialised → List Pair)) broken_beside (parts_under l)) y ≡ []
      → AllTyped (initialiser_found (answering g) (λ x. x.1) (map-Initialiser Initialiser (Initialiser × List AnswerAt) answers_beside (parts_under l)))
  layer_clear (i.Value x at) y h = one_clear (is_text x && holds is_array y.ctype) x _ _ h
  layer_clear (i.Braces ps at) y h = braces_clear y (at + 1) y.ctype ps h

  initialiser_step : (l : Initialiser-F ((x : Initialiser) × ClearInitialiser x)) → ClearInitialiser (roll-Initialiser (parts_under l))
  unfolding broken_initialiser found_in_initialiser
  initialiser_step l y h =
      subst AllTyped (sym (para-roll-Initialiser (List AnswerAt) (initialiser_found {I = Initialiser × List AnswerAt} (answering g) (λ x. x.1)) (parts_under l)))
      (layer_clear l y (sym (ap (λ f. f y) (para-roll-Initialiser (Initialised → List Pair) (initialiser_pairs {I = Initialiser × (Initialised → List Pair)} g (λ x. x.1)) (parts_under l))) ∙ h))

  initialiser_clear : (x : Initialiser) → ClearInitialiser x
  initialiser_clear = ind-Initialiser ClearInitialiser (λ x y is. subst (λ l. ClearInitialiser (roll-Initialiser l)) is (initialiser_step y))

  -- ---- declarations

  declared_clear : (b : Bool) (x : Declared) → declared_pairs g b x ≡ [] → AllTyped (found_in_declared (answering g) x)
  declared_clear b (declared.Plain inside) h = declarator_clear g told inside false h
  declared_clear b (declared.Initialised inside value at) h =
      typed_both _ _ (declarator_clear g told inside false (first_empty _ _ (first_empty _ _ h))) (initialiser_clear value _ (second_empty _ _ h))

-- ---- texts

pub text_clear : (model : DataModel) (tree : Tree) → Accepted model tree → AllTyped (answers_in_text (given_of model tree) tree)
text_clear model tree h =
    let g = given_of model tree in
    let told = accepted_tell model tree h in
    text_has AllTyped nothing_typed typed_both g (looking (answering g)) (value_clear g told) (λ x. specifier_clear g told x false) (λ x. declarator_clear g told x false) (declared_clear g told)
    tree.externals (second_empty (names_of model tree).broken _ (first_empty _ _ (first_empty _ _ h)))

pub each_typed : EachHasAType
each_typed model text h = AllPass-from_list_all has_answer (answers_in_text (given_of model text) text) (text_clear model text h).all

-- ---- programs

entry : (entries : List (Option CType)) (at : ℕ) (x : Answer) → slice_get entries at ≡ Some (type_by x) → has_type x ≡ true → (t : CType) × (slice_get entries at ≡ Some (Some t))
entry entries at (Gives v) e h = (v.ctype, e)
entry entries at (Breaks rule place) e h = cc
entry entries at Nothing e h = cc

table_of : (p : Program) → HasTypes p → AllTyped (answers_in_text (given_in p) p.tree) → All (λ x. (t : CType) × (slice_get p.types.expressions x.at ≡ Some (Some t))) (answers_in_text (given_in p) p.tree)
table_of p types h k d less =
    let x = slice_index_or (answers_in_text (given_in p) p.tree) k d in
    entry p.types.expressions x.at x.answer (types k d less) (AllPass-from_list_all has_answer (answers_in_text (given_in p) p.tree) h.all k d less)

given_same : (p : Program) → p.names ≡ names_of p.checks.model p.tree → given_of p.checks.model p.tree ≡ given_in p
given_same p e = ap (λ names. record { names = names; model = p.checks.model }) (sym e)

pub table_typed : TableHasEachType
table_typed p a =
    table_of p a.types
    (subst (λ g. AllTyped (answers_in_text g p.tree)) (given_same p a.names) (text_clear p.checks.model p.tree a.accepted))

-- ---- initialisers

-- each of these breaks no rule
record AllFit (g : Given) (xs : List InitialiserOf) : Type 0 where
  all : All (λ x. broken_initialiser g x.initialiser (initialised_at g.names x.equals x.declares) ≡ []) xs

module _ (g : Given) where
  fits_none : AllFit g []
  fits_none = record { all = λ k d less. absurd (omega (arith, less)) }

  fits_both : (xs ys : List InitialiserOf) → AllFit g xs → AllFit g ys → AllFit g (xs ++ ys)
  fits_both xs ys f h = record { all = All-append (λ x. broken_initialiser g x.initialiser (initialised_at g.names x.equals x.declares) ≡ []) xs ys f.all h.all }

  fits_one : (x : InitialiserOf) → broken_initialiser g x.initialiser (initialised_at g.names x.equals x.declares) ≡ [] → AllFit g (x ∷ [])
  fits_one x h = record { all = All-push (λ x. broken_initialiser g x.initialiser (initialised_at g.names x.equals x.declares) ≡ []) [] x (fits_none).all h }

  declared_fits : (b : Bool) (x : Declared) → declared_pairs g b x ≡ [] → AllFit g (initialiser_of g x)
  declared_fits b (declared.Plain inside) h = fits_none
  declared_fits b (declared.Initialised inside value at) h = fits_one (record { declares = meaning_at g.names (name_at inside); equals = at; initialiser = value }) (second_empty _ _ h)

pub initialisers_fit : InitialisersFit
initialisers_fit model text h =
    let g = given_of model text in
    (text_has (AllFit g) (fits_none g) (fits_both g) g (record { expression = λ x. []; specifier = λ x. []; declarator = λ x. []; declared = initialiser_of g })
    (λ f x i. fits_none g) (λ x i. fits_none g) (λ x i. fits_none g) (declared_fits g)
    text.externals (second_empty (names_of model text).broken _ (first_empty _ _ (first_empty _ _ h)))).all
