-- In an accepted program the bodies of functions are code, and so is what stands on the control stack, wherever the bare machine comes.
use Rattle.std.proofs.Common.{◌≡◌, ℕ, Bool, true, false, cond, List, [], ◌∷◌, codes, Option, Some, None, refl, ap, sym, subst, slice_get}
use Rattle.std.specs.Str.{bytes_eq}
use Rattle.std.proofs.lemmas.Bool.{eqb-true}
use Rattle.c_tree.specs.declared.declaration.External.{External}
use Rattle.c_tree.specs.declared.declaration.External.TheVariants as external
use Rattle.c_tree.specs.declared.expression.Specifier.{Specifier}
use Rattle.c_tree.specs.declared.statement.BlockItem.{BlockItem}
use Rattle.c_kinds.specs.declared.types.CType.{CType}
use Rattle.c_rules.specs.declared.names.Meaning.{Meaning}
use Rattle.c_rules.specs.declared.names.Meaning.TheVariants as meaning
use Rattle.c_rules.specs.declared.program.Program.{Program}
use Rattle.c_rules.specs.Accepted.{given_in, given_of, IsAcceptedProgram}
use Rattle.c_rules.specs.Broken.{of_each}
use Rattle.c_rules.specs.Found.{found_in_item, found_in_external, answers_in_text}
use Rattle.c_rules.specs.Initialisers.{name_at}
use Rattle.c_rules.specs.Statements.{Near, function_result, result_of, beginning, broken_body, broken_external}
use Rattle.c_rules.specs.Texts.{names_of}
use Rattle.c_rules.proofs.Empty.{first_empty, second_empty}
use Rattle.c_rules.proofs.Told.{Tell, accepted_tell}
use Rattle.c_model.specs.Functions.{is_function_numbered, body_in, name_of, main_in}
use Rattle.c_model.specs.Programs.{meaning_at}
use Rattle.c_model.specs.Configurations.{Item, State}
use Rattle.c_model.specs.Steps.{start}
use Rattle.c_heads.specs.Sound.{IsNext}
use Rattle.c_sound.proofs.Tables.{AreTold, first_told, second_told, told_of}
use Rattle.c_sound.proofs.Standing.{Each, ItemIn, Asked, IsKept, AreCode}
use Rattle.c_sound.proofs.Evaluating.{HasBodies}
use Rattle.c_sound.proofs.Parts.{sought}
use Rattle.c_sound.proofs.Stepping.{run_kept}

module _ (p : Program) where
  items_of : (near : Near) (xs : List BlockItem) → broken_body (given_in p) near xs ≡ [] → AreTold p (of_each (found_in_item (sought p)) xs) → Each (ItemIn p near) xs
  items_of near [] h t = tt
  items_of near (x ∷ xs) h t = (record { clear = first_empty _ _ h; told = first_told p _ _ t }, items_of near xs (second_empty _ _ h) (second_told p _ _ t))

  -- of external declarations
  record AreClear (xs : List External) : Type 0 where
    clear : of_each (broken_external (given_in p)) xs ≡ []
    told : AreTold p (of_each (found_in_external (sought p)) xs)

  rest_clear : (x : External) (xs : List External) → AreClear (x ∷ xs) → AreClear xs
  rest_clear x xs h = record { clear = second_empty (broken_external (given_in p) x) _ h.clear; told = second_told p (found_in_external (sought p) x) _ h.told }

  body_clear : (words : List Specifier) (inside : _) (body : List BlockItem) (at : ℕ) (xs : List External) → AreClear (external.Defined words inside body at ∷ xs)
      → Each (ItemIn p (beginning (result_of p.names (meaning_at p (name_at inside))))) body
  body_clear words inside body at xs h =
      items_of (beginning (result_of p.names (meaning_at p (name_at inside)))) body
      (second_empty _ _ (first_empty (broken_external (given_in p) (external.Defined words inside body at)) _ h.clear))
      (second_told p _ _ (first_told p (found_in_external (sought p) (external.Defined words inside body at)) _ h.told))

  numbered : (f : ℕ) (m : Option Meaning) → is_function_numbered f m ≡ true → result_of p.names m ≡ function_result p.names (slice_get p.names.functions f)
  numbered f (Some (meaning.Function n)) e = ap (λ k. function_result p.names (slice_get p.names.functions k)) (eqb-true n f e)
  numbered f None e = cc
  numbered f (Some (meaning.Object n)) e = cc
  numbered f (Some (meaning.Constant n)) e = cc
  numbered f (Some (meaning.Known function)) e = cc
  numbered f (Some (meaning.Type t star)) e = cc

  abbrev Of : ℕ → List BlockItem → Type 0
  Of f xs = Each (ItemIn p (beginning (function_result p.names (slice_get p.names.functions f)))) xs

  of_function : (f : ℕ) (xs : List External) → AreClear xs → Of f (body_in p f xs)
  of_function f [] h = tt
  of_function f (external.Empty at ∷ xs) h = of_function f xs (rest_clear _ xs h)
  of_function f (external.Declared x ∷ xs) h = of_function f xs (rest_clear _ xs h)
  of_function f (external.Defined words inside body at ∷ xs) h = one (is_function_numbered f (meaning_at p (name_at inside))) refl (of_function f xs (rest_clear (external.Defined words inside body at) xs h))
    where
      one : (b : Bool) → is_function_numbered f (meaning_at p (name_at inside)) ≡ b → Of f (body_in p f xs) → Of f (cond b body (body_in p f xs))
      one false e later = later
      one true e later =
          subst (λ (t : Option CType). Each (ItemIn p (beginning t)) body) (numbered f (meaning_at p (name_at inside)) e) (body_clear words inside body at xs h)

  -- of `main`, whatever it gives
  record IsMain (xs : List BlockItem) : Type 0 where
    result : Option CType
    are : Each (ItemIn p (beginning result)) xs

  of_main : (xs : List External) → AreClear xs → IsMain (main_in xs)
  of_main [] h = record { result = None; are = tt }
  of_main (external.Empty at ∷ xs) h = of_main xs (rest_clear _ xs h)
  of_main (external.Declared x ∷ xs) h = of_main xs (rest_clear _ xs h)
  of_main (external.Defined words inside body at ∷ xs) h = one (bytes_eq (name_of inside) (codes "main")) (of_main xs (rest_clear (external.Defined words inside body at) xs h))
    where
      one : (b : Bool) → IsMain (main_in xs) → IsMain (cond b body (main_in xs))
      one false later = later
      one true later = record { result = _; are = body_clear words inside body at xs h }

-- ---- programs

pub given_same : (p : Program) → p.names ≡ names_of p.checks.model p.tree → given_of p.checks.model p.tree ≡ given_in p
given_same p e = ap (λ names. record { names = names; model = p.checks.model }) (sym e)

text_clear : (p : Program) → IsAcceptedProgram p → AreClear p p.tree.externals
text_clear p h = record {
  clear = subst (λ g. of_each (broken_external g) p.tree.externals ≡ []) (given_same p h.names) (second_empty (names_of p.checks.model p.tree).broken _ (first_empty _ _ (first_empty _ _ h.accepted)));
  told = told_of p (answers_in_text (given_in p) p.tree) h.types;
}

pub accepted_tells : (p : Program) → IsAcceptedProgram p → Tell p.names
accepted_tells p h = subst Tell (sym h.names) (accepted_tell p.checks.model p.tree h.accepted)

has_bodies : (p : Program) → IsAcceptedProgram p → HasBodies p
has_bodies p h = record { bodies = λ f. of_function p f p.tree.externals (text_clear p h) }

start_is_code : (p : Program) (a : Asked) → IsAcceptedProgram p → AreCode p a (start p).control
start_is_code p a h =
    let main = of_main p p.tree.externals (text_clear p h) in
    (record { near = beginning main.result; around = record { breaks = λ q. absurd (cc); continues = λ q. absurd (cc); result = λ f q. absurd (cc) }; are = main.are }, tt)

-- what stands on the control stack is code
pub reached_code : (p : Program) (a : Asked) → IsKept p a → IsAcceptedProgram p → (c : State) (item : Item) (rest : List Item) → IsNext p c item rest → AreCode p a (item ∷ rest)
reached_code p a k h c item rest n =
    subst (λ items. AreCode p a items) n.on_top (run_kept p a k (has_bodies p h) (start p) c n.run (start_is_code p a h))
