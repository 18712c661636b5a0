-- What is known of names stays so where only marks are put.
use Rattle.std.proofs.Common.{◌≡◌, ℕ, ◌<◌, List, [], ◌∷◌, ◌++◌, length, map, sym, ap, ◌∙◌, subst, get_or}
use Rattle.std.proofs.lemmas.List.{get_or-map, length-map, map-append}
use Rattle.c_tokens.specs.declared.data_model.DataModel.{DataModel}
use Rattle.c_tokens.specs.Constants.{number_of}
use Rattle.c_tokens.specs.Reading.{given}
use Rattle.c_scan.specs.declared.constants.Number.{Number}
use Rattle.c_scan.specs.Numbers.{number_view}
use Rattle.c_macros.specs.Chains.{Definitions, text_at}
use Rattle.c_scan.specs.Rows.{rows}
use Rattle.c_macros.specs.declared.macros.Macros.{Macros}
use Rattle.c_macros.specs.Chains.{IsLinked}
use Rattle.c_macros.specs.Circles.{IsMarked}
use Rattle.c_macros.specs.Tables.{IsKnown, OnlyMarks, macros_view}

pub others_join : (a b c : Macros) → OnlyMarks a b → OnlyMarks b c → OnlyMarks a c
others_join a b c first second = record {
  macros_stay = second.macros_stay ∙ first.macros_stay;
  given_stay = second.given_stay ∙ first.given_stay;
  ahead_stay = second.ahead_stay ∙ first.ahead_stay;
  numbers_stay = second.numbers_stay ∙ first.numbers_stay;
  model_stays = second.model_stays ∙ first.model_stays;
}

pub known_again : (old new : Macros) → IsKnown old → OnlyMarks old new → IsMarked (macros_view old).defined new.returns.items → IsKnown new
known_again old new known others marked =
    let macros = others.macros_stay in
    let model = others.model_stays in
    record {
      given_are = ap (λ g. rows g.items) others.given_stay ∙ known.given_are ∙ sym (λ i. given (model i) (macros i));
      linked = subst (λ n. IsLinked n.defined new.ahead.items) (sym macros) (subst (λ a. IsLinked (macros_view old).defined a.items) (sym others.ahead_stay) known.linked);
      marked = subst (λ n. IsMarked n.defined new.returns.items) (sym macros) marked;
      numbered = ap (λ n. map number_view n.items) others.numbers_stay ∙ known.numbered ∙ sym (λ i. map (λ row. number_of (model i) row.1) (macros i).defined);
    }

-- ---- numbers

module _ (model : DataModel) (D : Definitions) (numbers : List Number) (numbered : map number_view numbers ≡ map (λ row. number_of model row.1) D) where
  pub numbers_length : length numbers ≡ length D
  numbers_length = sym (length-map numbers number_view) ∙ ap length numbered ∙ length-map D (λ row. number_of model row.1)

  pub number_known : (i : ℕ) (d : Number) → i < length D → number_view (get_or numbers i d) ≡ number_of model (text_at D i)
  number_known i d within =
      let inside : i < length numbers = subst (λ n. i < n) (sym numbers_length) within in
      sym (get_or-map number_view numbers i d (number_view d) inside) ∙ ap (λ l. get_or l i (number_view d)) numbered
      ∙ get_or-map (λ row. number_of model row.1) D i ([], []) (number_view d) within

  pub numbered_push : (name text : List ℕ) (number : Number) → number_view number ≡ number_of model text
      → map number_view (numbers ++ number ∷ []) ≡ map (λ row. number_of model row.1) (D ++ (name, text) ∷ [])
  numbered_push name text number read =
      map-append number_view numbers (number ∷ []) ∙ (λ i. numbered i ++ (read i) ∷ []) ∙ sym (map-append (λ row. number_of model row.1) D ((name, text) ∷ []))
