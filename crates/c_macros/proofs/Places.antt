-- What the map of definitions holds, as a list of definitions.
use Rattle.std.proofs.Common.{◌≡◌, ℕ, zero, suc, ◌<◌, Bool, true, false, List, [], ◌∷◌, ◌++◌, length, Option, Some, None, refl, sym, ap, ◌∙◌, arith, if◌then◌else◌, get_or, slice_get, Vec}
use Rattle.std.specs.Option.{option_map}
use Rattle.std.specs.Str.{bytes_eq}
use Rattle.std.specs.Map as pairs
use Rattle.std.proofs.lemmas.Slice.Eq.{bytes_eq-Decides}
use Rattle.indexmap.specs.IndexMap.{IndexMap, insert_entry}
use Rattle.indexmap.proofs.CallerLemmas.{insert_entry-new}
use Rattle.c_tokens.specs.Words.{lookup}
use Rattle.c_macros.specs.Tables.{definitions}

pub same_either_way : (x y : List ℕ) → bytes_eq x y ≡ bytes_eq y x
same_either_way x y = by (bytes_eq x y) refl (bytes_eq y x) refl
  where
    by : (a : Bool) → bytes_eq x y ≡ a → (b : Bool) → bytes_eq y x ≡ b → a ≡ b
    by true e true f = refl
    by false e false f = refl
    by true e false f = sym ((bytes_eq-Decides y x).1 (sym ((bytes_eq-Decides x y).0 e))) ∙ f
    by false e true f = sym e ∙ (bytes_eq-Decides x y).1 (sym ((bytes_eq-Decides y x).0 f))

module _ {Z : Type 0} where
  -- a name's text is the value at its key
  pub lookup_definitions : (es : List (Vec ℕ Z × Vec ℕ Z)) (name : List ℕ)
      → lookup (definitions es) name ≡ option_map (λ text. text.items) (pairs.lookup (λ key. bytes_eq name key.items) es)
  lookup_definitions [] name = refl
  lookup_definitions (e ∷ es) name = rw (same_either_way e.0.items name) (by (bytes_eq name e.0.items) (lookup_definitions es name))
    where
      by : (b : Bool) → lookup (definitions es) name ≡ option_map (λ text. text.items) (pairs.lookup (λ key. bytes_eq name key.items) es)
          → (if b then Some e.1.items else lookup (definitions es) name)
          ≡ option_map (λ text. text.items) (if b then Some e.1 else pairs.lookup (λ key. bytes_eq name key.items) es)
      by true h = refl
      by false h = h

  -- the key that is found is the name
  pub key_is : (es : List (Vec ℕ Z × Vec ℕ Z)) (name : List ℕ) (found : Vec ℕ Z)
      → pairs.lookup_key (λ key. bytes_eq name key.items) es ≡ Some found → found.items ≡ name
  key_is [] name found h = cc
  key_is (e ∷ es) name found h = by (bytes_eq name e.0.items) refl h (key_is es name found)
    where
      by : (b : Bool) → bytes_eq name e.0.items ≡ b → (if b then Some e.0 else pairs.lookup_key (λ key. bytes_eq name key.items) es) ≡ Some found
          → (pairs.lookup_key (λ key. bytes_eq name key.items) es ≡ Some found → found.items ≡ name) → found.items ≡ name
      by true same h rest = let eq = (bytes_eq-Decides name e.0.items).0 same in let f : e.0 ≡ found = cc h in ap (λ v. v.items) (sym f) ∙ sym eq
      by false same h rest = rest h

  pub entry_at : (es : List (Vec ℕ Z × Vec ℕ Z)) (i : ℕ) (key text : Vec ℕ Z) → slice_get es i ≡ Some (key, text)
      → (i < length (definitions es)) × (get_or (definitions es) i ([], []) ≡ (key.items, text.items))
  entry_at [] i key text h = cc
  entry_at (e ∷ es) zero key text h = let f : e ≡ (key, text) = cc h in (omega arith, ap (λ p. (p.0.items, p.1.items)) f)
  entry_at (e ∷ es) (suc i) key text h = let r = entry_at es i key text h in let l = r.0 in (omega arith, r.1)

  pub definitions_push : (es : List (Vec ℕ Z × Vec ℕ Z)) (key text : Vec ℕ Z)
      → definitions (es ++ (key, text) ∷ []) ≡ definitions es ++ (key.items, text.items) ∷ []
  definitions_push [] key text = refl
  definitions_push (e ∷ es) key text = ap (λ rest. (e.0.items, e.1.items) ∷ rest) (definitions_push es key text)

  -- a name that has no text has no entry
  absent : (es : List (Vec ℕ Z × Vec ℕ Z)) (name : List ℕ) → lookup (definitions es) name ≡ None → pairs.lookup (λ key. bytes_eq name key.items) es ≡ None
  absent es name none = by (pairs.lookup (λ key. bytes_eq name key.items) es) (sym (lookup_definitions es name) ∙ none)
    where
      by : (found : Option (Vec ℕ Z)) → option_map (λ text. text.items) found ≡ None → found ≡ None
      by None e = refl
      by (Some text) e = cc e

  -- a new definition goes last
  pub definitions_insert : {S : Type 0} (m : IndexMap (Vec ℕ Z) (Vec ℕ Z) S) (key text : Vec ℕ Z) → lookup (definitions m.entries) key.items ≡ None
      → definitions (insert_entry (λ x y. bytes_eq x.items y.items) m.entries key text) ≡ definitions m.entries ++ (key.items, text.items) ∷ []
  definitions_insert m key text none =
      ap definitions (insert_entry-new (λ x y. bytes_eq x.items y.items) m key text (absent m.entries key.items none)) ∙ definitions_push m.entries key text

  pub definitions_length : (es : List (Vec ℕ Z × Vec ℕ Z)) → length (definitions es) ≡ length es
  definitions_length [] = refl
  definitions_length (e ∷ es) = let r = definitions_length es in omega arith
