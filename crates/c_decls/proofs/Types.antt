-- Types of parameters, of which all are known or not.
use Rattle.std.proofs.Common.{◌≡◌, List, [], ◌∷◌, ◌++◌, Option, Some, None, refl, ap, sym, ◌∙◌, append_assoc}
use Rattle.std.proofs.lemmas.List.{append-nil}
use Rattle.c_kinds.specs.declared.types.CType.{CType}
use Rattle.c_rules.specs.Declarators.{all_types}
use Rattle.c_decls.specs.Steps.{prepended}

more_by : (ts : List CType) (t : CType) (rest : Option (List CType))
    → prepended ts (elim rest as (λ _. Option (List CType)) [ None ↦ None | Some us ↦ Some (t ∷ us) ]) ≡ prepended (ts ++ t ∷ []) rest
more_by ts t None = refl
more_by ts t (Some us) = ap Some (sym (append_assoc ts (t ∷ []) us))

pub prepended_more : (ts : List CType) (t : CType) (rest : List (Option CType)) → prepended ts (all_types (Some t ∷ rest)) ≡ prepended (ts ++ t ∷ []) (all_types rest)
prepended_more ts t rest = more_by ts t (all_types rest)

pub prepended_none : (x : Option (List CType)) → prepended [] x ≡ x
prepended_none None = refl
prepended_none (Some us) = refl

pub prepended_all : (ts : List CType) → prepended ts (all_types []) ≡ Some ts
prepended_all ts = ap Some (append-nil ts)
