-- Qualifiers, one by one.
use Rattle.std.proofs.Common.{◌≡◌, Bool, true, false, List, [], ◌∷◌, ◌&&◌, refl}
use Rattle.std.specs.List.{list_all}
use Rattle.c_tree.specs.declared.expression.Qualifier.{Qualifier}
use Rattle.c_tree.specs.Spells.{Unnamed, may_qualify, may_all_qualify}

next_by : (b : Bool) (x y : Bool) → x ≡ y → (b && x) ≡ elim b [ true ↦ y | false ↦ false ]
next_by true x y e = e
next_by false x y e = refl

pub all_qualify : (unnamed : Unnamed) (list : List Qualifier) → list_all (may_qualify unnamed) list ≡ may_all_qualify unnamed list
all_qualify unnamed [] = refl
all_qualify unnamed (qualifier ∷ further) =
    next_by (may_qualify unnamed qualifier) (list_all (may_qualify unnamed) further) (may_all_qualify unnamed further) (all_qualify unnamed further)
