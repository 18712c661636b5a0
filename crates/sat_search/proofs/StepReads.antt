use Rattle.std.proofs.Common.{ℕ, ◌≡◌, ◌/◌, ◌<◌, ◌≤◌, arith, Option, None, Some, refl, List, length, get_or, set, Bool, false, ap, subst}
use Rattle.std.proofs.lemmas.List.{get_or_read}
use Rattle.sat_engine.specs.declared.trail.SetLiteral.{SetLiteral}
use Rattle.sat_engine.specs.Trail.{none_step, lit_at, reason_at}
use Rattle.sat_search.specs.Mark.{IsMarkedAt, MarkedAll, IsNext}
use Rattle.sat_search.specs.Analysis.{IsWitness, AreCovered}

pub lit_read : (steps : List SetLiteral) (i : ℕ) (x : SetLiteral) → i < length steps → x ≡ get_or steps i x → x.lit ≡ lit_at steps i
lit_read steps i x lt e = ap (λ (s : SetLiteral). s.lit) (get_or_read steps i x lt e none_step)

pub reason_read : (steps : List SetLiteral) (i : ℕ) (x : SetLiteral) → i < length steps → x ≡ get_or steps i x → x.reason ≡ reason_at steps i
reason_read steps i x lt e = ap (λ (s : SetLiteral). s.reason) (get_or_read steps i x lt e none_step)

pub MarkedAll-at : (c d place here : List ℕ) (start floor s t : ℕ) (old new : List Bool) (low_old low_new : List ℕ) → c ≡ d → place ≡ here → s ≡ t
    → MarkedAll c (length c) place start floor s (set old (s / 2) false) new low_old low_new → MarkedAll d (length d) here start floor t (set old (t / 2) false) new low_old low_new
MarkedAll-at c d place here start floor s t old new low_old low_new e f g m =
    subst (λ (x : ℕ). MarkedAll d (length d) here start floor x (set old (x / 2) false) new low_old low_new) g
    (subst (λ (x : List ℕ). MarkedAll d (length d) x start floor s (set old (s / 2) false) new low_old low_new) f
    (subst (λ (x : List ℕ). MarkedAll x (length x) place start floor s (set old (s / 2) false) new low_old low_new) e m))

pub MarkedAll-in : (c d place here : List ℕ) (start floor s : ℕ) (old new : List Bool) (low_old low_new low_mid : List ℕ) → c ≡ d → place ≡ here → low_old ≡ low_mid
    → MarkedAll c (length c) place start floor s old new low_old low_new → MarkedAll d (length d) here start floor s old new low_mid low_new
MarkedAll-in c d place here start floor s old new low_old low_new low_mid e f g m =
    subst (λ (x : List ℕ). MarkedAll d (length d) here start floor s old new x low_new) g
    (subst (λ (x : List ℕ). MarkedAll d (length d) x start floor s old new low_old low_new) f
    (subst (λ (x : List ℕ). MarkedAll x (length x) place start floor s old new low_old low_new) e m))

pub IsWitness-next : (steps : List SetLiteral) (marks : List Bool) (floor at : ℕ) (o : Option ℕ) → IsNext steps marks floor at o → IsWitness steps marks floor at o
IsWitness-next steps marks floor at None h = h
IsWitness-next steps marks floor at (Some w) h = (h.0, h.1, h.2)

pub IsNext-none : (steps : List SetLiteral) (marks : List Bool) (floor at : ℕ) (o : Option ℕ) → ((w : ℕ) → o ≡ Some w → ⊥) → IsWitness steps marks floor at o → IsNext steps marks floor at None
IsNext-none steps marks floor at None off h = h
IsNext-none steps marks floor at (Some w) off h = absurd (off w refl)

-- fewer marks from a place on
pub IsNext-fewer : (steps : List SetLiteral) (old new : List Bool) (floor at : ℕ) → ((i : ℕ) → floor ≤ i → i < length steps → IsMarkedAt steps new i → IsMarkedAt steps old i) → at < length steps → IsNext steps old floor at None → IsNext steps new floor at None
IsNext-fewer steps old new floor at fewer lt off i lo hi h = off i lo hi (fewer i lo (omega arith) h)

pub AreCovered-at : (c d place here : List ℕ) (start s t : ℕ) (marks : List Bool) → c ≡ d → place ≡ here → s ≡ t → AreCovered c (length c) place start marks s → AreCovered d (length d) here start marks t
AreCovered-at c d place here start s t marks e f g h =
    subst (λ (x : ℕ). AreCovered d (length d) here start marks x) g
    (subst (λ (x : List ℕ). AreCovered d (length d) x start marks s) f
    (subst (λ (x : List ℕ). AreCovered x (length x) place start marks s) e h))
