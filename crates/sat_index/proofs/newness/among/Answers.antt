use Rattle.std.proofs.Common.{ℕ, ◌+◌, ◌<◌, inl, inr, List, Bool, length, get_or, take, sym, subst}
use Rattle.std.specs.List.{Contains}
use Rattle.std.proofs.lemmas.List.{take_more, take_all}
use Rattle.std.proofs.lemmas.List.Elements.{Contains-push_cases}
use Rattle.sat_index.specs.declared.index.Occurrence.{Occurrence}
use Rattle.sat_index.specs.Listed.{IsOccurrence, IsPassed, NoneFlagged}
use Rattle.sat_index.proofs.newness.among.Goals as goal

NoneFlagged-more : (F : List (List ℕ)) (occurrences : List Occurrence) (flags : List Bool) (k : ℕ) (d : Occurrence) → k < length occurrences → NoneFlagged F (take k occurrences) flags → IsPassed F flags (get_or occurrences k d) → NoneFlagged F (take (k + 1) occurrences) flags
NoneFlagged-more F occurrences flags k d lt before here i below w all =
    elim (Contains-push_cases (take k occurrences) (get_or occurrences k d) w.0 (subst (λ (x : List Occurrence). Contains x w.0) (take_more occurrences k d lt) w.1)) [
      | inl old ↦ before i below (w.0, old, w.2) all
      | inr new ↦ here i below (subst (λ (x : Occurrence). IsOccurrence F i x) (sym new) w.2) all
    ]

pub loop-occurrence-preserved : goal.loop-occurrence-preserved
loop-occurrence-preserved c = NoneFlagged-more c.args.store.now c.args.occurrences.now c.args.flags.now c.loop-occurrence.occurrence-index (record { number = 0; signature = 0 }) c.loop-occurrence-test.true c.loop-occurrence.invariant (c.is_found.ensures.no c.if-is_found.false)

pub returns : goal.returns
returns c = subst (λ (x : List Occurrence). NoneFlagged c.args.store.now x c.args.flags.now) (take_all c.loop-occurrence.occurrence-index c.args.occurrences.now c.loop-occurrence-test.false) c.loop-occurrence.invariant
