use Rattle.std.proofs.Common.{ℕ, ◌≡◌, ◌+◌, ◌<◌, ◌++◌, inl, inr, List, Bool, length, get_or, take, refl, sym, ap, subst, ◌∙◌}
use Rattle.std.proofs.lemmas.List.{take_more, take_all}
use Rattle.std.proofs.lemmas.List.Elements.{Contains-append_cases}
use Rattle.sat_engine.specs.Trail.{IsSet}
use Rattle.sat_index.specs.declared.bucket.Bucket.{Bucket}
use Rattle.sat_index.specs.declared.index.Occurrence.{Occurrence}
use Rattle.sat_index.specs.Signature.{all_set, Lacks, IsWithin, AreWithin}
use Rattle.sat_index.specs.Listed.{occurrences_of, NoneFlagged}
use Rattle.sat_index.proofs.Signatures.{IsWithin-through}
use Rattle.sat_index.proofs.Buckets.{occurrences_of-push}
use Rattle.sat_index.proofs.newness.among_buckets.Goals as goal

NoneFlagged-append : (F : List (List ℕ)) (xs ys : List Occurrence) (flags : List Bool) → NoneFlagged F xs flags → NoneFlagged F ys flags → NoneFlagged F (xs ++ ys) flags
NoneFlagged-append F xs ys flags f g i lt w all = elim (Contains-append_cases xs ys w.0 w.1) [
  | inl left ↦ f i lt (w.0, left, w.2) all
  | inr right ↦ g i lt (w.0, right, w.2) all
]

NoneFlagged-next : (F : List (List ℕ)) (buckets : List Bucket) (flags : List Bool) (k : ℕ) (bucket : Bucket) → k < length buckets → bucket ≡ get_or buckets k bucket → NoneFlagged F (occurrences_of (take k buckets)) flags → NoneFlagged F bucket.occurrences.items flags → NoneFlagged F (occurrences_of (take (k + 1) buckets)) flags
NoneFlagged-next F buckets flags k bucket lt is before here =
    let more : occurrences_of (take (k + 1) buckets) ≡ occurrences_of (take k buckets) ++ bucket.occurrences.items = ap occurrences_of (take_more buckets k bucket lt) ∙ occurrences_of-push (take k buckets) (get_or buckets k bucket) ∙ ap (λ (x : Bucket). occurrences_of (take k buckets) ++ x.occurrences.items) (sym is) in
    subst (λ (x : List Occurrence). NoneFlagged F x flags) (sym more) (NoneFlagged-append F (occurrences_of (take k buckets)) bucket.occurrences.items flags before here)

-- a clause whose literals are all flagged has its signature within the word, and so has its bucket
NoneFlagged-apart : (F : List (List ℕ)) (occurrences : List Occurrence) (joint signature : ℕ) (flags : List Bool) → AreWithin joint occurrences → IsWithin all_set signature → ((m : ℕ) → IsSet flags m → Lacks signature m) → (IsWithin joint signature → ⊥) → NoneFlagged F occurrences flags
NoneFlagged-apart F occurrences joint signature flags ok whole flagged apart i lt w all =
    apart (IsWithin-through joint w.0.signature signature (ok w.0 w.1) (w.2.signature.least signature whole (λ m h. flagged m (all m h))))

pub returns : goal.returns
returns c = subst (λ (x : List Bucket). NoneFlagged c.args.store.now (occurrences_of x) c.args.flags.now) (take_all c.loop-bucket.bucket-index c.args.buckets.now c.loop-bucket-test.false) c.loop-bucket.invariant

pub loop-bucket-preserved-then-not-is_within : goal.loop-bucket-preserved-then-not-is_within
loop-bucket-preserved-then-not-is_within c =
    let bucket : Bucket = c.bucket-item.result in
    NoneFlagged-next c.args.store.now c.args.buckets.now c.args.flags.now c.loop-bucket.bucket-index bucket c.loop-bucket-test.true c.bucket-item.is c.loop-bucket.invariant
    (NoneFlagged-apart c.args.store.now bucket.occurrences.items bucket.joint c.args.signature c.args.flags.now bucket.ok c.requires.signature c.requires.flagged (c.if-not-is_within.ensures refl))

pub loop-bucket-preserved : goal.loop-bucket-preserved
loop-bucket-preserved c =
    NoneFlagged-next c.args.store.now c.args.buckets.now c.args.flags.now c.loop-bucket.bucket-index c.bucket-item.result c.loop-bucket-test.true c.bucket-item.is c.loop-bucket.invariant
    (subst (λ (x : List Occurrence). NoneFlagged c.args.store.now x c.args.flags.now) c.deref.ensures.value c.in-None.ensures)
