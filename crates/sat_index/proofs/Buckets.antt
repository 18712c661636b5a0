use Rattle.std.proofs.Common.{ℕ, ◌≡◌, ◌<◌, ◌++◌, ◌∷◌, [], List, length, get_or, take, drop, set, suc, sym, ap, subst, ◌∙◌}
use Rattle.std.proofs.lemmas.Grind.{flat_map-append}
use Rattle.std.proofs.lemmas.List.{flat_map_more, set_split, set-get_or, append_assoc}
use Rattle.std.proofs.lemmas.List.Edits.{insert_end}
use Rattle.std.proofs.lemmas.List.Elements.{Contains-push, Contains-append_left, Contains-append_right}
use Rattle.std.proofs.lemmas.List.Sorted.{Contains-permutation, IsPermutation-insert}
use Rattle.std.proofs.Math.Seq.{take-append_seam, drop-append_seam}
use Rattle.std.specs.List.{Contains, insert}
use Rattle.std.specs.List.Sorted.{IsPermutation}
use Rattle.sat_index.specs.declared.bucket.Bucket.{Bucket}
use Rattle.sat_index.specs.declared.index.Occurrence.{Occurrence}
use Rattle.sat_index.specs.Listed.{occurrences_of, IsPut}

pub occurrences_of-push : (buckets : List Bucket) (bucket : Bucket) → occurrences_of (buckets ++ bucket ∷ []) ≡ occurrences_of buckets ++ bucket.occurrences.items
occurrences_of-push buckets bucket = sym (flat_map_more (λ (b : Bucket). b.occurrences.items) [] buckets bucket)

occurrences_of-set : (buckets : List Bucket) (i : ℕ) (bucket : Bucket) → i < length buckets → occurrences_of (set buckets i bucket) ≡ occurrences_of (take i buckets) ++ (bucket.occurrences.items ++ occurrences_of (drop (suc i) buckets))
occurrences_of-set buckets i bucket lt = ap occurrences_of (set_split buckets i bucket lt) ∙ flat_map-append (λ (b : Bucket). b.occurrences.items) (take i buckets) (bucket ∷ drop (suc i) buckets)

insert-between : (first rest : List Occurrence) (n : Occurrence) → insert (first ++ rest) (length first) n ≡ first ++ n ∷ rest
insert-between first rest n = ap (λ (x : List Occurrence). x ++ n ∷ drop (length first) (first ++ rest)) (take-append_seam first rest) ∙ ap (λ (x : List Occurrence). first ++ n ∷ x) (drop-append_seam first rest)

IsPut-push : (occurrences : List Occurrence) (n : Occurrence) → IsPut occurrences n (occurrences ++ n ∷ [])
IsPut-push occurrences n = (length occurrences, sym (insert_end occurrences n))

-- what is put stands at the end of its bucket
pub IsPut-bucket : (buckets : List Bucket) (i : ℕ) (old new : Bucket) (n : Occurrence) → i < length buckets → old ≡ get_or buckets i old → new.occurrences.items ≡ old.occurrences.items ++ n ∷ [] → IsPut (occurrences_of buckets) n (occurrences_of (set buckets i new))
IsPut-bucket buckets i old new n lt is more =
    let before : List Occurrence = occurrences_of (take i buckets) in
    let here : List Occurrence = old.occurrences.items in
    let rest : List Occurrence = occurrences_of (drop (suc i) buckets) in
    let same : set buckets i old ≡ buckets = ap (set buckets i) is ∙ set-get_or buckets i old in
    let was : (before ++ here) ++ rest ≡ occurrences_of buckets = append_assoc before here rest ∙ sym (occurrences_of-set buckets i old lt) ∙ ap occurrences_of same in
    let now : occurrences_of (set buckets i new) ≡ (before ++ here) ++ n ∷ rest =
    occurrences_of-set buckets i new lt
    ∙ ap (λ (x : List Occurrence). before ++ (x ++ rest)) more
    ∙ ap (λ (x : List Occurrence). before ++ x) (append_assoc here (n ∷ []) rest)
    ∙ sym (append_assoc before here (n ∷ rest)) in
    (length (before ++ here), now ∙ sym (insert-between (before ++ here) rest n) ∙ ap (λ (x : List Occurrence). insert x (length (before ++ here)) n) was)

pub IsPut-new : (buckets : List Bucket) (new : Bucket) (n : Occurrence) → new.occurrences.items ≡ n ∷ [] → IsPut (occurrences_of buckets) n (occurrences_of (buckets ++ new ∷ []))
IsPut-new buckets new n is = subst (IsPut (occurrences_of buckets) n) (sym (occurrences_of-push buckets new ∙ ap (λ (x : List Occurrence). occurrences_of buckets ++ x) is)) (IsPut-push (occurrences_of buckets) n)

has : (before after : List Occurrence) (n e : Occurrence) → IsPut before n after → Contains (n ∷ before) e → Contains after e
has before after n e put = Contains-permutation (n ∷ before) after e (subst (IsPermutation (n ∷ before)) (sym put.1) (IsPermutation-insert before put.0 n))

pub IsPut-has : (before after : List Occurrence) (n : Occurrence) → IsPut before n after → Contains after n
IsPut-has before after n put = has before after n n put (Contains-append_left (n ∷ []) before n (Contains-push [] n))

pub IsPut-keeps : (before after : List Occurrence) (n e : Occurrence) → IsPut before n after → Contains before e → Contains after e
IsPut-keeps before after n e put w = has before after n e put (Contains-append_right (n ∷ []) before e w)
