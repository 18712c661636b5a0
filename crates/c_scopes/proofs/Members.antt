-- Members of structs, and objects of a function.
use Rattle.std.proofs.Common.{◌≡◌, ℕ, zero, suc, ◌<◌, cond, ◌||◌, Bool, true, false, List, [], ◌∷◌, ◌++◌, length, map, take, drop, Option, Some, None, slice_get, get_or, set, refl, ap, sym, ◌∙◌, arith}
use Rattle.std.specs.Str.{bytes_eq}
use Rattle.c_kinds.specs.declared.types.Struct.{Struct}
use Rattle.c_kinds.specs.declared.types.Member.{Member}
use Rattle.c_kinds.specs.Layouts.{member_in, members_of}
use Rattle.c_rules.specs.Calls.{is_some}
use Rattle.c_rules.specs.Scopes.{is_among}
use Rattle.c_scopes.specs.Tables.{member_names}

known_by : (b : Bool) (m : Member) (found : Option Member) (further : Bool) → is_some found ≡ further → is_some (cond b (Some m) found) ≡ (b || further)
known_by true m found further h = refl
known_by false m found further h = h

member_known : (ms : List Member) (name : List ℕ) → is_some (member_in ms name) ≡ is_among name (map (λ m. m.name) ms)
member_known [] name = refl
member_known (m ∷ ms) name = known_by (bytes_eq m.name name) m (member_in ms name) (is_among name (map (λ m. m.name) ms)) (member_known ms name)

-- a struct has a member of the name where that is among its members' names
pub known_member : (structs : List Struct) (n : ℕ) (names : List (List ℕ)) (name : List ℕ) → Some names ≡ slice_get (member_names structs) n
    → is_among name names ≡ is_some (member_in (members_of structs n) name)
known_member [] n names name is = absurd (cc)
known_member (s ∷ structs) zero names name is = let e : names ≡ map (λ m. m.name) s.members = cc in ap (is_among name) e ∙ sym (member_known s.members name)
known_member (s ∷ structs) (suc n) names name is = known_member structs n names name is

pub no_member : (structs : List Struct) (n : ℕ) (name : List ℕ) → None ≡ slice_get (member_names structs) n → false ≡ is_some (member_in (members_of structs n) name)
no_member [] n name is = refl
no_member (s ∷ structs) zero name is = absurd (cc)
no_member (s ∷ structs) (suc n) name is = no_member structs n name is

there : {A : Type 0} (xs : List A) (n : ℕ) → n < length xs → (x : A) × (slice_get xs n ≡ Some x)
there [] n h = absurd (omega arith)
there (x ∷ xs) zero h = (x, refl)
there (x ∷ xs) (suc n) h = there xs n (omega arith)

-- a struct that keeps its members keeps their names
kept : (structs : List Struct) (n : ℕ) (s now : Struct) → slice_get structs n ≡ Some s → now.members ≡ s.members → member_names (set structs n now) ≡ member_names structs
kept [] n s now is same = refl
kept (x ∷ xs) zero s now is same =
    let e : x ≡ s = cc in ap (λ ms. map (λ m. m.name) ms ∷ member_names xs) (same ∙ ap (λ s. s.members) (sym e))
kept (x ∷ xs) (suc n) s now is same = ap (λ rest. map (λ m. m.name) x.members ∷ rest) (kept xs n s now is same)

pub names_kept : (structs made : List Struct) (n at : ℕ) → n < length structs
    → ((s : Struct) → slice_get structs n ≡ Some s → made ≡ set structs n (record s { completed_at = Some at })) → member_names made ≡ member_names structs
names_kept structs made n at within changes =
    let s = there structs n within in ap member_names (changes s.0 s.1) ∙ kept structs n s.0 (record s.0 { completed_at = Some at }) s.1 refl

named_more : (ms : List Member) (m : Member) → map (λ m. m.name) (ms ++ m ∷ []) ≡ map (λ m. m.name) ms ++ m.name ∷ []
named_more [] m = refl
named_more (x ∷ xs) m = ap (λ rest. x.name ∷ rest) (named_more xs m)

changed : (structs : List Struct) (n : ℕ) (now : Struct) → member_names (set structs n now) ≡ set (member_names structs) n (map (λ m. m.name) now.members)
changed [] n now = refl
changed (x ∷ xs) zero now = refl
changed (x ∷ xs) (suc n) now = ap (λ rest. map (λ m. m.name) x.members ∷ rest) (changed xs n now)

named_there : (structs : List Struct) (n : ℕ) (s : Struct) → slice_get structs n ≡ Some s → slice_get (member_names structs) n ≡ Some (map (λ m. m.name) s.members)
named_there [] n s is = absurd (cc)
named_there (x ∷ xs) zero s is = let e : x ≡ s = cc in ap (λ s. Some (map (λ m. m.name) s.members)) e
named_there (x ∷ xs) (suc n) s is = named_there xs n s is

-- a struct with one more member has one more name
pub names_added : (structs made : List Struct) (names more : List (List (List ℕ))) (n cells : ℕ) (m : Member) (name : List ℕ) (c : Bool) → n < length structs → names ≡ member_names structs → name ≡ m.name
    → ((s : Struct) → slice_get structs n ≡ Some s → made ≡ set structs n (record { members = s.members ++ m ∷ []; completed_at = s.completed_at; cells = cells; has_const = c }))
    → ((old : List (List ℕ)) → slice_get names n ≡ Some old → more ≡ set names n (old ++ name ∷ [])) → more ≡ member_names made
names_added structs made names more n cells m name c within is named changes adds =
    let s = there structs n within in
    let had = ap (λ names. slice_get names n) is ∙ named_there structs n s.0 s.1 in
    adds (map (λ m. m.name) s.0.members) had ∙ ap (λ names. set names n (map (λ m. m.name) s.0.members ++ name ∷ [])) is
    ∙ ap (λ name. set (member_names structs) n (map (λ m. m.name) s.0.members ++ name ∷ [])) named
    ∙ ap (set (member_names structs) n) (sym (named_more s.0.members m))
    ∙ sym (changed structs n (record { members = s.0.members ++ m ∷ []; completed_at = s.0.completed_at; cells = cells; has_const = c }))
    ∙ sym (ap member_names (changes s.0 s.1))

-- one element more of a list is mapped
pub mapped_more : {A : Type 0} (f : A → A) (xs : List A) (n : ℕ) (d : A) → n < length xs
    → set (map f (take n xs) ++ drop n xs) n (f (get_or (map f (take n xs) ++ drop n xs) n d)) ≡ map f (take (suc n) xs) ++ drop (suc n) xs
mapped_more f [] n d h = absurd (omega arith)
mapped_more f (x ∷ xs) zero d h = refl
mapped_more f (x ∷ xs) (suc n) d h = ap (λ rest. f x ∷ rest) (mapped_more f xs n d (omega arith))
