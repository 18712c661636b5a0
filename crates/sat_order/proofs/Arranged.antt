-- What exchanging two variables does to the set.
use Rattle.std.proofs.Common.{ℕ, ◌≡◌, ◌≢◌, ◌+◌, ◌<◌, ◌≤◌, ◌↔◌, inl, inr, List, length, get_or, set, take, Bool, true, false, ltb, refl, sym, ap, subst, ◌∙◌, arith}
use Rattle.std.proofs.lemmas.Bool.{cases_eq, cases_lt, ltb-true, lt-ltb, false≢true}
use Rattle.std.proofs.lemmas.List.{length-set, length-map, length-take-le, get_or-map, get_or-take, get_or-set_same, get_or-set_other, same_lists, get_or_past}
use Rattle.sat_order.specs.Members.{IsIn, IsEmpty, members, IsArranged}

below : (p count : ℕ) → p < count → ltb p count ≡ true
below p count h = lt-ltb p count h

above : (p count : ℕ) → count ≤ p → ltb p count ≡ false
above p count h = not_true (ltb p count) (λ e. let l = ltb-true p count e in omega arith)
  where
    not_true : (b : Bool) → (b ≡ true → ⊥) → b ≡ false
    not_true true n = absurd (n refl)
    not_true false n = refl

pub members-length : (vars places : List ℕ) (count : ℕ) → length vars ≤ length places → length (members vars places count) ≡ length vars
members-length vars places count h = length-map (take (length vars) places) (λ p. ltb p count) ∙ length-take-le (length vars) places h

-- whether a variable is in the set
pub member_at : (vars places : List ℕ) (count v : ℕ) (d : Bool) → length vars ≤ length places → v < length vars → get_or (members vars places count) v d ≡ ltb (get_or places v 0) count
member_at vars places count v d h lt =
    get_or-map (λ p. ltb p count) (take (length vars) places) v 0 d (omega (arith, length-take-le (length vars) places h))
    ∙ ap (λ p. ltb p count) (get_or-take (length vars) places v 0 lt)

-- the same variables are in the set where each one's place is as far below
pub members-same : (vars places here there : List ℕ) (count after : ℕ) → length here ≡ length vars → length vars ≤ length places → length here ≤ length there
    → ((v : ℕ) → v < length vars → ltb (get_or there v 0) after ≡ ltb (get_or places v 0) count) → members here there after ≡ members vars places count
members-same vars places here there count after size h k each = same_lists (members here there after) (members vars places count)
    (members-length here there after k ∙ size ∙ sym (members-length vars places count h))
    (λ v d lt.
    let lt2 : v < length here = omega (arith, members-length here there after k) in
    member_at here there after v d k lt2 ∙ each v (omega arith) ∙ sym (member_at vars places count v d h (omega arith)))

-- and a set with one variable more or less
pub members-set : (vars places here there : List ℕ) (count after w : ℕ) (b : Bool) → length here ≡ length vars → length vars ≤ length places → length here ≤ length there → w < length vars
    → ltb (get_or there w 0) after ≡ b → ((v : ℕ) → v < length vars → v ≢ w → ltb (get_or there v 0) after ≡ ltb (get_or places v 0) count) → members here there after ≡ set (members vars places count) w b
members-set vars places here there count after w b size h k lt_w is each = same_lists (members here there after) (set (members vars places count) w b)
    (members-length here there after k ∙ size ∙ sym (length-set (members vars places count) w b ∙ members-length vars places count h))
    (λ v d lt.
    let lt2 : v < length here = omega (arith, members-length here there after k) in
    let old_len = members-length vars places count h in
    member_at here there after v d k lt2 ∙ elim (cases_eq v w) [
      | inl e ↦ subst (λ (x : ℕ). ltb (get_or there x 0) after ≡ get_or (set (members vars places count) w b) x d) (sym e)
          (is ∙ sym (get_or-set_same (members vars places count) w b d (omega arith)))
      | inr ne ↦ each v (omega arith) ne ∙ sym (get_or-set_other (members vars places count) w v b d ne ∙ member_at vars places count v d h (omega arith))
    ])

module _ (vars places : List ℕ) (a : IsArranged vars places) (i j : ℕ) (hi : i < length vars) (hj : j < length vars) where
  abbrev moved : List ℕ
  moved = set (set places (get_or vars i 0) j) (get_or vars j 0) i

  -- where the two variables stand then, and all others
  pub moved_two : get_or moved (get_or vars j 0) 0 ≡ i
  moved_two = let b = (a.back j hj).0 in let r = a.room in
      get_or-set_same (set places (get_or vars i 0) j) (get_or vars j 0) i 0 (omega (arith, length-set places (get_or vars i 0) j))

  pub moved_one : get_or moved (get_or vars i 0) 0 ≡ j
  moved_one = elim (cases_eq (get_or vars i 0) (get_or vars j 0)) [
    | inl e ↦
        let same : i ≡ j = sym (a.back i hi).1 ∙ ap (λ (x : ℕ). get_or places x 0) e ∙ (a.back j hj).1 in
        ap (λ (x : ℕ). get_or moved x 0) e ∙ moved_two ∙ same
    | inr ne ↦
        let b = (a.back i hi).0 in let r = a.room in
        get_or-set_other (set places (get_or vars i 0) j) (get_or vars j 0) (get_or vars i 0) i 0 ne
        ∙ get_or-set_same places (get_or vars i 0) j 0 (omega arith)
  ]

  pub moved_other : (v : ℕ) → v ≢ get_or vars i 0 → v ≢ get_or vars j 0 → get_or moved v 0 ≡ get_or places v 0
  moved_other v ni nj = get_or-set_other (set places (get_or vars i 0) j) (get_or vars j 0) v i 0 nj ∙ get_or-set_other places (get_or vars i 0) v j 0 ni

  -- exchanging two of the set's variables, or two others, keeps the set
  pub members-exchange : (here there : List ℕ) (count : ℕ) → there ≡ moved → length here ≡ length vars → length here ≤ length there → i < count → j < count → members here there count ≡ members vars places count
  members-exchange here there count e size room li lj = members-same vars places here there count count size a.room room (λ v lt.
      ap (λ (x : List ℕ). ltb (get_or x v 0) count) e ∙ elim (cases_eq v (get_or vars j 0)) [
        | inl f ↦
            let new : get_or moved v 0 ≡ i = ap (λ (x : ℕ). get_or moved x 0) f ∙ moved_two in
            let old : get_or places v 0 ≡ j = ap (λ (x : ℕ). get_or places x 0) f ∙ (a.back j hj).1 in
            below (get_or moved v 0) count (omega arith) ∙ sym (below (get_or places v 0) count (omega arith))
        | inr nj ↦ elim (cases_eq v (get_or vars i 0)) [
          | inl f ↦
              let new : get_or moved v 0 ≡ j = ap (λ (x : ℕ). get_or moved x 0) f ∙ moved_one in
              let old : get_or places v 0 ≡ i = ap (λ (x : ℕ). get_or places x 0) f ∙ (a.back i hi).1 in
              below (get_or moved v 0) count (omega arith) ∙ sym (below (get_or places v 0) count (omega arith))
          | inr ni ↦ ap (λ (x : ℕ). ltb x count) (moved_other v ni nj)
        ]
      ])

  -- the first `j` and the variable that stood after them
  pub members-put : (here there : List ℕ) (v : ℕ) → there ≡ moved → length here ≡ length vars → length here ≤ length there → v < length vars → i ≡ get_or places v 0 → j ≤ i → members here there (j + 1) ≡ set (members vars places j) v true
  members-put here there v e size room lv is le =
      let v_is : get_or vars i 0 ≡ v = ap (λ (x : ℕ). get_or vars x 0) is ∙ (a.there v lv).1 in
      members-set vars places here there j (j + 1) v true size a.room room lv
      (ap (λ (x : List ℕ). ltb (get_or x v 0) (j + 1)) e ∙ below (get_or moved v 0) (j + 1) (let new : get_or moved v 0 ≡ j = ap (λ (x : ℕ). get_or moved x 0) (sym v_is) ∙ moved_one in omega arith))
      (λ u lt ne. ap (λ (x : List ℕ). ltb (get_or x u 0) (j + 1)) e ∙ elim (cases_eq u (get_or vars j 0)) [
        | inl f ↦
            let new : get_or moved u 0 ≡ i = ap (λ (x : ℕ). get_or moved x 0) f ∙ moved_two in
            let old : get_or places u 0 ≡ j = ap (λ (x : ℕ). get_or places x 0) f ∙ (a.back j hj).1 in
            let apart : i ≢ j = λ s. ne (f ∙ ap (λ (x : ℕ). get_or vars x 0) (sym s) ∙ v_is) in
            above (get_or moved u 0) (j + 1) (omega arith) ∙ sym (above (get_or places u 0) j (omega arith))
        | inr nj ↦
            let same : get_or moved u 0 ≡ get_or places u 0 = moved_other u (λ s. ne (s ∙ v_is)) nj in
            let off : get_or places u 0 ≢ j = λ s. nj (sym (a.there u lt).1 ∙ ap (λ (x : ℕ). get_or vars x 0) s) in
            ap (λ (x : ℕ). ltb x (j + 1)) same ∙ elim (cases_lt (get_or places u 0) j) [
              | inl lo ↦ below (get_or places u 0) (j + 1) (omega arith) ∙ sym (below (get_or places u 0) j lo)
              | inr hi ↦ above (get_or places u 0) (j + 1) (omega arith) ∙ sym (above (get_or places u 0) j hi)
            ]
      ])

  -- the last of the first `j + 1` in the place of the variable that is taken
  pub members-take : (here there : List ℕ) (v : ℕ) → there ≡ moved → length here ≡ length vars → length here ≤ length there → v ≡ get_or vars i 0 → i ≤ j → members here there j ≡ set (members vars places (j + 1)) v false
  members-take here there v e size room is le =
      let b = (a.back i hi).0 in
      members-set vars places here there (j + 1) j v false size a.room room (omega arith)
      (ap (λ (x : List ℕ). ltb (get_or x v 0) j) e ∙ above (get_or moved v 0) j (let new : get_or moved v 0 ≡ j = ap (λ (x : ℕ). get_or moved x 0) is ∙ moved_one in omega arith))
      (λ u lt ne. ap (λ (x : List ℕ). ltb (get_or x u 0) j) e ∙ elim (cases_eq u (get_or vars j 0)) [
        | inl f ↦
            let new : get_or moved u 0 ≡ i = ap (λ (x : ℕ). get_or moved x 0) f ∙ moved_two in
            let old : get_or places u 0 ≡ j = ap (λ (x : ℕ). get_or places x 0) f ∙ (a.back j hj).1 in
            let apart : i ≢ j = λ s. ne (f ∙ ap (λ (x : ℕ). get_or vars x 0) (sym s) ∙ sym is) in
            below (get_or moved u 0) j (omega arith) ∙ sym (below (get_or places u 0) (j + 1) (omega arith))
        | inr nj ↦
            let same : get_or moved u 0 ≡ get_or places u 0 = moved_other u (λ s. ne (s ∙ sym is)) nj in
            let off : get_or places u 0 ≢ j = λ s. nj (sym (a.there u lt).1 ∙ ap (λ (x : ℕ). get_or vars x 0) s) in
            ap (λ (x : ℕ). ltb x j) same ∙ elim (cases_lt (get_or places u 0) j) [
              | inl lo ↦ below (get_or places u 0) j lo ∙ sym (below (get_or places u 0) (j + 1) (omega arith))
              | inr hi ↦ above (get_or places u 0) j hi ∙ sym (above (get_or places u 0) (j + 1) (omega arith))
            ]
      ])

  pub taken_in : (count v : ℕ) → v ≡ get_or vars i 0 → i < count → IsIn (members vars places count) v
  taken_in count v is lt =
      let b = (a.back i hi).0 in
      let p : get_or places v 0 ≡ i = ap (λ (x : ℕ). get_or places x 0) is ∙ (a.back i hi).1 in
      member_at vars places count v false a.room (omega arith) ∙ below (get_or places v 0) count (omega arith)

-- a variable that is in the set already
pub members-again : (vars places : List ℕ) (count v : ℕ) → IsArranged vars places → v < length vars → get_or places v 0 < count → members vars places count ≡ set (members vars places count) v true
members-again vars places count v a lv lt = members-set vars places vars places count count v true refl a.room a.room lv (below (get_or places v 0) count lt) (λ u h ne. refl)

not_past : (vars places : List ℕ) (count v : ℕ) → length vars ≤ length places → IsIn (members vars places count) v → v < length vars
not_past vars places count v room h = elim (cases_lt v (length vars)) [
  | inl lt ↦ lt
  | inr ge ↦ absurd (false≢true (sym (get_or_past (members vars places count) v false (omega (arith, members-length vars places count room))) ∙ h))
]

pub members-none : (vars places : List ℕ) → length vars ≤ length places → IsEmpty (members vars places 0)
members-none vars places room v h =
    let lt = not_past vars places 0 v room h in
    let b = ltb-true (get_or places v 0) 0 (sym (member_at vars places 0 v false room lt) ∙ h) in
    omega arith

-- further variables, which are placed after
pub members-longer : (vars places here there : List ℕ) (count v : ℕ) → IsArranged vars places → IsArranged vars there → count ≤ length vars → take (length places) there ≡ places → length vars ≤ length here → length here ≤ length there
    → IsIn (members here there count) v ↔ IsIn (members vars places count) v
members-longer vars places here there count v a b le front longer room = (
  λ h.
      let lt : v < length here = not_past here there count v room h in
      let p = ltb-true (get_or there v 0) count (sym (member_at here there count v false room lt) ∙ h) in
      elim (cases_lt v (length vars)) [
        | inl lo ↦ member_at vars places count v false a.room lo ∙ ap (λ (x : ℕ). ltb x count) (sym (same lo)) ∙ below (get_or there v 0) count p
        | inr hi ↦ let own = b.beyond v hi (omega arith) in absurd (omega arith)
      ],
  λ h.
      let lt : v < length vars = not_past vars places count v a.room h in
      let p = ltb-true (get_or places v 0) count (sym (member_at vars places count v false a.room lt) ∙ h) in
      member_at here there count v false room (omega arith) ∙ ap (λ (x : ℕ). ltb x count) (same lt) ∙ below (get_or places v 0) count p,
)
  where
    same : v < length vars → get_or there v 0 ≡ get_or places v 0
    same lt = let r = a.room in sym (get_or-take (length places) there v 0 (omega arith)) ∙ ap (λ (x : List ℕ). get_or x v 0) front
