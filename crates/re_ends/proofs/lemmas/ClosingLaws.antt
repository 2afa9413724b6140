-- Pieces of groups, and the groups that a step back closes.
use Rattle.{re_ends.{proofs.{Prelude.{◌≡◌, ℕ, zero, suc, ◌+◌, ◌-◌, ◌*◌, ◌/◌, ◌<◌, ◌≤◌, inl, inr, ◌⊎◌, ◌↔◌, List, [], ◌∷◌, ◌++◌, length, length-append, set, true, false, get_or, get_or-set_other, get_or-set_same, slice_index, get_or_append_left, refl, sym, subst, ap, ◌∙◌, arith, cases_lt, false≢true, Expression, Has, part_of, positions}, lemmas.ListLaws.end_cases}, specs.{Working.{Groups.{group_of, half_of, AreFull, AreGroupsFor, AreInTurn, Grow, HasGroups, In, IsRow, IsStep, Names}, Closing.{AreClosed, AreMembers, AreMet, AreNoneMet, Byte, CanEnd, IsClosed, Takes}}, declared.groups.Groups.Groups}}, std.{specs.{Prelude.{◌%◌, ◌^◌, bit_and, Vec}, Int.{bit_at, bit_not, w64}, List.{AllByRecursion, IsDistinct, list_any}, declared.alloc.Global.Global}, proofs.{lemmas.{Nat.{Bits.{bit_at-lt, bit_at-trailing_zeros, bit_at-zero, bit_at_above, bit_at_and, bit_at_cat_high, bit_at_cat_low, bit_at_not}, and_le_l}, Bool.{cases_eq, ne_eqb, Decides.eqb_tells}, Map.Steps.length-le_from_distinct_below}, Math.{Dec.eqb, Seq.get_or-append_seam}}}, re_auto.{proofs.lemmas.{BitLemmas.at_word, Numbered.part_numbered}, specs.{declared.ranges.WordRange.WordRange, Working.Ranges.Covers}}}

-- numbers below n, each once, are n at most
others : (x : ℕ) (xs : List ℕ) → ((j : ℕ) → j < length xs → x ≡ slice_index xs j → ⊥) → AllByRecursion (λ y. eqb x y ≡ false) xs
others x [] none = tt
others x (y ∷ ys) none = (ne_eqb x y (none 0 (omega arith)), others x ys (λ j lt. none (suc j) (omega (arith, lt))))

distinct : (xs : List ℕ) → ((i j : ℕ) → i < j → j < length xs → slice_index xs i ≡ slice_index xs j → ⊥) → IsDistinct eqb xs
unfolding IsDistinct
distinct [] _ = tt
distinct (x ∷ xs) apart = (others x xs (λ j lt. apart 0 (suc j) (omega arith) (omega (arith, lt))), distinct xs (λ i j less lt. apart (suc i) (suc j) (omega (arith, less)) (omega (arith, lt))))

below : (n : ℕ) (xs : List ℕ) → ((j : ℕ) → j < length xs → slice_index xs j < n) → (q : ℕ) → list_any (eqb q) xs ≡ true → q < n
below n [] _ q h = absurd (false≢true h)
below n (x ∷ xs) small q h = elim (eqb_tells q x) [
  | inl same ↦ rw same.1 (small 0 (omega arith))
  | inr other ↦ below n xs (λ j lt. small (suc j) (omega (arith, lt))) q (rw other.0 at h)
]

-- each piece has a position
pub member : (row : List ℕ) → AreFull row → (i : ℕ) → i < length row → (q : ℕ) × In row (group_of (slice_index row i)) q
member _ full i lt = let (q, names) = full i lt in (q, (i, lt, refl, names))

one_more : (x : ℕ) (xs : List ℕ) (q : ℕ) (qs : List ℕ) → Names x q → ((i : ℕ) → i < length xs → Names (slice_index xs i) (slice_index qs i)) → (i : ℕ) → i < suc (length xs) → Names (slice_index (x ∷ xs) i) (slice_index (q ∷ qs) i)
one_more x _ q _ names _ zero _ = names
one_more x xs q qs names rest (suc i) lt = rest i (omega (arith, lt))

witnesses : (row : List ℕ) → AreFull row → (qs : List ℕ) × (length qs ≡ length row) × ((i : ℕ) → i < length row → Names (slice_index row i) (slice_index qs i))
witnesses [] full = ([], refl, λ i lt. absurd (omega (arith, lt)))
witnesses (x ∷ xs) full =
    let (q, names) = full 0 (omega arith) in
    let (qs, long, rest) = witnesses xs (λ i lt. full (suc i) (omega (arith, lt))) in (q ∷ qs, ap suc long, one_more x xs q qs names rest)

few_pieces : (n : ℕ) {g : ℕ} {row : List ℕ} → AreMembers g row → ((j q : ℕ) → In row j q → q < n) → length row ≤ n
few_pieces n {row = row} made small =
    let (qs, long, at) = witnesses row made.full in
    rw (← long) (length-le_from_distinct_below qs n
    (distinct qs (λ i j less lt same. made.apart i j less (rw long at lt) _ (at i (omega (arith, less, lt, long))) (rw same (at j (rw long at lt)))))
    (below n qs (λ j lt. small _ _ (j, rw long at lt, refl, at j (rw long at lt)))))

-- one piece more
module _ (piece : ℕ) (row : List ℕ) where
  long : length (row ++ piece ∷ []) ≡ length row + 1
  long = length-append row (piece ∷ [])

  at_old : (i : ℕ) → i < length row → slice_index (row ++ piece ∷ []) i ≡ slice_index row i
  at_old i lt = get_or_append_left row (piece ∷ []) 0 i lt

  pub in_pushed : (j q : ℕ) → In (row ++ piece ∷ []) j q ↔ (In row j q ⊎ (j ≡ group_of piece) × Names piece q)
  in_pushed j q = (
    (λ (i, lt, is, names). elim (end_cases _ _ i lt) [
      | inl (less, old) ↦ inl (i, less, ap group_of (sym old) ∙ is, rw old at names)
      | inr (last, value) ↦ inr (sym is ∙ ap group_of value, rw value at names)
    ]),
    (λ h. elim h [
      | inl (i, lt, is, names) ↦ (i, omega (arith, lt, long), ap group_of (at_old i lt) ∙ is, rw (at_old i lt) names)
      | inr (same, names) ↦ let at_last = get_or-append_seam row piece [] 0 in (length row, omega (arith, long), ap group_of at_last ∙ sym same, rw at_last names)
    ]),
  )

  module _ (made : AreMembers (group_of piece) row) (fresh : (j q : ℕ) → Names piece q → In row j q → ⊥) (some : (q : ℕ) × Names piece q) where
    pub pushed : AreMembers (group_of piece) (row ++ piece ∷ [])
    pushed = record {
      in_turn = λ i j before lt. elim (end_cases _ _ j lt) [
        | inl (old, b) ↦ let a = at_old i (omega (arith, before, old)) in let le = made.in_turn i j before old in omega (arith, a, b, le)
        | inr (last, value) ↦ let a = at_old i (omega (arith, before, last)) in let (q, here) = member row made.full i (omega (arith, before, last)) in let le = made.last _ q here in omega (arith, a, value, le)
      ];
      last = λ j q h. elim ((in_pushed j q).0 h) [ inl old ↦ made.last j q old | inr same ↦ omega (arith, same.0) ];
      full = λ i lt. elim (end_cases _ _ i lt) [
        | inl (old, b) ↦ let (q, names) = made.full i old in (q, rw b names)
        | inr (last, value) ↦ (some.0, rw value some.1)
      ];
      apart = λ i j before lt q here there. elim (end_cases _ _ j lt) [
        | inl (old, b) ↦ made.apart i j before old q (rw (at_old i (omega (arith, before, old))) at here) (rw b at there)
        | inr (last, value) ↦ let less : i < length row = omega (arith, before, last) in fresh _ q (rw value at there) (i, less, refl, rw (at_old i less) at here)
      ];
    }

    pub has_room : (n : ℕ) → ((q : ℕ) → Names piece q → q < n) → ((j q : ℕ) → In row j q → q < n) → length row < n
    has_room n less small_row =
        let few = few_pieces n pushed (λ j q h. elim ((in_pushed j q).0 h) [ inl old ↦ small_row j q old | inr same ↦ less q same.1 ]) in
        omega (arith, few, long)

-- the members of a piece are those of its half
module _ (piece : ℕ) where
  pub low_members : (half_of piece % 2 ≡ 0) → (b : ℕ) → b < 64 → (bit_at (piece % 2 ^ 32) b ≡ 1) ↔ Names piece (half_of piece / 2 * 64 + b)
  low_members even b lt = elim (cases_lt b 32) [
    | inl low ↦ let at : (half_of piece / 2 * 64 + b) % 32 ≡ b = omega (arith, low) in ((λ h. (omega (arith, even, low), ap (bit_at (piece % 2 ^ 32)) at ∙ h)), (λ h. sym (ap (bit_at (piece % 2 ^ 32)) at) ∙ h.1))
    | inr high ↦ ((λ h. absurd (let none = bit_at_above (piece % 2 ^ 32) 32 b (omega arith) high in omega (arith, none, h))), (λ h. let half = h.0 in absurd (omega (arith, half, even, high, lt))))
  ]

  pub high_members : (half_of piece % 2 ≡ 1) → (b : ℕ) → b < 64 → (bit_at (piece % 2 ^ 32 * 2 ^ 32) b ≡ 1) ↔ Names piece (half_of piece / 2 * 64 + b)
  high_members odd b lt =
      let plus : piece % 2 ^ 32 * 2 ^ 32 ≡ piece % 2 ^ 32 * 2 ^ 32 + 0 = omega arith in
      elim (cases_lt b 32) [
        | inl low ↦
            let none = ap (λ x. bit_at x b) plus ∙ bit_at_cat_low (piece % 2 ^ 32) 32 0 b low in
            ((λ h. absurd (omega (arith, h, none, bit_at-zero b))), (λ h. let half = h.0 in absurd (omega (arith, half, odd, low))))
        | inr high ↦
            let at : (half_of piece / 2 * 64 + b) % 32 ≡ b - 32 = omega (arith, high, lt) in
            let is = ap (λ x. bit_at x b) plus ∙ bit_at_cat_high (piece % 2 ^ 32) 32 0 b (omega arith) high ∙ sym (ap (bit_at (piece % 2 ^ 32)) at) in
            ((λ h. (omega (arith, odd, high, lt), sym is ∙ h)), (λ h. is ∙ h.1))
      ]

  -- what holds of one of them holds of a bit of its word
  pub piece_members : (members k : ℕ) → k ≡ half_of piece / 2 → ((b : ℕ) → b < 64 → (bit_at members b ≡ 1) ↔ Names piece (half_of piece / 2 * 64 + b)) → (R : ℕ → Type 0) →
      ((b : ℕ) × (b < 64) × (bit_at members b ≡ 1) × R (k * 64 + b)) ↔ ((r : ℕ) × Names piece r × R r)
  piece_members members k word are R = (
    (λ (b, lt, bit, holds). (k * 64 + b, rw word ((are b lt).0 bit), holds)),
    (λ (r, names, holds).
        let at : r ≡ k * 64 + r % 64 = (let half = names.0 in omega (arith, word, half)) in
        (r % 64, omega arith, (are (r % 64) (omega arith)).1 (rw (at ∙ ap (λ n. n * 64 + r % 64) word) at names), subst R at holds)),
  )

-- the group, the half and the members of a piece
pub piece_names : (piece g half low : ℕ) → piece ≡ g * 2 ^ 48 + half * 2 ^ 32 + low → half < 65536 → low < 4294967296 → (q : ℕ) → Names piece q ↔ ((q / 32 ≡ half) × (bit_at low (q % 32) ≡ 1))
piece_names piece g half low is few small q =
    let at : half_of piece ≡ half = omega (arith, is, few, small) in
    let bits : piece % 2 ^ 32 ≡ low = omega (arith, is, small) in
    let same = ap (λ x. bit_at x (q % 32)) bits in
    ((λ h. (sym h.0 ∙ at, sym same ∙ h.1)), (λ h. (at ∙ sym h.0, same ∙ h.1)))

-- a word is its two halves
pub halves : (k word q : ℕ) → word < 2 ^ 64 →
    (((q / 32 ≡ k * 2) × (bit_at (word % 2 ^ 32) (q % 32) ≡ 1)) ⊎ ((q / 32 ≡ k * 2 + 1) × (bit_at (word / 2 ^ 32) (q % 32) ≡ 1))) ↔ ((b : ℕ) × (b < 64) × (bit_at word b ≡ 1) × (q ≡ k * 64 + b))
halves k word q fits =
    let is : word ≡ word / 2 ^ 32 * 2 ^ 32 + word % 2 ^ 32 = omega arith in (
      (λ h. elim h [
        | inl (half, bit) ↦ (q % 32, omega arith, ap (λ x. bit_at x (q % 32)) is ∙ bit_at_cat_low (word / 2 ^ 32) 32 (word % 2 ^ 32) (q % 32) (omega arith) ∙ bit, omega (arith, half))
        | inr (half, bit) ↦
            let at : q % 32 + 32 - 32 ≡ q % 32 = omega arith in
            (q % 32 + 32, omega arith, ap (λ x. bit_at x (q % 32 + 32)) is ∙ bit_at_cat_high (word / 2 ^ 32) 32 (word % 2 ^ 32) (q % 32 + 32) (omega arith) (omega arith) ∙ ap (bit_at (word / 2 ^ 32)) at ∙ bit, omega (arith, half))
      ]),
      (λ (b, lt, bit, same). elim (cases_lt b 32) [
        | inl low ↦
            let at : q % 32 ≡ b = omega (arith, same, low) in
            inl (omega (arith, same, low), ap (bit_at (word % 2 ^ 32)) at ∙ sym (bit_at_cat_low (word / 2 ^ 32) 32 (word % 2 ^ 32) b low) ∙ sym (ap (λ x. bit_at x b) is) ∙ bit)
        | inr high ↦
            let at : q % 32 ≡ b - 32 = omega (arith, same, high, lt) in
            inr (omega (arith, same, high, lt), ap (bit_at (word / 2 ^ 32)) at ∙ sym (bit_at_cat_high (word / 2 ^ 32) 32 (word % 2 ^ 32) b (omega arith) high) ∙ sym (ap (λ x. bit_at x b) is) ∙ bit)
      ]),
    )

-- a number that is not 0 has a bit, here at its lowest
pub some_bit : (x : ℕ) → (x ≡ 0 → ⊥) → x < 2 ^ 64 → (b : ℕ) × (b < 64) × (bit_at x b ≡ 1)
some_bit x some fits = let found = bit_at-trailing_zeros w64 x (omega (arith, some)) fits in (_, found.0, found.1)

-- a piece whose members are not 0 has a position
pub some_member : (piece : ℕ) → (piece % 2 ^ 32 ≡ 0 → ⊥) → (q : ℕ) × Names piece q
some_member piece some =
    let (b, lt, bit) = some_bit (piece % 2 ^ 32) some (omega arith) in
    elim (cases_lt b 32) [
      | inl low ↦ let at : (half_of piece * 32 + b) % 32 ≡ b = omega (arith, low) in (half_of piece * 32 + b, (omega (arith, low), ap (bit_at (piece % 2 ^ 32)) at ∙ bit))
      | inr high ↦ absurd (let none = bit_at_above (piece % 2 ^ 32) 32 b (omega arith) high in omega (arith, none, bit))
    ]

-- a word has a number in common with a set exactly where the two words are not 0 together
module _ (members : ℕ) (set : List ℕ) (k : ℕ) where
  pub some_common : (bit_and members (get_or set k 0) ≡ 0 → ⊥) → members < 2 ^ 64 → (b : ℕ) × (b < 64) × (bit_at members b ≡ 1) × Has set (k * 64 + b)
  some_common some fits =
      let (b, lt, bit) = some_bit (bit_and members (get_or set k 0)) some (omega (arith, fits, and_le_l members (get_or set k 0))) in
      let both = bit_at_and members (get_or set k 0) b in
      (b, lt, omega (arith, bit, both, bit_at-lt members b, bit_at-lt (get_or set k 0) b), (at_word set k b lt).1 (omega (arith, bit, both, bit_at-lt members b, bit_at-lt (get_or set k 0) b)))

  pub none_common : bit_and members (get_or set k 0) ≡ 0 → (b : ℕ) → b < 64 → bit_at members b ≡ 1 → Has set (k * 64 + b) → ⊥
  none_common none b lt bit here =
      let both = bit_at_and members (get_or set k 0) b in
      let in_set = (at_word set k b lt).0 here in
      omega (arith, bit, in_set, both, ap (λ x. bit_at x b) none, bit_at-zero b)

-- the common members of word k of two sets are taken out of both
module _ (met left : List ℕ) (k : ℕ) where
  pub in_word : (b : ℕ) → b < 64 → (bit_at (bit_and (get_or met k 0) (get_or left k 0)) b ≡ 1) ↔ (Has met (k * 64 + b) × Has left (k * 64 + b))
  in_word b lt =
      let is = bit_at_and (get_or met k 0) (get_or left k 0) b in
      let m = bit_at-lt (get_or met k 0) b in
      let l = bit_at-lt (get_or left k 0) b in
      let in_met = at_word met k b lt in
      let in_left = at_word left k b lt in (
        (λ h. (in_met.1 (omega (arith, h, is, m, l)), in_left.1 (omega (arith, h, is, m, l)))),
        (λ h. let a = in_met.0 h.0 in let b = in_left.0 h.1 in omega (arith, a, b, is)),
      )

  pub met_now : k < length met → (q : ℕ) → Has (set met k 0) q ↔ (Has met q × (q / 64 ≡ k → ⊥))
  unfolding Has
  met_now room q = elim (cases_eq (q / 64) k) [
    | inl same ↦
        let none : get_or (set met k 0) (q / 64) 0 ≡ 0 = rw same (get_or-set_same met k 0 0 room) in
        ((λ h. absurd (let zero = ap (λ x. bit_at x (q % 64)) none in omega (arith, h, zero, bit_at-zero (q % 64)))), (λ h. absurd (h.1 same)))
    | inr other ↦ let same = ap (λ x. bit_at x (q % 64)) (get_or-set_other met k (q / 64) 0 0 other) in ((λ h. (sym same ∙ h, other)), (λ h. same ∙ h.0))
  ]

  pub left_now : bit_and (get_or met k 0) (get_or left k 0) < 2 ^ 64 → k < length left → (q : ℕ) →
      Has (set left k (bit_and (get_or left k 0) (bit_not w64 (bit_and (get_or met k 0) (get_or left k 0))))) q ↔ (Has left q × (q / 64 ≡ k → Has met q → ⊥))
  unfolding Has
  left_now fits room q = elim (cases_eq (q / 64) k) [
    | inl same ↦
        let x = bit_and (get_or left k 0) (bit_not w64 (bit_and (get_or met k 0) (get_or left k 0))) in
        let at : bit_at (get_or (set left k x) (q / 64) 0) (q % 64) ≡ bit_at x (q % 64) = ap (λ y. bit_at y (q % 64)) (rw same (get_or-set_same left k x 0 room)) in
        let was = ap (λ j. bit_at (get_or left j 0) (q % 64)) same in
        let other = ap (λ j. bit_at (get_or met j 0) (q % 64)) same in
        let both = bit_at_and (get_or left k 0) (bit_not w64 (bit_and (get_or met k 0) (get_or left k 0))) (q % 64) in
        let not = bit_at_not w64 (bit_and (get_or met k 0) (get_or left k 0)) (q % 64) fits (omega arith) in
        let word = bit_at_and (get_or met k 0) (get_or left k 0) (q % 64) in
        let m = bit_at-lt (get_or met k 0) (q % 64) in
        let l = bit_at-lt (get_or left k 0) (q % 64) in (
          (λ h. (omega (arith, h, at, was, both, not, word, m, l), λ same met. omega (arith, h, at, other, met, both, not, word, m, l))),
          (λ h. elim (cases_eq (bit_at (get_or met k 0) (q % 64)) 1) [
            | inl is ↦ absurd (h.1 same (other ∙ is))
            | inr none ↦ let here = h.0 in omega (arith, here, at, was, both, not, word, m, l, none)
          ]),
        )
    | inr other ↦
        let same = ap (λ y. bit_at y (q % 64)) (get_or-set_other left k (q / 64) (bit_and (get_or left k 0) (bit_not w64 (bit_and (get_or met k 0) (get_or left k 0)))) 0 other) in
        ((λ h. (sym same ∙ h, λ is met. other is)), (λ h. same ∙ h.0))
  ]

-- there are no more groups than pieces
pub few_groups : (row : List ℕ) (count : ℕ) → AreInTurn row → HasGroups row count → count ≤ length row
few_groups row count turn groups = elim (cases_lt 0 count) [
  | inl some ↦ let (q, (i, lt, is, at)) = (groups (count - 1)).0 (omega (arith, some)) in let low = at_least (count - 1) (omega (arith, some)) i lt is in omega (arith, low, lt)
  | inr none ↦ omega (arith, none)
]
  where
    at_least : (k : ℕ) → k < count → (i : ℕ) → i < length row → group_of (slice_index row i) ≡ k → k ≤ i
    at_least zero less i lt is = omega arith
    at_least (suc k) less i lt is =
        let (q, (j, below, was, at)) = (groups k).0 (omega (arith, less)) in
        let low = at_least k (omega (arith, less)) j below was in
        elim (cases_lt j i) [
          | inl before ↦ omega (arith, low, before)
          | inr after ↦ elim (cases_eq i j) [
            | inl same ↦ absurd (let both = ap (λ n. group_of (slice_index row n)) same in omega (arith, both, is, was))
            | inr other ↦ absurd (let le = turn i j (omega (arith, after, other)) below in omega (arith, le, is, was))
          ]
        ]

-- the group of the last member is the last that has one
pub group_last : {g : ℕ} {row : List ℕ} → AreMembers g row → 0 < length row → (q : ℕ) → In row g q → group_of (slice_index row (length row - 1)) ≡ g
group_last {row = row} made some q (i, lt, is, at) =
    let le = made.last _ _ (member row made.full (length row - 1) (omega (arith, some))).1 in
    elim (cases_lt i (length row - 1)) [
      | inl less ↦ let low = made.in_turn i (length row - 1) less (omega (arith, some)) in omega (arith, le, low, is)
      | inr ge ↦ ap (λ n. group_of (slice_index row n)) (let same : length row - 1 ≡ i = omega (arith, lt, ge) in same) ∙ is
    ]

-- members are positions of the expression, and no more than these
module _ {b : Byte} {k : ℕ} {left kept row : List ℕ} (closed : IsClosed b k left kept row) where
  pub small_left : (q : ℕ) → Has left q → q < positions b.e
  small_left q h = let less = (part_numbered b.e 0).takes q b.code (closed.ready q h).0 in omega (arith, less.1)

  pub small_in : (j q : ℕ) → In row j q → q < positions b.e
  small_in j q h = let less = (part_numbered b.e 0).takes q b.code (closed.members j q h).0 in omega (arith, less.1)

  pub few_closed : length row ≤ positions b.e
  few_closed = few_pieces _ closed.made_of small_in

  pub few_kept : length kept ≤ length row
  few_kept = few_groups _ _ closed.made_of.in_turn closed.made

is_in : (set : List ℕ) (q : ℕ) → Has set q ⊎ (Has set q → ⊥)
unfolding Has
is_in set q = cases_eq (bit_at (slice_index set (q / 64)) (q % 64)) 1

-- one group more is closed
module _ {b : Byte} {k : ℕ} {left kept row : List ℕ} (met left' : List ℕ) {row' : List ℕ} (was : IsClosed b k left kept row) (is : (q : ℕ) → Has met q ↔ CanEnd b k q)
    (left_is : (q : ℕ) → Has left' q ↔ (Has left q × (Has met q → ⊥))) (added : (j q : ℕ) → In row' j q ↔ (In row j q ⊎ (j ≡ length kept) × Has met q × Has left q))
    (made : AreMembers (length kept) row') where
  in_kept : (j q : ℕ) → In row j q → j < length kept
  in_kept j q here = (was.made j).1 (q, here)

  new : (q : ℕ) → Has met q → Has left q → In row' (length kept) q
  new q m l = (added (length kept) q).1 (inr (refl, m, l))

  closed_with : (kept' : List ℕ) → ((j : ℕ) → j < length kept → slice_index kept' j ≡ slice_index kept j) → ((q : ℕ) → In row' (length kept) q → slice_index kept' (length kept) ≡ k) → Grow kept' → ((j : ℕ) → j < length kept' → slice_index kept' j < suc k) → HasGroups row' (length kept') → AreMembers (length kept') row' → IsClosed b (suc k) left' kept' row'
  closed_with kept' old last grow below groups members = record {
    ready = λ q h. let (l, none) = (left_is q).0 h in let t = was.ready q l in (t.0, λ j here. elim ((added j q).0 here) [ inl had ↦ t.1 j had | inr more ↦ none more.1 ]);
    others = λ q t. elim (was.others q t) [
      | inl l ↦ elim (is_in met q) [ inl m ↦ inr (length kept, new q m l) | inr none ↦ inl ((left_is q).1 (l, none)) ]
      | inr (j, here) ↦ inr (j, (added j q).1 (inl here))
    ];
    grow = grow;
    below = below;
    members = λ j q h. elim ((added j q).0 h) [
      | inl had ↦ let t = was.members j q had in (t.0, rw (old j (in_kept j q had)) t.1)
      | inr (same, m, l) ↦ ((was.ready q l).0, rw (ap (slice_index kept') same ∙ last q (new q m l)) ((is q).0 m))
    ];
    all = λ i q lt t can. elim (cases_lt i k) [
      | inl less ↦ let (j, le, here) = was.all i q less t can in (j, omega (arith, le, old j (in_kept j q here)), (added j q).1 (inl here))
      | inr ge ↦ elim (was.others q t) [
        | inl l ↦ let here = new q ((is q).1 (rw (let same : i ≡ k = omega (arith, lt, ge) in same) at can)) l in (length kept, omega (arith, last q here, ge), here)
        | inr (j, here) ↦ (j, (let less = was.below j (in_kept j q here) in omega (arith, less, ge, old j (in_kept j q here))), (added j q).1 (inl here))
      ]
    ];
    made = groups;
    made_of = members;
  }

  pub closed_none : ((q : ℕ) × In row' (length kept) q → ⊥) → IsClosed b (suc k) left' kept row'
  closed_none none = closed_with kept (λ j lt. refl) (λ q h. absurd (none (q, h))) was.grow (λ j lt. let less = was.below j lt in omega (arith, less)) (λ j. (
    (λ lt. let (q, here) = (was.made j).0 lt in (q, (added j q).1 (inl here))),
    (λ (q, h). elim ((added j q).0 h) [ inl had ↦ in_kept j q had | inr more ↦ absurd (none (q, new q more.1 more.2)) ]),
  )) made

  pub closed_some : (q : ℕ) → In row' (length kept) q → IsClosed b (suc k) left' (kept ++ k ∷ []) row'
  closed_some p last =
      let old : (j : ℕ) → j < length kept → slice_index (kept ++ k ∷ []) j ≡ slice_index kept j = λ j lt. get_or_append_left kept (k ∷ []) 0 j lt in
      closed_with _ old (λ q h. get_or-append_seam kept k [] 0) (λ i j before lt. elim (end_cases kept k j lt) [
        | inl (less, at) ↦ let more = was.grow i j before less in omega (arith, more, old i (omega (arith, before, less)), at)
        | inr (same, at) ↦ let more = was.below i (omega (arith, before, same)) in omega (arith, more, at, old i (omega (arith, before, same)))
      ]) (λ j lt. elim (end_cases kept k j lt) [ inl (less, at) ↦ let more = was.below j less in omega (arith, more, at) | inr (same, at) ↦ omega (arith, at) ])
      (λ j. (
        (λ lt. elim (end_cases kept k j lt) [
          | inl (less, at) ↦ let (q, here) = (was.made j).0 less in (q, (added j q).1 (inl here))
          | inr (same, at) ↦ (p, rw same last)
        ]),
        (λ (q, h). let le = made.last j q h in omega (arith, le, length-append kept (k ∷ []))),
      )) (record { in_turn = made.in_turn; last = λ j q h. (let le = made.last j q h in omega (arith, le, length-append kept (k ∷ []))); full = made.full; apart = made.apart })

-- groups that nothing can have the end of are closed
pub skip : {b : Byte} {k : ℕ} {left kept row : List ℕ} (k' : ℕ) → IsClosed b k left kept row → k ≤ k' → ((i q : ℕ) → k ≤ i → i < k' → CanEnd b i q → ⊥) → IsClosed b k' left kept row
skip {k = k} k' was le none = record {
  ready = was.ready;
  others = was.others;
  grow = was.grow;
  below = λ j lt. let less = was.below j lt in omega (arith, less, le);
  members = was.members;
  all = λ i q lt t can. elim (cases_lt i k) [ inl less ↦ was.all i q less t can | inr ge ↦ absurd (none i q ge lt can) ];
  made = was.made;
  made_of = was.made_of;
}

-- where all members of a group were met, those that can have its end are marked
module _ {b : Byte} {i group : ℕ} {range : WordRange} {groups : Groups} (m : AreMet b i group range groups) where
  pub group_below : (k q : ℕ) → In b.after k q → k < b.count
  group_below k q h = (m.count k).1 (q, h)

  pub is_met : ((j : ℕ) → i ≤ j → j < length b.after → group < group_of (slice_index b.after j)) → group < b.count → (q : ℕ) → Has groups.met.items q ↔ CanEnd b group q
  is_met over lt q = (
    (λ h. let (j, before, is, (r, names, follow)) = (m.met q).0 h in inl (r, follow, (j, omega (arith, before, m.within), is, names))),
    (λ h. elim h [
      | inl (r, follow, (j, less, is, names)) ↦ elim (cases_lt j i) [
        | inl before ↦ (m.met q).1 (j, before, is, (r, names, follow))
        | inr ge ↦ absurd (let more = over j ge less in omega (arith, more, is))
      ]
      | inr (same, ends) ↦ absurd (omega (arith, same, lt))
    ]),
  )

  -- the next piece is in another group: this one is closed
  module _ (lt : i < length b.after) (other : group_of (slice_index b.after i) ≡ group → ⊥) where
    pub later : (j : ℕ) → i ≤ j → j < length b.after → group < group_of (slice_index b.after j)
    later j ge less =
        let here = m.reached i (omega arith) lt in
        elim (cases_lt i j) [
          | inl after ↦ let le = m.row.in_turn i j after less in omega (arith, here, other, le)
          | inr last ↦ rw (← (let same : i ≡ j = omega (arith, ge, last) in same)) (omega (arith, here, other))
        ]

    pub below_count : group < b.count
    below_count = let less = group_below _ _ (member _ m.row.full i lt).1 in let more = later i (omega arith) lt in omega (arith, less, more)

    pub turned : (now : Groups) → AreGroupsFor b.e now → ((q : ℕ) → Has now.met.items q → ⊥) → AreClosed b (suc group) now →
        AreMet b i (group_of (slice_index b.after i)) (record { first = 0; past = 0 }) now
    turned now made none closed = record {
      made = made;
      row = m.row;
      count = m.count;
      within = m.within;
      covers = record { ordered = omega arith; within = omega arith; members = λ q h. absurd (none q h) };
      over = λ j before. let le = m.over j before in let more = later i (omega arith) lt in omega (arith, le, more);
      reached = λ j ge less. elim (cases_lt i j) [
        | inl after ↦ m.row.in_turn i j after less
        | inr last ↦ rw (← (let same : i ≡ j = omega (arith, ge, last) in same)) (omega arith)
      ];
      met = λ q. ((λ h. absurd (none q h)), (λ (j, before, is, follow). absurd (let le = m.over j before in let more = later i (omega arith) lt in omega (arith, le, more, is))));
      closed = (
        skip _ closed.0 (let more = later i (omega arith) lt in more)
            (λ k q low high can. elim can [
              | inl (r, follow, (j, less, is, at)) ↦ elim (cases_lt j i) [
                | inl before ↦ let le = m.over j before in omega (arith, le, is, low)
                | inr ge ↦ elim (cases_lt i j) [
                  | inl after ↦ let le = m.row.in_turn i j after less in omega (arith, le, is, high)
                  | inr last ↦ let same = ap (λ n. group_of (slice_index b.after n)) (let e : i ≡ j = omega (arith, ge, last) in e) in omega (arith, same, is, high)
                ]
              ]
              | inr (same, ends) ↦ let less = group_below _ _ (member _ m.row.full i lt).1 in omega (arith, same, less, high)
            ]),
        closed.1,
      );
    }

  -- the next piece is met
  pub met_next : (lt : i < length b.after) → group_of (slice_index b.after i) ≡ group → (now : Groups) (range' : WordRange) → AreGroupsFor b.e now → AreClosed b group now → Covers range' now.met.items →
      ((p : ℕ) → Has now.met.items p ↔ (Has groups.met.items p ⊎ ((r : ℕ) × Names (slice_index b.after i) r × (part_of b.e 0).follow p r))) → AreMet b (i + 1) group range' now
  met_next lt same now range' made closed covers added = record {
    made = made;
    row = m.row;
    count = m.count;
    within = omega (arith, lt);
    covers = covers;
    over = λ j before. elim (cases_lt j i) [ inl less ↦ m.over j less | inr ge ↦ rw (← (let e : i ≡ j = omega (arith, before, ge) in e)) (omega (arith, same)) ];
    reached = λ j ge less. m.reached j (omega (arith, ge)) less;
    met = λ q. (
      (λ h. elim ((added q).0 h) [ inl old ↦ let (j, before, is, follow) = (m.met q).0 old in (j, omega (arith, before), is, follow) | inr follow ↦ (i, omega arith, same, follow) ]),
      (λ (j, before, is, follow). (added q).1 (elim (cases_lt j i) [
        | inl less ↦ inl ((m.met q).1 (j, less, is, follow))
        | inr ge ↦ inr (rw (let e : j ≡ i = omega (arith, before, ge) in e) at follow)
      ])),
    );
    closed = closed;
  }

  -- all pieces were met
  pub all_met : i ≡ length b.after → 0 < i → group_of (slice_index b.after (i - 1)) ≡ group → b.count ≡ suc group
  all_met end some last =
      let less = group_below _ _ (member b.after m.row.full (i - 1) (omega (arith, end, some))).1 in
      elim (cases_lt (suc group) b.count) [
        | inl more ↦ absurd (let (q, (j, within, is, at)) = (m.count (suc group)).0 more in let le = m.over j (omega (arith, within, end)) in omega (arith, le, is))
        | inr ge ↦ omega (arith, ge, less, last)
      ]

-- before the first group is closed, all that take the byte are left
pub none_closed : (b : Byte) (left : List ℕ) {kept row : List ℕ} → ((q : ℕ) → Has left q ↔ Takes b q) → kept ≡ [] → row ≡ [] → IsClosed b 0 left kept row
none_closed b left {kept} {row} is no_kept no_row =
    let none : (j q : ℕ) → In row j q → ⊥ = λ j q (i, lt, same, at). omega (arith, lt, ap length no_row) in
    let no_number : (j : ℕ) → j < length kept → ⊥ = λ j lt. omega (arith, lt, ap length no_kept) in
    record {
      ready = λ q h. ((is q).0 h, λ j. none j q);
      others = λ q t. inl ((is q).1 t);
      grow = λ j k before lt. absurd (no_number k lt);
      below = λ j lt. absurd (no_number j lt);
      members = λ j q here. absurd (none j q here);
      all = λ i q lt t can. absurd (omega (arith, lt));
      made = λ k. ((λ lt. absurd (no_number k lt)), (λ (q, here). absurd (none k q here)));
      made_of = record { in_turn = λ i j before lt. absurd (omega (arith, lt, ap length no_row)); last = λ j q here. absurd (none j q here); full = λ i lt. absurd (omega (arith, lt, ap length no_row)); apart = λ i j before lt. absurd (omega (arith, lt, ap length no_row)) };
    }

pub start : (b : Byte) (groups : Groups) → AreGroupsFor b.e groups → IsRow (positions b.e) b.after → HasGroups b.after b.count → ((q : ℕ) → Has groups.met.items q → ⊥) →
    AreClosed b 0 groups → AreNoneMet b groups
start b groups made row count none closed = record {
  made = made;
  row = row;
  count = count;
  within = omega arith;
  covers = record { ordered = omega arith; within = omega arith; members = λ q h. absurd (none q h) };
  over = λ j before. absurd (omega (arith, before));
  reached = λ j ge lt. omega arith;
  met = λ q. ((λ h. absurd (none q h)), (λ (j, before, is, follow). absurd (omega (arith, before))));
  closed = closed;
}

-- once all are closed, the members are those before the byte
pub closed_row : {b : Byte} {k : ℕ} {left kept row : List ℕ} → IsClosed b k left kept row → IsRow (positions b.e) row
closed_row {kept = kept} closed = record {
  full = closed.made_of.full;
  few = few_closed closed;
  small = small_in closed;
  in_turn = closed.made_of.in_turn;
  count = length kept;
  groups = closed.made;
}

pub closed_step : {b : Byte} {left kept row : List ℕ} → HasGroups b.after b.count → IsClosed b (suc b.count) left kept row → IsStep (part_of b.e 0) b.at_end b.after b.code kept row
closed_step {b} groups closed = record {
  count = b.count;
  groups = groups;
  grow = closed.grow;
  few = λ j lt. let less = closed.below j lt in omega (arith, less);
  members = closed.members;
  all = λ k q t can. closed.all k q (elim can [ inl (r, follow, here) ↦ let lt = (groups k).1 (r, here) in omega (arith, lt) | inr (same, ends) ↦ omega (arith, same) ]) t can;
  made = closed.made;
}

-- another set of those met
pub with_met : {e : Expression} {groups : Groups} (met : Vec ℕ Global) → AreGroupsFor e groups → length met.items ≡ length groups.met.items → AreGroupsFor e (record groups { met = met })
with_met met made len = record { few = made.few; preceding = made.preceding; left = made.left; met = len ∙ made.met; row = made.row; runs = made.runs }

-- positions that can end here are those that can have the place's end
pub is_own : (b : Byte) (set : List ℕ) → HasGroups b.after b.count → ((q : ℕ) → Has set q ↔ (part_of b.e 0).last b.at_end q) → (q : ℕ) → Has set q ↔ CanEnd b b.count q
is_own b set groups is q = (
  (λ h. inr (refl, (is q).0 h)),
  (λ can. elim can [ inl (r, follow, here) ↦ absurd (let lt = (groups b.count).1 (r, here) in omega (arith, lt)) | inr (same, ends) ↦ (is q).1 ends ]),
)
