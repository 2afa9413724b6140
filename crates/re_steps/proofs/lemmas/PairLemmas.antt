-- A bounded cache, and the cells that show what it holds.
use Rattle.{re_steps.proofs.Prelude.{◌≡◌, ℕ, zero, suc, ◌-◌, ◌<◌, ◌≤◌, Bool, false, cond, List, [], ◌∷◌, ◌++◌, take, length, length-append, ◌⊎◌, inl, inr, Option, Some, None, slice_get, slice_index, get_or, set, replicate, nat_eq, refl, sym, ap, ◌∙◌, subst, arith, get_or-append_right, AllByRecursion, lookup, lookup_entry, keys_of, LruCache, IsValid, put_entries, displaced, unknown, shown, Mirrors, cases_eq, ne_eqb, nat_eq_equiv, take_all, get_or-set_same, get_or-set_other, get_or_append_left, get_or-replicate, length-set, length-replicate, lookup_from_place, slice_get_cases}, std.specs.List.IsDistinct, lru.proofs.Pairs.lookup-lookup_entry}

-- what is said of all keys, at one place
all_at : (P : ℕ → Type 0) (es : List (ℕ × ℕ)) (n : ℕ) (e : ℕ × ℕ) → AllByRecursion P (keys_of es) → slice_get es n ≡ Some e → P e.0
all_at P [] n e all is = cc
all_at P (x ∷ es) zero e all is = let same : x ≡ e = cc in rw same at all.0
all_at P (x ∷ es) (suc n) e all is = all_at P es n e all.1 is

-- where a test fails at the last pair, a look-up among those before it finds the same
other_stays : (test : ℕ → Bool) (es : List (ℕ × ℕ)) (n : ℕ) (e : ℕ × ℕ) → length es ≤ suc n → slice_get es n ≡ Some e → test e.0 ≡ false → lookup test (take n es) ≡ lookup test es
other_stays test [] n e few is fails = cc
other_stays test (x ∷ []) zero e few is fails = let same : x ≡ e = cc in let x_fails = rw (← same) at fails in rw x_fails refl
other_stays test (x ∷ y ∷ es) zero e few is fails = absurd (omega (arith, few))
other_stays test (x ∷ es) (suc n) e few is fails = ap (cond (test x.0) (Some x.1)) (other_stays test es n e (omega (arith, few)) is fails)

-- among those before the last it isn't found
last_goes : (es : List (ℕ × ℕ)) (n : ℕ) (e : ℕ × ℕ) → IsDistinct nat_eq (keys_of es) → slice_get es n ≡ Some e → lookup (nat_eq e.0) (take n es) ≡ None
unfolding IsDistinct
last_goes [] n e apart is = cc
last_goes (x ∷ es) zero e apart is = refl
last_goes (x ∷ es) (suc n) e apart is =
    let differs : nat_eq x.0 e.0 ≡ false = all_at (λ k. nat_eq x.0 k ≡ false) es n e apart.0 is in
    let turned : nat_eq e.0 x.0 ≡ false = nat_eq_equiv.symm e.0 x.0 ∙ differs in
    rw turned (last_goes es n e apart.1 is)

module _ (c : LruCache ℕ ℕ) (valid : IsValid nat_eq c) (cells : List ℕ) (mirrors : Mirrors c.entries cells) (at cell : ℕ) (within : at < length cells) (none : slice_index cells at ≡ unknown) where
  -- nothing is held where the cell is unknown
  absent : lookup (nat_eq at) c.entries ≡ None
  absent = found (lookup (nat_eq at) c.entries) refl
    where
      found : (o : Option ℕ) → lookup (nat_eq at) c.entries ≡ o → o ≡ None
      found None is = refl
      found (Some v) is =
          let shown_here : slice_index cells at ≡ v = mirrors.shows at within ∙ ap shown is in
          absurd (omega (arith, (mirrors.within at v is).1, shown_here, none))

  no_entry : lookup_entry (nat_eq at) c.entries ≡ None
  no_entry = found (lookup_entry (nat_eq at) c.entries) refl
    where
      found : (o : Option (ℕ × ℕ)) → lookup_entry (nat_eq at) c.entries ≡ o → o ≡ None
      found None is = refl
      found (Some e) is = let h = lookup-lookup_entry (nat_eq at) c.entries in let h2 = rw (is, absent) at h in cc

  -- so a pair is put before the others, but for the one that is pushed out
  pub puts : put_entries nat_eq c at cell ≡ (at, cell) ∷ take (c.cap - 1) c.entries
  puts = rw no_entry refl

  pub displaces : displaced nat_eq c at cell ≡ slice_get c.entries (c.cap - 1)
  displaces = rw absent refl

  room : length c.entries ≤ suc (c.cap - 1)
  room = omega (arith, valid.1, valid.2)

  -- the place whose pair is pushed out has a cell
  pub lost_within : (p v : ℕ) → displaced nat_eq c at cell ≡ Some (p, v) → p < length cells
  lost_within p v is = (mirrors.within p v (lookup_from_place nat_eq_equiv c.entries (c.cap - 1) p v valid.0 (sym displaces ∙ is))).0

  -- after it the cells show what is held again
  pub mirrors_lost : cell < unknown → (p v : ℕ) → displaced nat_eq c at cell ≡ Some (p, v) → Mirrors (put_entries nat_eq c at cell) (set (set cells p unknown) at cell)
  mirrors_lost small p v is = rw puts (record { shows = shows; within = inside })
    where
      last : slice_get c.entries (c.cap - 1) ≡ Some (p, v)
      last = sym displaces ∙ is

      lens : length (set (set cells p unknown) at cell) ≡ length cells
      lens = length-set (set cells p unknown) at cell ∙ length-set cells p unknown

      shows : (k : ℕ) → k < length (set (set cells p unknown) at cell) → slice_index (set (set cells p unknown) at cell) k ≡ shown (lookup (nat_eq k) ((at, cell) ∷ take (c.cap - 1) c.entries))
      shows k lt = elim (cases_eq k at) [
        | inl same ↦ rw same
            (rw (nat_eq_equiv.refl at) (get_or-set_same (set cells p unknown) at cell 0 (omega (arith, within, length-set cells p unknown))))
        | inr other ↦ elim (cases_eq k p) [
          | inl gone ↦ rw (get_or-set_other (set cells p unknown) at k cell 0 other, ne_eqb k at other)
              (subst (λ k. slice_index (set cells p unknown) k ≡ shown (lookup (nat_eq k) (take (c.cap - 1) c.entries))) (sym gone)
              (rw (get_or-set_same cells p unknown 0 (lost_within p v is), last_goes c.entries (c.cap - 1) (p, v) valid.0 last) refl))
          | inr stays ↦ rw (
            get_or-set_other (set cells p unknown) at k cell 0 other,
            ne_eqb k at other,
            get_or-set_other cells p k unknown 0 stays,
            other_stays (nat_eq k) c.entries (c.cap - 1) (p, v) room last (ne_eqb k p stays),
          ) (mirrors.shows k (omega (arith, lt, lens)))
        ]
      ]

      inside : (k w : ℕ) → lookup (nat_eq k) ((at, cell) ∷ take (c.cap - 1) c.entries) ≡ Some w → (k < length (set (set cells p unknown) at cell)) × (w < unknown)
      inside k w is = elim (cases_eq k at) [
        | inl same ↦
            let here : Some cell ≡ Some w = rw (nat_eq_equiv.refl at) at (rw same at is) in
            let value : cell ≡ w = cc in
            (omega (arith, same, within, lens), omega (arith, small, value))
        | inr other ↦
            let there : lookup (nat_eq k) (take (c.cap - 1) c.entries) ≡ Some w = rw (ne_eqb k at other) at is in
            elim (cases_eq k p) [
              | inl gone ↦
                  let none_left : None ≡ Some w = sym (last_goes c.entries (c.cap - 1) (p, v) valid.0 last) ∙ rw gone at there in cc
              | inr stays ↦
                  let was = mirrors.within k w (sym (other_stays (nat_eq k) c.entries (c.cap - 1) (p, v) room last (ne_eqb k p stays)) ∙ there) in
                  (omega (arith, was.0, lens), was.1)
            ]
      ]

  -- the same where none is pushed out
  pub mirrors_kept : cell < unknown → displaced nat_eq c at cell ≡ None → Mirrors (put_entries nat_eq c at cell) (set cells at cell)
  mirrors_kept small is = rw (puts ∙ ap (λ es. (at, cell) ∷ es) all) (record { shows = shows; within = inside })
    where
      short : length c.entries ≤ c.cap - 1
      short = past (slice_get_cases c.entries (c.cap - 1)).1
        where
          past : ((x : ℕ × ℕ) × (c.cap - 1 < length c.entries) × (slice_get c.entries (c.cap - 1) ≡ Some x) × (get_or c.entries (c.cap - 1) x ≡ x)) ⊎ ((length c.entries ≤ c.cap - 1) × (slice_get c.entries (c.cap - 1) ≡ None)) → length c.entries ≤ c.cap - 1
          past (inl (x, lt, here, e)) = let none_there : None ≡ Some x = sym is ∙ displaces ∙ here in cc
          past (inr (le, e)) = le

      all : take (c.cap - 1) c.entries ≡ c.entries
      all = take_all (c.cap - 1) c.entries short

      shows : (k : ℕ) → k < length (set cells at cell) → slice_index (set cells at cell) k ≡ shown (lookup (nat_eq k) ((at, cell) ∷ c.entries))
      shows k lt = elim (cases_eq k at) [
        | inl same ↦ rw same
            (rw (nat_eq_equiv.refl at) (get_or-set_same cells at cell 0 within))
        | inr other ↦ rw (get_or-set_other cells at k cell 0 other, ne_eqb k at other) (mirrors.shows k (omega (arith, lt, length-set cells at cell)))
      ]

      inside : (k w : ℕ) → lookup (nat_eq k) ((at, cell) ∷ c.entries) ≡ Some w → (k < length (set cells at cell)) × (w < unknown)
      inside k w is = elim (cases_eq k at) [
        | inl same ↦
            let here : Some cell ≡ Some w = rw (nat_eq_equiv.refl at) at (rw same at is) in
            let value : cell ≡ w = cc in
            (omega (arith, same, within, length-set cells at cell), omega (arith, small, value))
        | inr other ↦
            let was = mirrors.within k w (rw (ne_eqb k at other) at is) in
            (omega (arith, was.0, length-set cells at cell), was.1)
      ]

-- cells that are added after the others, at which nothing is held
pub mirrors_longer : (entries : List (ℕ × ℕ)) (cells : List ℕ) (n : ℕ) → Mirrors entries cells → Mirrors entries (cells ++ replicate n unknown)
mirrors_longer entries cells n m = record {
  shows = λ k lt. elim (before k) [
    | inl early ↦ get_or_append_left cells (replicate n unknown) 0 k early ∙ m.shows k early
    | inr late ↦
        let filled : slice_index (cells ++ replicate n unknown) k ≡ unknown = get_or-append_right cells (replicate n unknown) k 0 late ∙ get_or-replicate n (k - length cells) unknown 0 (omega (arith, lt, late, length-append cells (replicate n unknown), length-replicate n unknown)) in
        filled ∙ sym (ap shown (not_held k late (lookup (nat_eq k) entries) refl))
  ];
  within = λ k w is. (omega (arith, (m.within k w is).0, length-append cells (replicate n unknown)), (m.within k w is).1);
}
  where
    before : (k : ℕ) → (k < length cells) ⊎ (length cells ≤ k)
    before k = search arith

    not_held : (k : ℕ) → length cells ≤ k → (o : Option ℕ) → lookup (nat_eq k) entries ≡ o → o ≡ None
    not_held k late None is = refl
    not_held k late (Some w) is = absurd (omega (arith, late, (m.within k w is).0))
