-- Beginnings of strings in order: those of one byte more.
use Rattle.re_strings.proofs.Prelude.{◌≡◌, ℕ, ◌+◌, ◌<◌, ◌≤◌, ◌⊎◌, inl, inr, List, [], ◌∷◌, ◌++◌, length, take, slice_get, slice_index, All, Option, Some, None, refl, sym, ap, subst, ◌∙◌, arith, length-append, append_assoc, get_or_append_left, get_or_push, get_or_default, All-push, cases_lt, Text, Begins, Branch, text_at, rank, AreAscending, branch_text, IsBranch, branch_at, no_branch, IsRow, AreRows}

-- ---- texts

pub begins_take : (w rest : Text) → take (length w) (w ++ rest) ≡ w
begins_take [] _ = refl
begins_take (c ∷ w) rest = rw (begins_take w rest)

-- a text begins with another that is its front
pub front_is : (w t : Text) → Begins w t → take (length w) t ≡ w
front_is w t b = cc (b.1, begins_take w b.0)

byte_after : (w : Text) (c : ℕ) (rest : Text) → slice_get (w ++ c ∷ rest) (length w) ≡ Some c
byte_after [] c _ = refl
byte_after (d ∷ w) c rest = byte_after w c rest

one_group : (w : Text) (c : ℕ) (rest : Text) → w ++ c ∷ [] ++ rest ≡ w ++ c ∷ rest
one_group w c rest = append_assoc w (c ∷ []) rest

-- the byte after a front
pub next_byte : (w t : Text) (c : ℕ) → Begins (w ++ c ∷ []) t → slice_get t (length w) ≡ Some c
next_byte w t c b = cc (b.1 ∙ one_group w c b.0, byte_after w c b.0)

-- a front with the byte after it is one
pub longer_front : (w t : Text) (c : ℕ) → Begins w t → slice_get t (length w) ≡ Some c → Begins (w ++ c ∷ []) t
longer_front w t c (rest, is) at = go rest is (sym (rw is) ∙ at)
  where
    go : (rest : Text) → t ≡ w ++ rest → slice_get (w ++ rest) (length w) ≡ Some c → Begins (w ++ c ∷ []) t
    go [] is at = let no : ⊥ = nothing w at in absurd no
      where
        nothing : (v : Text) → slice_get (v ++ []) (length v) ≡ Some c → ⊥
        nothing [] e = cc
        nothing (d ∷ v) e = nothing v e
    go (d ∷ rest) is at = let same = some_same d c (sym (byte_after w d rest) ∙ at) in (rest, is ∙ sym (one_group w d rest) ∙ ap (λ x. w ++ x ∷ [] ++ rest) same)
      where
        some_same : (a b : ℕ) → Some a ≡ Some b → a ≡ b
        some_same a b e = cc

-- a front of a front
pub shorter_front : (w t : Text) (c : ℕ) → Begins (w ++ c ∷ []) t → Begins w t
shorter_front w t c b = (c ∷ b.0, b.1 ∙ one_group w c b.0)

rank_some : (o : Option ℕ) (c : ℕ) → rank o ≡ c + 1 → o ≡ Some c
rank_some None c e = absurd (omega arith)
rank_some (Some b) c e = let same : b ≡ c = omega arith in rw same

rank_same : (o p : Option ℕ) → rank o ≡ rank p → o ≡ p
rank_same None None e = refl
rank_same None (Some b) e = absurd (omega arith)
rank_same (Some b) None e = absurd (omega arith)
rank_same (Some a) (Some b) e = let same : a ≡ b = omega arith in rw same

module _ (texts : List Text) (ascends : AreAscending texts) (br : Branch) (is : IsBranch texts br) where
  w : Text
  w = branch_text texts br

  key : ℕ → Option ℕ
  key i = slice_get (text_at texts i) br.depth

  -- the next bytes of its strings ascend
  pub keys_ascend : (i j : ℕ) → br.low ≤ i → i ≤ j → j < br.high → rank (slice_get (text_at texts i) br.depth) ≤ rank (slice_get (text_at texts j) br.depth)
  keys_ascend i j low le lt =
      let within = is.within in
      let up = ascends (branch_text texts br) i j le (omega arith) (is.shared i low (omega arith)) (is.shared j (omega arith) lt) in
      rw is.deep at up

  -- the strings before a run have a smaller byte there
  pub run_after : (at end : ℕ) → br.low ≤ at → at < end → ((i : ℕ) → br.low ≤ i → i < at → rank (slice_get (text_at texts i) br.depth) < rank (slice_get (text_at texts at) br.depth))
      → ((i : ℕ) → at < i → i < end → slice_get (text_at texts i) br.depth ≡ slice_get (text_at texts at) br.depth)
      → (end < br.high → slice_get (text_at texts end) br.depth ≡ slice_get (text_at texts at) br.depth → ⊥)
      → end < br.high → (i : ℕ) → br.low ≤ i → i < end → rank (slice_get (text_at texts i) br.depth) < rank (slice_get (text_at texts end) br.depth)
  run_after at end low lt before same other inside i from to =
      let up = keys_ascend at end low (omega arith) inside in
      let own = keys_ascend i end from (omega arith) inside in
      let differs : (rank (slice_get (text_at texts at) br.depth) ≡ rank (slice_get (text_at texts end) br.depth)) → ⊥ =
      λ e. other inside (sym (rank_same _ _ e)) in
      strict (elim (cases_lt i at) [
        | inl early ↦ let less = before i from early in let s : rank (slice_get (text_at texts i) br.depth) < rank (slice_get (text_at texts end) br.depth) = omega arith in inl s
        | inr late ↦ elim (cases_lt at i) [
          | inl inner ↦ inr (λ e. differs (sym (rw (same i inner to)) ∙ e))
          | inr here ↦ let at_i : i ≡ at = omega arith in inr (λ e. differs (cc))
        ]
      ]) own
    where
      strict : {a b : ℕ} → (a < b) ⊎ (a ≡ b → ⊥) → a ≤ b → a < b
      strict (inl lt) le = lt
      strict {a} {b} (inr not) le = elim (cases_lt a b) [ inl lt ↦ lt | inr ge ↦ absurd (not (omega arith)) ]

  module _ (at end c : ℕ) (low : br.low ≤ at) (lt : at < end) (high : end ≤ br.high)
      (here : slice_get (text_at texts at) br.depth ≡ Some c)
      (before : (i : ℕ) → br.low ≤ i → i < at → rank (slice_get (text_at texts i) br.depth) < rank (slice_get (text_at texts at) br.depth))
      (same : (i : ℕ) → at < i → i < end → slice_get (text_at texts i) br.depth ≡ slice_get (text_at texts at) br.depth)
      (other : end < br.high → slice_get (text_at texts end) br.depth ≡ slice_get (text_at texts at) br.depth → ⊥) where
    -- the strings of the run go on with the byte
    run_shares : (i : ℕ) → at ≤ i → i < end → Begins (branch_text texts br ++ c ∷ []) (text_at texts i)
    run_shares i from to =
        let at_i : slice_get (text_at texts i) br.depth ≡ Some c =
        elim (cases_lt at i) [
          | inl inner ↦ same i inner to ∙ here
          | inr first ↦ let e : at ≡ i = omega arith in rw e at here
        ] in
        longer_front _ _ c (is.shared i (omega arith) (omega arith))
        (rw is.deep at_i)

    -- it is the text of the run's branch
    pub run_text : take (br.depth + 1) (text_at texts at) ≡ branch_text texts br ++ c ∷ []
    run_text =
        let long : length (branch_text texts br ++ c ∷ []) ≡ br.depth + 1 = cc (length-append (branch_text texts br) (c ∷ []), is.deep) in
        ap (λ n. take n (text_at texts at)) (sym long) ∙ front_is (branch_text texts br ++ c ∷ []) (text_at texts at) (run_shares at (omega arith) lt)

    -- and no other strings go on with it
    run_exact : (i : ℕ) → i < length texts → Begins (branch_text texts br ++ c ∷ []) (text_at texts i) → (at ≤ i) × (i < end)
    run_exact i in_texts front =
        let own = is.exact i in_texts (shorter_front _ _ c front) in
        let byte = rw is.deep at (next_byte _ _ c front) in
        let level : rank (slice_get (text_at texts i) br.depth) ≡ c + 1 = rw byte in
        let level_here : rank (slice_get (text_at texts at) br.depth) ≡ c + 1 = rw here in (
          elim (cases_lt i at) [ inl early ↦ let less = before i own.0 early in absurd (omega arith) | inr late ↦ late ],
          elim (cases_lt i end) [
            | inl inside ↦ inside
            | inr beyond ↦
                let inside : end < br.high = omega arith in
                let up = keys_ascend at end low (omega arith) inside in
                let down = keys_ascend end i (omega arith) beyond own.1 in
                absurd (other inside (rank_some _ c (omega arith) ∙ sym here))
          ],
        )

    pub run_branch : IsBranch texts (record { byte = c; depth = br.depth + 1; low = at; high = end })
    run_branch =
        record {
          within = omega arith;
          deep = ap length run_text ∙ length-append (branch_text texts br) (c ∷ []) ∙ ap (λ n. n + 1) is.deep;
          exact = λ i in_texts front. run_exact i in_texts (rw run_text at front);
          shared = λ i from to. rw run_text (run_shares i from to);
        }

-- ---- one branch more

-- a branch of some is the same among more
pub branch_stays : (bs : List Branch) (nb : Branch) (m : ℕ) → m < length bs → branch_at (bs ++ nb ∷ []) m ≡ branch_at bs m
branch_stays bs nb m lt = get_or_append_left bs (nb ∷ []) no_branch m lt

pub branch_last : (bs : List Branch) (nb : Branch) (m : ℕ) → length bs ≡ m → branch_at (bs ++ nb ∷ []) m ≡ nb
branch_last bs nb m is = get_or_push bs nb no_branch m is

module _ (texts : List Text) (br : Branch) (bs : List Branch) (nb : Branch) (start : ℕ) where
  -- each is a child of the same
  pub child_more : ((m : ℕ) → start ≤ m → m < length bs → branch_text texts (branch_at bs m) ≡ branch_text texts br ++ (branch_at bs m).byte ∷ []) → branch_text texts nb ≡ branch_text texts br ++ nb.byte ∷ []
      → (m : ℕ) → start ≤ m → m < length (bs ++ nb ∷ []) → branch_text texts (branch_at (bs ++ nb ∷ []) m) ≡ branch_text texts br ++ (branch_at (bs ++ nb ∷ []) m).byte ∷ []
  child_more old new m from lt =
      elim (cases_lt m (length bs)) [
        | inl early ↦ rw (branch_stays bs nb m early) (old m from early)
        | inr last ↦ rw (branch_last bs nb m (omega (arith, length-append bs (nb ∷ [])))) new
      ]

  -- the bytes that were found are found still
  pub found_still : (b : ℕ) → (m : ℕ) × (start ≤ m) × (m < length bs) × ((branch_at bs m).byte ≡ b) → (m : ℕ) × (start ≤ m) × (m < length (bs ++ nb ∷ [])) × ((branch_at (bs ++ nb ∷ []) m).byte ≡ b)
  found_still b (m, from, lt, is) = (m, from, (omega (arith, length-append bs (nb ∷ []))), ap (λ (x : Branch). x.byte) (branch_stays bs nb m lt) ∙ is)

  -- and the new one
  pub found_last : {b : ℕ} → start ≤ length bs → nb.byte ≡ b → (m : ℕ) × (start ≤ m) × (m < length (bs ++ nb ∷ [])) × ((branch_at (bs ++ nb ∷ []) m).byte ≡ b)
  found_last from is = (length bs, from, (omega (arith, length-append bs (nb ∷ []))), ap (λ (x : Branch). x.byte) (branch_last bs nb _ refl) ∙ is)

-- the bytes of a run are its own
pub run_found : (texts : List Text) (depth at end c : ℕ) → slice_get (text_at texts at) depth ≡ Some c
    → ((i : ℕ) → at < i → i < end → slice_get (text_at texts i) depth ≡ slice_get (text_at texts at) depth) → (i b : ℕ) → at ≤ i → i < end → slice_get (text_at texts i) depth ≡ Some b → c ≡ b
run_found texts depth at end c here same i b from to is =
    elim (cases_lt at i) [
      | inl inner ↦ some_same c b (sym here ∙ sym (same i inner to) ∙ is)
      | inr first ↦ let e : at ≡ i = omega arith in some_same c b (cc)
    ]
  where
    some_same : (a b : ℕ) → Some a ≡ Some b → a ≡ b
    some_same a b e = cc

-- all runs were passed: the branches after `start` are a row
pub row_done : (texts : List Text) (br : Branch) (is : IsBranch texts br) (bs : List Branch) (start at : ℕ) → br.high ≤ at
    → ((m : ℕ) → start ≤ m → m < length bs → branch_text texts (branch_at bs m) ≡ branch_text texts br ++ (branch_at bs m).byte ∷ [])
    → ((i b : ℕ) → br.low ≤ i → i < at → slice_get (text_at texts i) br.depth ≡ Some b → (m : ℕ) × (start ≤ m) × (m < length bs) × ((branch_at bs m).byte ≡ b))
    → IsRow texts bs br start (length bs)
row_done texts br is bs start at all child covered = record {
  child = child;
  complete = λ c front.
      let in_texts : front.0 < length texts = front.2 in
      let begins = rw (sym front.3 ∙ get_or_default texts front.0 front.1 [] in_texts) at front.4 in
      let own = is.exact front.0 in_texts (shorter_front _ _ c begins) in
      let high = own.1 in
      covered front.0 c own.0 (omega arith) (rw is.deep at (next_byte _ _ c begins));
}

-- a list that goes on is no shorter
pub longer : {A : Type 0} {xs : List A} (ys more : List A) → xs ≡ ys ++ more → length ys ≤ length xs
longer ys more is = omega (arith, ap length is, length-append ys more)

-- ---- rows

-- a row stays one among more branches
row_stays : (texts : List Text) (bs more : List Branch) {b d : Branch} (from to : ℕ) → to ≤ length bs → d ≡ b → IsRow texts bs b from to → IsRow texts (bs ++ more) d from to
row_stays texts bs more from to in_bs same row = rw same (record {
  child = λ m low lt. rw (get_or_append_left bs more no_branch m (omega arith)) (row.child m low lt);
  complete = λ c front. let (m, low, lt, is) = row.complete c front in (m, low, lt, ap (λ (x : Branch). x.byte) (get_or_append_left bs more no_branch m (omega arith)) ∙ is);
})

-- one more branch was gone over, and its row added
pub rows_more : (texts : List Text) (bs more new : List Branch) (first next : List ℕ) (done : ℕ) → AreRows texts bs first done → done < length bs → new ≡ bs ++ more → All (IsBranch texts) new
    → IsRow texts new (branch_at bs done) (length bs) (length new) → next ≡ first ++ length new ∷ [] → AreRows texts new next (done + 1)
rows_more texts bs more new first next done a lt is are row added =
    let long = longer bs more is in
    let entries = a.entries in
    let old : (n : ℕ) → n ≤ done → slice_index next n ≡ slice_index first n = λ n le. cc (get_or_append_left first (length new ∷ []) 0 n (omega arith)) in
    let last : slice_index next (done + 1) ≡ length new = cc (get_or_push first (length new) 0 (done + 1) entries) in
    let here = old done (omega arith) ∙ a.last in
    let kept : (n : ℕ) → n < length bs → branch_at new n ≡ branch_at bs n = λ n below. cc (get_or_append_left bs more no_branch n below) in
    let some = a.some in
    record {
      few = omega arith;
      entries = cc (length-append first (length new ∷ []));
      start = old 0 (omega arith) ∙ a.start;
      last = last;
      some = omega arith;
      are = are;
      root = cc (kept 0 some, a.root);
      beyond = λ n below. elim (cases_lt n done) [
        | inl early ↦ let b = a.beyond n early in omega (arith, old n (omega (arith, early)))
        | inr at ↦ let e : n ≡ done = omega arith in rw e (omega arith)
      ];
      ordered = λ n below. elim (cases_lt n done) [
        | inl early ↦ let b = a.ordered n early in omega (arith, old n (omega (arith, early)), old (n + 1) (omega (arith, early)))
        | inr at ↦ let e : n ≡ done = omega arith in rw e (omega arith)
      ];
      within = λ n below. elim (cases_lt n done) [
        | inl early ↦ let b = a.within n early in omega (arith, old (n + 1) (omega (arith, early)))
        | inr at ↦ let e : n ≡ done = omega arith in rw e (omega arith)
      ];
      rows = λ n below. elim (cases_lt n done) [
        | inl early ↦
            let within = a.within n early in
            let few = a.few in
            let moved =
            subst (λ l. IsRow texts l (branch_at new n) (slice_index first n) (slice_index first (n + 1))) (sym is)
            (row_stays texts bs more (slice_index first n) (slice_index first (n + 1)) within (kept n (omega (arith, early, few))) (a.rows n early)) in
            rw (old (n + 1) (omega arith))
            (rw (old n (omega arith)) moved)
        | inr at ↦
            let e : n ≡ done = omega arith in
            let own : IsRow texts new (branch_at new done) (slice_index next done) (slice_index next (done + 1)) =
            rw (kept done lt)
            (rw last (rw here row)) in
            rw e own
      ];
    }

-- the empty beginning alone
pub rows_at_first : (texts : List Text) → AreRows texts (record { byte = 0; depth = 0; low = 0; high = length texts } ∷ []) (1 ∷ []) 0
rows_at_first texts = record {
  few = omega arith;
  entries = refl;
  start = refl;
  last = refl;
  some = omega arith;
  are = All-push (IsBranch texts) [] (record { byte = 0; depth = 0; low = 0; high = length texts }) (λ k d lt. absurd (omega arith)) (record {
    within = omega arith;
    deep = refl;
    exact = λ i lt begins. (omega arith, lt);
    shared = λ i low lt. (text_at texts i, refl);
  });
  root = refl;
  beyond = λ n lt. absurd (omega arith);
  ordered = λ n lt. absurd (omega arith);
  within = λ n lt. absurd (omega arith);
  rows = λ n lt. absurd (omega arith);
}
