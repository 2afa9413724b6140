-- The tables of strings in order, as those of any list with the same strings.
use Rattle.re_strings.proofs.{Prelude.{◌≡◌, ℕ, ◌+◌, ◌<◌, ◌≤◌, inl, inr, Bool, true, false, List, [], ◌∷◌, ◌++◌, length, get_or, slice_get, slice_index, nat_eq, refl, sym, ap, ◌∙◌, arith, if◌then◌else◌, eqb-true, eqb-false, cases_lt, append-nil, get_or_default, length-take, get_or-eq_default, slice_get_past, slice_get-get_or, Text, Begins, Branch, IsFront, IsString, Labels, IsTrieOf, AreOwn, text_at, rank, AreAscending, branch_text, IsBranch, branch_at, no_branch, AreRows, own_length, HaveSame}, lemmas.SetSearch.all_read}

-- a string that begins with a text is in both lists
pub same_front : (texts strings : List Text) → HaveSame texts strings → (w : Text) → IsFront strings w → IsFront texts w
same_front texts strings same w front =
    let own : IsString strings front.1 = (front.0, front.1, front.2, front.3, refl) in
    let there = (same front.1).1 own in
    (there.0, there.1, there.2, there.3, rw there.4 front.4)

module _ (texts strings : List Text) (same : HaveSame texts strings) (bs : List Branch) (first : List ℕ) (a : AreRows texts bs first (length bs)) where
  all : Labels
  all = record { strings = strings; label = λ n. branch_text texts (branch_at bs n) }

  -- the rows as a tree
  pub trie_right : (bytes : List ℕ) → length bytes ≡ length bs → ((n : ℕ) → n < length bs → slice_index bytes n ≡ (branch_at bs n).byte)
      → IsTrieOf (record { strings = strings; label = λ n. branch_text texts (branch_at bs n) }) first bytes
  trie_right bytes size named = record {
    root = rw a.root;
    child = λ n m lt at.
        let in_bs : n < length bs = omega arith in
        let within = a.within n in_bs in
        let high = at.1 in
        (a.rows n in_bs).child m at.0 at.1 ∙ ap (λ c. branch_text texts (branch_at bs n) ++ c ∷ []) (sym (named m (omega arith)));
    complete = λ n c lt front.
        let in_bs : n < length bs = omega arith in
        let within = a.within n in_bs in
        let (m, low, high, is) = (a.rows n in_bs).complete c (same_front _ _ same _ front) in
        (m, (low, high), named m (omega arith) ∙ is);
  }

  -- which nodes are strings
  own_right : AreAscending texts → {b : Branch} → IsBranch texts b
      → (0 < own_length texts b → (own_length texts b ≡ length (branch_text texts b)) × IsString strings (branch_text texts b)) × (IsString strings (branch_text texts b) → own_length texts b ≡ length (branch_text texts b))
  own_right ascends {b} is = (known (nat_eq (length (text_at texts b.low)) b.depth) refl, λ s. back ((same (branch_text texts b)).1 s))
    where
      known : (e : Bool) → nat_eq (length (text_at texts b.low)) b.depth ≡ e → 0 < (if e then b.depth else 0) → ((if e then b.depth else 0) ≡ length (branch_text texts b)) × IsString strings (branch_text texts b)
      known true eq some =
          let long = eqb-true (length (text_at texts b.low)) b.depth eq in
          let whole = all_read (text_at texts b.low) b.depth (omega arith) in
          let there : b.low < length texts =
          elim (cases_lt b.low (length texts)) [
            | inl inside ↦ inside
            | inr past ↦ let none = ap length (get_or-eq_default texts [] past) in absurd (omega arith)
          ] in
          (sym is.deep, (same (branch_text texts b)).0 (b.low, text_at texts b.low, there, get_or_default texts b.low (text_at texts b.low) [] there, sym whole))
      known false eq some = absurd (omega arith)

      -- a string is the first that begins with itself
      back : IsString texts (branch_text texts b) → own_length texts b ≡ length (branch_text texts b)
      back (j, t, in_texts, at, equal) =
          let text_j = get_or_default texts j [] t in_texts ∙ at ∙ equal in
          let begins : Begins (branch_text texts b) (text_at texts j) = ([], text_j ∙ sym (append-nil (branch_text texts b))) in
          let own = is.exact j in_texts begins in
          let low : b.low ≤ j = own.0 in
          let high : j < b.high = own.1 in
          let up = ascends (branch_text texts b) b.low j low in_texts (is.shared b.low (omega arith) (omega arith)) begins in
          let end = slice_get_past (text_at texts j) (length (branch_text texts b)) (omega (arith, ap length text_j)) in
          let none : rank (slice_get (text_at texts j) (length (branch_text texts b))) ≡ 0 = rw end in
          let short : length (text_at texts b.low) ≤ length (branch_text texts b) =
          elim (cases_lt (length (branch_text texts b)) (length (text_at texts b.low))) [
            | inl inside ↦
                let some : rank (slice_get (text_at texts b.low) (length (branch_text texts b))) ≡ get_or (text_at texts b.low) (length (branch_text texts b)) 0 + 1 = rw (slice_get-get_or (text_at texts b.low) (length (branch_text texts b)) 0 inside) in
                absurd (omega arith)
            | inr le ↦ le
          ] in
          let long : length (branch_text texts b) ≤ length (text_at texts b.low) = let t = length-take b.depth (text_at texts b.low) in omega arith in
          let whole : length (text_at texts b.low) ≡ b.depth = omega arith in
          equal_own (nat_eq (length (text_at texts b.low)) b.depth) refl whole
        where
          equal_own : (e : Bool) → nat_eq (length (text_at texts b.low)) b.depth ≡ e → length (text_at texts b.low) ≡ b.depth → (if e then b.depth else 0) ≡ length (branch_text texts b)
          equal_own true eq whole = sym is.deep
          equal_own false eq whole = absurd (eqb-false (length (text_at texts b.low)) b.depth eq whole)

  pub owns_right : AreAscending texts → (owns : List ℕ) → length owns ≡ length bs → ((n : ℕ) → n < length bs → slice_index owns n ≡ own_length texts (branch_at bs n))
      → AreOwn (record { strings = strings; label = λ n. branch_text texts (branch_at bs n) }) owns
  owns_right ascends owns size each = λ n lt.
      let in_bs : n < length bs = omega arith in
      let own = own_right ascends (a.are n no_branch in_bs) in
      rw (each n in_bs) own

  pub nodes_right : AreAscending texts → (bytes owns : List ℕ) → length bytes ≡ length bs → ((n : ℕ) → n < length bs → slice_index bytes n ≡ (branch_at bs n).byte)
      → length owns ≡ length bs → ((n : ℕ) → n < length bs → slice_index owns n ≡ own_length texts (branch_at bs n))
      → (label : ℕ → Text) × IsTrieOf (record { strings = strings; label = label }) first bytes × AreOwn (record { strings = strings; label = label }) owns
  nodes_right ascends _ owns size named sized own = (
    (λ n. branch_text texts (branch_at bs n)),
    trie_right _ size named,
    owns_right ascends owns sized own,
  )
