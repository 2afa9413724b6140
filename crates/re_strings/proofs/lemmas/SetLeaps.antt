-- Leaps of a search for many strings: where none of them begins.
use Rattle.re_strings.proofs.{Prelude.{◌≡◌, ℕ, ◌+◌, ◌-◌, ◌<◌, ◌≤◌, inl, inr, List, [], ◌++◌, length, take, drop, slice_index, refl, sym, subst, ◌∙◌, arith, length-drop, drop-append-le, length-take-le, get_or-drop, get_or-take, get_or_default, get_or_append_left, cases_lt, Text, Leaps, text_at, HaveSame, IsFront, IsString, Labels, Occurs, NoneBetween, NoneBegins, StandsAtNode, StandsSince, AreLeapsOf, pair_row}, lemmas.{SetSteps.{front_shorter, string_front, empty_end}, SetSearch.{read_length, read_on, begins_with_node, nothing_read, from_since}}}

-- the bytes of a part of a line
byte_of_part : (line : Text) (i j k : ℕ) → i + k < j → slice_index (drop i (take j line)) k ≡ slice_index line (i + k)
byte_of_part line i j k lt = get_or-drop i (take j line) k 0 ∙ get_or-take j line (i + k) 0 lt

-- how long a part is
part_length : (line : Text) (i j : ℕ) → j ≤ length line → length (drop i (take j line)) ≡ j - i
part_length line i j le = cc (length-drop i (take j line), length-take-le j line le)

module _ (strings : List Text) (line : Text) where
  -- nothing is passed yet
  pub none_begins_at_first : (place : ℕ) → NoneBegins strings line place place
  none_begins_at_first place = record {
    begins = λ i j lt o. omega arith;
    over = λ i k j low lt. let none : ⊥ = omega arith in absurd none;
  }

  -- more is passed
  pub none_begins_on : (place at next : ℕ) → at ≤ next → NoneBegins strings line place at → NoneBegins strings line at next → NoneBegins strings line place next
  none_begins_on place at next on before more = record {
    begins = λ i j lt o. elim (cases_lt i at) [ inl early ↦ before.begins i j early o | inr late ↦ more.begins i j lt (late, o.1, o.2, o.3) ];
    over = λ i k j low lt o. elim (cases_lt i at) [ inl early ↦ before.over i k j low early (omega arith, o.1, o.2, o.3) | inr late ↦ more.over i k j late lt o ];
  }

  -- no string goes on with a part that has a window's last two bytes
  not_over_pair : (l : Leaps) → AreLeapsOf strings l → (at shift : ℕ) → 2 ≤ l.window → shift < l.window
      → slice_index l.shifts.items (pair_row (slice_index line (at + l.window - 2)) (slice_index line (at + l.window - 1))) ≡ shift
      → (i j : ℕ) → at ≤ i → i < at + shift → at + l.window ≤ j → j ≤ length line → ¬ IsFront strings (drop i (take j line))
  not_over_pair l a at shift pair short is i j low lt room end front =
      let s : Text = front.1 in
      let own : IsString strings s = (front.0, front.1, front.2, front.3, refl) in
      let part = drop i (take j line) in
      let (more, goes) = front.4 in
      let k = at + l.window - 2 - i in
      let size = part_length line i j end in
      let byte : (n : ℕ) → i + n < j → slice_index s n ≡ slice_index line (i + n) =
      λ n inside. cc (get_or_append_left part more 0 n (omega arith), byte_of_part line i j n inside) in
      let at_first : i + k ≡ at + l.window - 2 = omega arith in
      let at_next : i + (k + 1) ≡ at + l.window - 1 = omega arith in
      let first : slice_index s k ≡ slice_index line (at + l.window - 2) = cc (byte k (omega arith)) in
      let second : slice_index s (k + 1) ≡ slice_index line (at + l.window - 1) = cc (byte (k + 1) (omega arith)) in
      let reported = a.right s own k (omega arith) in
      let row : pair_row (slice_index s k) (slice_index s (k + 1)) ≡ pair_row (slice_index line (at + l.window - 2)) (slice_index line (at + l.window - 1)) = omega arith in
      let same : slice_index l.shifts.items (pair_row (slice_index s k) (slice_index s (k + 1))) ≡ shift = cc in
      omega arith

  -- no string begins before the place to which a window's last two bytes let a search leap
  pub none_begins_leap : (l : Leaps) → AreLeapsOf strings l → (at shift : ℕ) → 2 ≤ l.window → at + l.window ≤ length line → shift < l.window
      → slice_index l.shifts.items (pair_row (slice_index line (at + l.window - 2)) (slice_index line (at + l.window - 1))) ≡ shift
      → NoneBegins strings line at (at + shift)
  none_begins_leap l a at shift pair within short is = record {
    begins = λ i j lt o.
        let low = o.0 in
        let far = ends_far i j o in
        not_over_pair l a at shift pair short is i j low lt (omega arith) o.2 (string_front _ _ o.3);
    over = λ i k j low lt o.
        let beyond = o.0 in
        let far = ends_far k j (beyond, o.1, o.2, o.3) in
        not_over_pair l a at shift pair short is i j low lt (omega arith) o.2;
  }
    where
      -- a string is no shorter than the window
      ends_far : {from : ℕ} (i j : ℕ) → Occurs strings from line i j → i + l.window ≤ j
      ends_far i j o =
          let long = a.long (drop i (take j line)) o.3 in
          let size = part_length line i j o.2 in
          let inside = o.1 in
          omega arith

  -- nor where there is no room for a window
  pub none_begins_to_end : (l : Leaps) → AreLeapsOf strings l → (place at : ℕ) → length line < at + l.window → NoneBegins strings line place at → NoneBegins strings line place (length line)
  none_begins_to_end l a place at none before = record {
    begins = λ i j lt o.
        elim (cases_lt i at) [
          | inl early ↦ before.begins i j early o
          | inr late ↦
              let long = a.long (drop i (take j line)) o.3 in
              let size = part_length line i j o.2 in
              omega (arith, o.1, o.2)
        ];
    over = λ i k j low lt o. omega arith;
  }

-- ---- at the root

module _ (all : Labels) (from : ℕ) (line : Text) (root : all.label 0 ≡ []) (place node : ℕ) (zero : node ≡ 0) (g : StandsSince all from line place node) (within : place ≤ length line) where
  -- what began since goes on no farther than to here
  none_goes_on : (i j : ℕ) → place ≤ j → g.since ≤ i → i < place → ¬ IsFront all.strings (drop i (take j line))
  none_goes_on i j le since early front =
      let (more, longer) = read_on line place j le in
      let high = g.stands.high in
      let read = read_length line place within in
      let in_read : i ≤ length (take place line) = omega arith in
      let end : drop i (take j line) ≡ drop i (take place line) ++ more = cc (drop-append-le i (take place line) more in_read) in
      let begins = begins_with_node all g.since line place node g.stands i since (front_shorter _ _ _ (rw end at front)) in
      let label : all.label node ≡ [] = cc in
      let start = empty_end (take place line) g.stands.start high (sym label ∙ g.stands.is) in
      omega arith

  -- a string that ends at a place where the search is at the root, or later, begins there or later
  begins_after : (i j : ℕ) → place ≤ j → Occurs all.strings from line i j → place ≤ i
  begins_after i j le o =
      elim (cases_lt i place) [
        | inr late ↦ late
        | inl early ↦
            let own = from_since all from line place g i j le o in
            absurd (none_goes_on i j le own.0 early (string_front _ _ o.3))
      ]

  -- none begins before a place up to which none begins from here on
  none_over : (next : ℕ) → NoneBegins all.strings line place next → (i j : ℕ) → place ≤ j → i < next → ¬ Occurs all.strings from line i j
  none_over _ none i j le lt o = none.begins i j lt (begins_after i j le o, o.1, o.2, o.3)

  -- the search is at the root there too
  pub leap_stands : {next : ℕ} → from ≤ place → place ≤ next → next ≤ length line → NoneBegins all.strings line place next → StandsSince all from line next node
  leap_stands {next} low le high none = record {
    since = next;
    low = omega arith;
    none = λ i j beyond lt o. none_over next none i j (omega arith) lt o;
    over = λ i k j first lt o.
        let beyond = o.0 in
        let inside = o.1 in
        elim (cases_lt i place) [
          | inr late ↦ none.over i k j late lt o
          | inl early ↦
              elim (cases_lt i g.since) [
                | inl before ↦
                    let start = g.stands.low in
                    let end = g.stands.high in
                    let read = read_length line place within in
                    g.over i k j first before (omega arith, o.1, o.2, o.3)
                | inr since ↦ none_goes_on i j (omega arith) since early
              ]
        ];
    stands = subst (StandsAtNode all next line next) (sym zero) (nothing_read all next line root high);
  }

  -- and none ends up to there
  pub leap_between : (next : ℕ) → NoneBegins all.strings line place next → NoneBetween all.strings from line place (next + 1)
  leap_between next none i k lt inside o = let on = o.1 in none_over next none i k (omega arith) (omega arith) o

-- ---- making

-- the leaps for strings are those for any list with the same ones
pub same_leaps : (texts strings : List Text) → HaveSame texts strings → {l : Leaps} → AreLeapsOf texts l → AreLeapsOf strings l
same_leaps _ _ same a = record {
  long = λ s own. a.long s ((same s).1 own);
  right = λ s own j le. a.right s ((same s).1 own) j le;
}

-- what each place of a list says of its string
pub leaps_by_places : (texts : List Text) (l : Leaps) → ((i : ℕ) → i < length texts → l.window ≤ length (text_at texts i))
    → ((i : ℕ) → i < length texts → (j : ℕ) → j + 2 ≤ l.window → slice_index l.shifts.items (pair_row (slice_index (text_at texts i) j) (slice_index (text_at texts i) (j + 1))) + j + 2 ≤ l.window)
    → AreLeapsOf texts l
leaps_by_places texts l long right = record {
  long = λ s own. rw (is_at s own) at (long own.0 own.2);
  right = λ s own j le. rw (is_at s own) at (right own.0 own.2 j le);
}
  where
    is_at : (s : Text) (own : IsString texts s) → text_at texts own.0 ≡ s
    is_at s own = get_or_default texts own.0 [] own.1 own.2 ∙ own.3 ∙ own.4
