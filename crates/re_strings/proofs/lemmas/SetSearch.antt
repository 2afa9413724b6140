-- Searches for many fixed strings: which of them end at a place, and which is the best.
use Rattle.{re_strings.proofs.{Prelude.{◌≡◌, ◌↔◌, ℕ, zero, suc, add-one, ◌+◌, ◌-◌, ◌<◌, ◌≤◌, inl, inr, Bool, true, false, IsTrue, List, [], ◌∷◌, ◌++◌, length, take, drop, slice_index, nat_eq, Option, Some, None, refl, sym, ap, subst, ◌∙◌, arith, length-drop, if◌then◌else◌, get_or, eq-eqb, eq-or-lt_of_le, eqb-true, eqb-false, cases_lt, get_or_default_zero, drop-length, take-suc, drop-append-le, drop-drop, length-take-le, take-append-drop, Text, IsBest, Least, better, places, better_span, Span, IsFront, IsString, EndsIn, Labels, StepsOn, Occurs, NoneBetween, StandsAtNode, StandsSince, IsBestOccurrence, better_ending}, lemmas.SetSteps.{front_shorter, string_front, may_at_first}}, re_trees.proofs.lemmas.BestStretches.{better_places, best_so_far}}

-- what is read of a line up to a place has that length
pub read_length : (line : Text) (place : ℕ) → place ≤ length line → length (take place line) ≡ place
read_length line place h = length-take-le place line h

-- one byte more is read
pub one_more_byte : (line : Text) (place : ℕ) → place < length line → take (place + 1) line ≡ take place line ++ slice_index line place ∷ []
one_more_byte line place lt = cc (add-one place, take-suc line place 0 lt)

-- nothing is read of an empty line
take_nothing : (n : ℕ) → take {A = ℕ} n [] ≡ []
take_nothing zero = refl
take_nothing (suc n) = refl

-- what is read of a line begins what is read of it later
pub read_on : (line : Text) (place next : ℕ) → place ≤ next → (more : Text) × (take next line ≡ take place line ++ more)
read_on [] place next le = ([], take_nothing next ∙ sym (rw (take_nothing _)))
read_on (c ∷ line) zero next _ = (take next (c ∷ line), refl)
read_on (c ∷ line) (suc place) zero le = absurd (omega arith)
read_on (c ∷ line) (suc place) (suc next) le = let (more, is) = read_on line place next (omega arith) in (more, ap (λ t. c ∷ t) is)

-- the start of the longest string that ends here
abbrev ending : ℕ → ℕ → Option ℕ
ending place n = if nat_eq n 0 then None else Some (place - n)

-- what an index reads is the row's number
pub row_read : (xs : List ℕ) {x : ℕ} (n : ℕ) → n < length xs → x ≡ get_or xs n x → slice_index xs n ≡ x
row_read xs {x} n lt is = sym (is ∙ get_or_default_zero xs n x lt)

module _ (all : Labels) (from : ℕ) (line : Text) where
  -- nothing is read yet
  pub nothing_read : all.label 0 ≡ [] → from ≤ length line → StandsAtNode all from line from 0
  nothing_read root within = record {
    start = from;
    low = omega arith;
    high = omega (arith, read_length _ _ within);
    is = root ∙ sym (all_dropped _ (read_length _ _ within));
    none = λ j low lt. absurd (omega arith);
  }
    where
      all_dropped : (w : Text) {n : ℕ} → length w ≡ n → drop n w ≡ []
      all_dropped w same = rw (← same) (drop-length w)

  -- a byte is read
  pub byte_read : (place n m : ℕ) → place < length line → StandsAtNode all from line place n → StepsOn all n (slice_index line place) m → StandsAtNode all from line (place + 1) m
  byte_read place n m lt s step = rw (one_more_byte _ _ lt) (step (take place line) from (may_at_first _ _ _ _ s))

  -- a string that ends at a place begins where the node does or later
  pub begins_with_node : (place n : ℕ) (s : StandsAtNode all from line place n) → (i : ℕ) → from ≤ i → IsFront all.strings (drop i (take place line)) → s.start ≤ i
  begins_with_node _ n s i low front = elim (cases_lt i s.start) [ inl early ↦ absurd (s.none i low early front) | inr late ↦ late ]

  -- the length of the node
  pub node_length : (place n : ℕ) → place ≤ length line → (s : StandsAtNode all from line place n) → length (all.label n) ≡ place - s.start
  node_length place n within s = cc (s.is, length-drop s.start (take place line), read_length _ _ within)

  -- the node's end is the line's
  pub same_end : (place n i : ℕ) (s : StandsAtNode all from line place n) → s.start ≤ i → drop (i - s.start) (all.label n) ≡ drop i (take place line)
  same_end place n i s le =
      let at : s.start + (i - s.start) ≡ i = omega arith in
      ap (drop (i - s.start)) s.is ∙ drop-drop (i - s.start) s.start (take place line) ∙ ap (λ k. drop k (take place line)) at

  -- a string that ends here is no longer than the longest that the node ends with
  no_longer : {e : ℕ} (place n : ℕ) → place ≤ length line → StandsAtNode all from line place n → EndsIn all.strings (all.label n) e → (i : ℕ) → Occurs all.strings from line i place → place - i ≤ e
  no_longer place n within s ends i o =
      let le = begins_with_node place n s i o.0 (string_front _ _ o.3) in
      let own : IsString all.strings (drop (i - s.start) (all.label n)) = rw (same_end _ n i s le) o.3 in
      let size = node_length place n within s in
      let most = ends.longest (i - s.start) (omega (arith, o.1)) own in
      omega (arith, o.1)

  -- and that string ends here
  longest_ends : {e : ℕ} (place n : ℕ) → place ≤ length line → StandsAtNode all from line place n → EndsIn all.strings (all.label n) e → 0 < e → Occurs all.strings from line (place - e) place
  longest_ends {e} place n within s ends some =
      let size = node_length place n within s in
      let fits = ends.within in
      let low = s.low in
      let le : s.start ≤ place - e = omega arith in
      let at : place - e - s.start ≡ length (all.label n) - e = omega arith in (
        omega arith,
        omega arith,
        within,
        rw (ap (λ k. drop k (all.label n)) (sym at) ∙ same_end place n (place - e) s le) at (ends.ends some),
      )

module _ (all : Labels) (from : ℕ) (line : Text) where
  -- a string that ends here or later begins no earlier than the node's end may
  pub from_since : {n : ℕ} (place : ℕ) (g : StandsSince all from line place n) → (i j : ℕ) → place ≤ j → Occurs all.strings from line i j → Occurs all.strings g.since line i j
  from_since _ g i j le o = elim (cases_lt i g.since) [ inl early ↦ absurd (g.none i j le early o) | inr late ↦ (late, o.1, o.2, o.3) ]

  -- nothing is read yet
  pub stands_at_first : all.label 0 ≡ [] → from ≤ length line → StandsSince all from line from 0
  stands_at_first root within = record {
    since = from;
    low = omega arith;
    none = λ i j le lt o. omega arith;
    over = λ i k j low lt. let none : ⊥ = omega arith in absurd none;
    stands = nothing_read all from line root within;
  }

  -- a byte is read
  pub stands_after : (place n m : ℕ) → place < length line → StandsSince all from line place n → StepsOn all n (slice_index line place) m → StandsSince all from line (place + 1) m
  stands_after place n m lt g step = record {
    since = g.since;
    low = g.low;
    none = λ i j le early o. g.none i j (omega arith) early o;
    over = g.over;
    stands = byte_read all g.since line place n m lt g.stands step;
  }

  -- a string that ends here is no longer than the longest that the node ends with
  no_longer_since : {place n e : ℕ} → place ≤ length line → StandsSince all from line place n → EndsIn all.strings (all.label n) e → (i : ℕ) → Occurs all.strings from line i place → place - i ≤ e
  no_longer_since {place} {n} {e} within g ends i o = no_longer all g.since line place n within g.stands ends i (from_since place g i place (omega arith) o)

  -- and that string ends here
  pub longest_ends_since : {place n e : ℕ} → place ≤ length line → StandsSince all from line place n → EndsIn all.strings (all.label n) e → 0 < e → Occurs all.strings from line (place - e) place
  longest_ends_since {place} {n} {e} within g ends some =
      let o = longest_ends all g.since line place n within g.stands ends some in
      let low = g.low in
      let late = o.0 in
      (omega arith, o.1, o.2, o.3)

  -- where a string ends, the node is the longest end of all that was read since `from`
  pub begun_at : (place n e : ℕ) → place ≤ length line → StandsSince all from line place n → EndsIn all.strings (all.label n) e → 0 < e → StandsAtNode all from line place n
  begun_at place n e within g ends some =
      let o = longest_ends all g.since line place n within g.stands ends some in record {
        start = g.stands.start;
        low = omega arith;
        high = g.stands.high;
        is = g.stands.is;
        none = λ j low lt. elim (cases_lt j g.since) [ inl early ↦ g.over j (place - e) place low early o | inr late ↦ g.stands.none j late lt ];
      }

  -- where the node ends with no string, none ends here
  pub none_ends : (place n e : ℕ) → place ≤ length line → StandsSince all from line place n → EndsIn all.strings (all.label n) e → e ≡ 0 → (i : ℕ) → ¬ Occurs all.strings from line i place
  none_ends place n e within s ends nil i o = let most = no_longer_since within s ends i o in omega (arith, o.1)

  -- the least start of the strings that end here
  least_ending : {place : ℕ} (n e : ℕ) → place ≤ length line → StandsSince all from line place n → EndsIn all.strings (all.label n) e → Least (λ i. Occurs all.strings from line i place) (ending place e)
  least_ending {place} n e within s ends = go (nat_eq e 0) refl
    where
      go : (b : Bool) → nat_eq e 0 ≡ b → Least (λ i. Occurs all.strings from line i place) (if b then None else Some (place - e))
      go true is = λ i o. none_ends place n e within s ends (eqb-true e 0 is) i o
      go false is = (
        longest_ends_since within s ends (let some = eqb-false e 0 is in omega arith),
        λ k o. let most = no_longer_since within s ends k o in omega (arith, o.1),
      )

  -- ---- passes

  -- no string ended up to a place, nor to the next
  pub none_up_to : (place next n e : ℕ) → next ≤ length line → ((i j : ℕ) → j ≤ place → ¬ Occurs all.strings from line i j) → NoneBetween all.strings from line place next
      → StandsSince all from line next n → EndsIn all.strings (all.label n) e → e ≡ 0 → (i j : ℕ) → j ≤ next → ¬ Occurs all.strings from line i j
  none_up_to place next n e within before between s ends nil i j le o =
      elim (cases_lt place j) [
        | inr early ↦ before i j early o
        | inl late ↦ elim (eq-or-lt_of_le le) [ inl same ↦ none_ends next n e within s ends nil i (rw same at o) | inr inside ↦ between i j late inside o ]
      ]

  -- the best stays the best up to a place before which no string ends
  best_through : (place next to : ℕ) (best : Option (ℕ × ℕ)) → place ≤ to → to < next → NoneBetween all.strings from line place next → IsBest (Occurs all.strings from line) place best → IsBest (Occurs all.strings from line) to best
  best_through place next to None on lt between none = λ i j le o. elim (cases_lt place j) [ inl late ↦ between i j late (omega arith) o | inr early ↦ none i j early o ]
  best_through place next to (Some (i, j)) on lt between (o, le, early, long) = (
    o,
    omega arith,
    (λ k l m r. elim (cases_lt place l) [ inl late ↦ absurd (between k l late (omega arith) r) | inr soon ↦ early k l soon r ]),
    (λ l m r. elim (cases_lt place l) [ inl late ↦ absurd (between i l late (omega arith) r) | inr soon ↦ long l soon r ]),
  )

better_than_none : (o : Option (ℕ × ℕ)) (end : ℕ) → o ≡ better o end None
better_than_none None _ = refl
better_than_none (Some p) _ = refl

-- the better one as a pair of places
ending_places : (best : Option Span) (end n : ℕ) → places (better_ending best end n) ≡ better (places best) end (ending end n)
ending_places best end n = go (nat_eq n 0)
  where
    go : (b : Bool) → places (if b then best else better_span best (record { start = end - n; end = end })) ≡ better (places best) end (if b then None else Some (end - n))
    go true = better_than_none (places best) end
    go false = better_places best (end - n) end

module _ (all : Labels) (from : ℕ) (line : Text) where
  -- there was no string in the line yet
  pub best_at_first : IsBestOccurrence all.strings from line from None
  unfolding IsBestOccurrence
  best_at_first i j le o = omega (arith, o.0, o.1)

  -- the best up to the next place, at which the node is known
  pub best_on : {n e : ℕ} (place next : ℕ) {result : Option Span} (best : Option Span) → place < next → next ≤ length line → IsBestOccurrence all.strings from line place best → NoneBetween all.strings from line place next
      → StandsSince all from line next n → EndsIn all.strings (all.label n) e → result ≡ better_ending best next e → IsBestOccurrence all.strings from line next result
  unfolding IsBestOccurrence
  best_on place zero best lt within old between s ends is = absurd (omega arith)
  best_on {n} {e} place (suc to) best lt within old between s ends is =
      rw is (subst (IsBest (Occurs all.strings from line) (suc to)) (sym (ending_places best (suc to) e))
      (best_so_far (Occurs all.strings from line) to (places best) (ending (suc to) e)
      (best_through all from line place (suc to) to (places best) (omega (arith, lt)) (omega arith) between old)
      (least_ending all from line n e within s ends)))

  -- once the node begins after the best so far, that is the best of the line
  pub best_settled : {depth : ℕ} (place next n : ℕ) (best : Option Span) → place < next → next ≤ length line → IsBestOccurrence all.strings from line place best → NoneBetween all.strings from line place next
      → StandsSince all from line next n → depth ≡ length (all.label n) → (known : Span) × (best ≡ Some known) × (known.start < next - depth) → IsBestOccurrence all.strings from line (length line) best
  unfolding IsBestOccurrence
  best_settled place next n best lt within old between s deep (known, is, early) = rw is (go (rw is at old))
    where
      -- none that begins no later ends later
      later : (i k : ℕ) → i ≤ known.start → place < k → ¬ Occurs all.strings from line i k
      later i k le far o =
          elim (cases_lt k next) [
            | inl inside ↦ between i k far inside o
            | inr beyond ↦
                let (more, longer) = read_on line next k beyond in
                let size = node_length all s.since line next n within s.stands in
                let high = s.stands.high in
                let own = from_since all from line next s i k beyond o in
                let read = read_length line next within in
                let within_read : i ≤ length (take next line) = omega arith in
                let end : drop i (take k line) ≡ drop i (take next line) ++ more = cc (drop-append-le i (take next line) more within_read) in
                let begins = begins_with_node all s.since line next n s.stands i own.0 (front_shorter _ _ _ (rw end at (string_front _ _ o.3))) in
                omega arith
          ]

      go : IsBest (Occurs all.strings from line) place (Some (known.start, known.end)) → IsBest (Occurs all.strings from line) (length line) (Some (known.start, known.end))
      go (o, le, first, long) = (
        o,
        omega arith,
        (λ k l m r. elim (cases_lt place l) [
          | inl late ↦ elim (cases_lt known.start k) [ inl beyond ↦ omega arith | inr soon ↦ absurd (later k l soon late r) ]
          | inr soon ↦ first k l soon r
        ]),
        (λ l m r. elim (cases_lt place l) [ inl late ↦ absurd (later known.start l (omega arith) late r) | inr soon ↦ long l soon r ]),
      )

-- ---- whole lines

-- a string that is the line goes on with its next byte
pub goes_on_in_line : (strings : List Text) (line label : Text) (place : ℕ) → place < length line → label ≡ take place line → (IsFront strings (label ++ slice_index line place ∷ []) → ⊥) → IsString strings line → ⊥
goes_on_in_line strings line label place lt is none whole =
    let read : take (place + 1) line ≡ label ++ slice_index line place ∷ [] = cc (one_more_byte _ _ lt) in
    let front : IsFront strings (take (place + 1) line ++ drop (place + 1) line) = rw (take-append-drop (place + 1) line) (string_front _ _ whole) in
    none (subst (IsFront strings) read (front_shorter strings (take (place + 1) line) (drop (place + 1) line) front))

-- if the line is a string, the node that is the line ends with a string of that length
pub ends_whole : {strings : List Text} (line label : Text) (e : ℕ) → 0 < length line → label ≡ line → EndsIn strings label e → IsTrue (nat_eq e (length line)) ↔ IsString strings line
ends_whole line label e some is ends = (
  (λ h.
      let long = eqb-true e (length line) h in
      let own = ends.ends (omega arith) in
      let none : length label - e ≡ 0 = omega (arith, ap length is) in
      rw is at (rw none at own)),
  (λ whole.
      let most = ends.longest 0 (omega (arith, ap length is)) (rw is whole) in
      let fits = ends.within in
      eq-eqb e (length line) (omega (arith, ap length is))),
)

-- all of the line is read
pub all_read : (line : Text) (n : ℕ) → length line ≤ n → take n line ≡ line
all_read [] n _ = take_nothing n
all_read (c ∷ line) zero le = absurd (omega arith)
all_read (c ∷ line) (suc n) le = rw (all_read line n (omega arith))
