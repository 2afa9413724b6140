-- Ends that are put where strings begin.
use Rattle.re_strings.proofs.{Prelude.{◌≡◌, ◌↔◌, ℕ, ◌+◌, ◌-◌, ◌<◌, ◌≤◌, ◌⊎◌, inl, inr, List, length, drop, sym, ap, subst, ◌∙◌, arith, length-drop, cases_lt, drop-drop, Text, AddsEnds, IsString, StandsFor, IsOutput, EndsWith, Labels, Occurs, StandsAtNode}, lemmas.{SetSteps.string_front, SetSearch.{read_length, node_length, same_end, begins_with_node}}}

-- nothing is put
pub adds_no_ends : (P : ℕ → ℕ → Type 0) (line : Text) (ends : List ℕ) → length ends ≡ length line → ((i m : ℕ) → i < length line → ¬ P i m) → AddsEnds P line ends ends
adds_no_ends P _ _ size none = (size, λ i m lt. ((λ h. inl h), (λ h. elim h [ inl old ↦ old | inr p ↦ absurd (none i m lt p) ])))

-- some are put, then more
pub adds_more_ends : (P Q R : ℕ → ℕ → Type 0) (line rows : Text) (old mid new : List ℕ) → length rows ≡ length line → AddsEnds P line old mid → AddsEnds Q rows mid new
    → ((i m : ℕ) → i < length line → (P i m ⊎ Q i m) ↔ R i m) → AddsEnds R line old new
adds_more_ends P Q R line rows old mid new size first next all = (
  next.0 ∙ size,
  λ i m lt.
      let in_rows : i < length rows = omega arith in (
        (λ h. elim ((next.1 i m in_rows).0 h) [
          | inl had ↦ elim ((first.1 i m lt).0 had) [ inl o ↦ inl o | inr p ↦ inr ((all i m lt).0 (inl p)) ]
          | inr q ↦ inr ((all i m lt).0 (inr q))
        ]),
        (λ h. (next.1 i m in_rows).1 (elim h [
          | inl o ↦ inl ((first.1 i m lt).1 (inl o))
          | inr r ↦ elim ((all i m lt).1 r) [ inl p ↦ inl ((first.1 i m lt).1 (inr p)) | inr q ↦ inr q ]
        ])),
      ),
)

-- the same ends, said otherwise
pub same_ends_added : (P R : ℕ → ℕ → Type 0) (line : Text) (old new : List ℕ) → AddsEnds P line old new → ((i m : ℕ) → i < length line → P i m ↔ R i m) → AddsEnds R line old new
same_ends_added P R _ _ _ added same = (
  added.0,
  λ i m lt. (
    (λ h. elim ((added.1 i m lt).0 h) [ inl o ↦ inl o | inr p ↦ inr ((same i m lt).0 p) ]),
    (λ h. (added.1 i m lt).1 (elim h [ inl o ↦ inl o | inr r ↦ inr ((same i m lt).1 r) ])),
  ),
)

-- ---- the strings that a node ends with

-- the output is an end of the node, and a string if it isn't the root
pub record Follows (all : Labels) (node output : ℕ) : Type 0 where
  pub low : length (all.label output) ≤ length (all.label node)
  pub is : all.label output ≡ drop (length (all.label node) - length (all.label output)) (all.label node)
  pub some : 0 < output → (0 < length (all.label output)) × IsString all.strings (all.label output)

-- the strings that the node ends with and that are longer than the output are put
abbrev pub PutsLonger : Labels → ℕ → ℕ → ℕ → ℕ → ℕ → ℕ → Type 0
PutsLonger all node end top output i m = (n : ℕ) × (m < top) × (i + n ≡ end) × (length (all.label output) < n) × EndsWith all.strings (all.label node) n

module _ (all : Labels) (node : ℕ) where
  -- an end of the node that is no longer than the output is an end of the output
  end_of_output : (output n : ℕ) → Follows all node output → n ≤ length (all.label output) → drop (length (all.label output) - n) (all.label output) ≡ drop (length (all.label node) - n) (all.label node)
  end_of_output output n f le =
      let low = f.low in
      let place : length (all.label node) - length (all.label output) + (length (all.label output) - n) ≡ length (all.label node) - n = omega (arith, low) in
      ap (drop (length (all.label output) - n)) f.is ∙ drop-drop (length (all.label output) - n) (length (all.label node) - length (all.label output)) (all.label node) ∙ ap (λ k. drop k (all.label node)) place

  -- an output is a string
  output_string : {label : Text} {output : ℕ} → IsOutput all label output → 0 < output → (0 < length (all.label output)) × IsString all.strings (all.label output)
  output_string o inside = (o.some inside, rw o.is (o.ends.ends (o.some inside)))

  -- the first is the node's own output
  pub first_output : {output : ℕ} → IsOutput all (all.label node) output → Follows all node output
  first_output {output} o = record { low = o.ends.within; is = o.is; some = output_string o }

  -- no string that the node ends with is longer than that
  pub none_longer : (output end top : ℕ) → IsOutput all (all.label node) output → (i m : ℕ) → ¬ PutsLonger all node end top output i m
  none_longer output end top o i m (n, lt, sum, longer, ends) =
      let (some, fits, own) = ends in
      let most = o.ends.longest (length (all.label node) - n) (omega (arith, some)) own in
      omega arith

  module _ (output fail next : ℕ) (f : Follows all node output) (s : StandsFor all.strings (all.label fail) (all.label output) 1) (o : IsOutput all (all.label fail) next) where
    fail_length : length (all.label fail) ≡ length (all.label output) - s.start
    fail_length = cc (s.is, length-drop s.start (all.label output))

    shorter : length (all.label next) ≤ length (all.label output) - s.start
    shorter = let w = o.ends.within in omega (arith, fail_length)

    -- the next is the output of the fallback
    pub next_output : Follows all node next
    next_output =
        let low = f.low in
        let high = s.high in
        let w = o.ends.within in
        let place : s.start + (length (all.label fail) - length (all.label next)) ≡ length (all.label output) - length (all.label next) = omega (arith, fail_length) in
        record {
          low = omega (arith, shorter, low);
          is = o.is ∙ ap (drop (length (all.label fail) - length (all.label next))) s.is ∙ drop-drop (length (all.label fail) - length (all.label next)) s.start (all.label output)
              ∙ ap (λ k. drop k (all.label output)) place ∙ end_of_output output (length (all.label next)) f (omega (arith, shorter));
          some = output_string o;
        }

    -- of the strings that the node ends with none is between them
    none_between : (n : ℕ) → n < length (all.label output) → EndsWith all.strings (all.label node) n → n ≤ length (all.label next)
    none_between n lt (some, fits, own) =
        let j = length (all.label output) - n in
        let here : IsString all.strings (drop j (all.label output)) = rw (end_of_output _ n f (omega arith)) own in
        let late : s.start ≤ j = elim (cases_lt j s.start) [ inl early ↦ absurd (s.none j (omega arith) early (string_front _ _ here)) | inr le ↦ le ] in
        let place : s.start + (j - s.start) ≡ j = omega arith in
        let part : drop (j - s.start) (all.label fail) ≡ drop j (all.label output) = cc (s.is, drop-drop (j - s.start) s.start (all.label output)) in
        let most = o.ends.longest (j - s.start) (omega (arith, fail_length, some)) (rw part here) in
        omega (arith, fail_length, some)

    -- where the output is put, those longer than the next are
    pub output_put : (end top start : ℕ) → 0 < output → length (all.label node) ≤ end → start ≡ end - length (all.label output) → (i m : ℕ)
        → (PutsLonger all node end top output i m ⊎ (i ≡ start) × (m < top)) ↔ PutsLonger all node end top next i m
    output_put end top start inside le at i m = (
      (λ h. elim h [
        | inl p ↦ let longer = p.3 in (p.0, p.1, p.2, omega (arith, shorter), p.4)
        | inr here ↦
            let own = f.some inside in
            let low = f.low in
            let first = s.low in
            let high = s.high in
            let long = own.0 in
            let h = here.0 in (
              length (all.label output),
              here.1,
              omega (arith, low),
              omega (arith, shorter),
              (long, low, rw f.is at own.1),
            )
      ]),
      (λ p.
          let (n, lt, sum, longer, ends) = p in
          elim (cases_lt (length (all.label output)) n) [
            | inl more ↦ inl (n, lt, sum, more, ends)
            | inr few ↦
                elim (cases_lt n (length (all.label output))) [
                  | inl less ↦ let most = none_between n less ends in absurd (omega arith)
                  | inr same ↦ inr (omega arith, lt)
                ]
          ]),
    )

-- at the root all are put
pub all_put : (all : Labels) (node end top output : ℕ) → length (all.label output) ≡ 0 → (i m : ℕ)
    → PutsLonger all node end top output i m ↔ ((n : ℕ) × (m < top) × (i + n ≡ end) × EndsWith all.strings (all.label node) n)
all_put all node end top output none i m = (
  (λ p. (p.0, p.1, p.2, p.4)),
  (λ p. let some = p.3.0 in (p.0, p.1, p.2, omega (arith, some), p.3)),
)

-- ---- a line's loop

-- an occurrence ends at a place up to this one
abbrev pub OccursBy : Labels → ℕ → Text → ℕ → ℕ → ℕ → Type 0
OccursBy all start line place i m = (j : ℕ) × (m < start + j) × (j ≤ place) × Occurs all.strings 0 line i j

module _ (all : Labels) (line : Text) (end node : ℕ) (within : end ≤ length line) (s : StandsAtNode all 0 line end node) where
  -- the strings that the node ends with are those that end here
  ends_here : (i : ℕ) → Occurs all.strings 0 line i end ↔ ((n : ℕ) × (i + n ≡ end) × EndsWith all.strings (all.label node) n)
  ends_here i = (
    (λ o.
        let size = node_length all 0 line end node within s in
        let lt = o.1 in
        let late = begins_with_node all 0 line end node s i o.0 (string_front _ _ o.3) in
        let place : i - s.start ≡ length (all.label node) - (end - i) = omega arith in (
          end - i,
          omega arith,
          (omega (arith, lt), omega (arith, size, late, lt), subst (IsString all.strings) (sym (same_end all 0 line end node i s late) ∙ ap (λ k. drop k (all.label node)) place) o.3),
        )),
    (λ h.
        let (n, sum, ends) = h in
        let (some, fits, own) = ends in
        let size = node_length all 0 line end node within s in
        let high = s.high in
        let low = s.low in
        let read = read_length line end within in
        let late : s.start ≤ i = omega arith in
        let place : i - s.start ≡ length (all.label node) - n = omega arith in (
          omega (arith, low),
          omega (arith, some),
          within,
          rw (ap (λ k. drop k (all.label node)) (sym place) ∙ same_end all 0 line end node i s late) at own,
        )),
  )

  -- one more place
  pub one_place_more : (start place : ℕ) → end ≡ place + 1 → (i m : ℕ)
      → (OccursBy all start line place i m ⊎ ((n : ℕ) × (m < start + end) × (i + n ≡ end) × EndsWith all.strings (all.label node) n)) ↔ OccursBy all start line end i m
  one_place_more start place one i m = (
    (λ h. elim h [
      | inl p ↦ let le = p.2 in (p.0, p.1, omega arith, p.3)
      | inr q ↦ (end, q.1, omega arith, (ends_here i).1 (q.0, q.2, q.3))
    ]),
    (λ p.
        let (j, lt, le, o) = p in
        elim (cases_lt j end) [
          | inl early ↦ inl (j, lt, omega arith, o)
          | inr late ↦
              let same : j ≡ end = omega arith in
              let here = (ends_here i).0 (rw same at o) in
              inr (here.0, omega arith, here.1, here.2)
        ]),
  )
