-- Known sources, whose number of failures says that no read failed.
use Rattle.{grep_utility.proofs.Prelude.{◌≡◌, ℕ, ◌-◌, ◌^◌, ◌≤◌, min, Bool, true, false, if◌then◌else◌, IsTrue, List, [], ◌∷◌, ◌++◌, length, Option, None, Some, All, append-nil, refl, sym, ap, ◌∙◌, arith, inl, inr, false≢true, length-append, All-head, All-tail, Text, Expression, Options, IfHolds, File, broken, HasSelected, FaultMet, Source, Reading, not_opened, fails_after, ends_after, IsReadingOf, file_of, failures_of, AreReadings, FailuresMet, LeftMet, HasReturned, AllIsKnown, IsKnown, full_reading, in_full, unopened_by, unopened, CountDecides}, std.proofs.lemmas.List.nil_from_length, re_syntax.proofs.lemmas.SomeOfJoined.Any-single}

-- where it holds, the first case is
by_yes : {P A B : Type 0} → IfHolds P A B → P → A
by_yes (inl h) p = h.1
by_yes (inr h) p = absurd (h.0 p)

by_no : {P A B : Type 0} → IfHolds P A B → (P → ⊥) → B
by_no (inl h) p = absurd (p h.0)
by_no (inr h) p = h.1

module _ (es : List Expression) (options : Options) (loud : options.quiet ≡ false) (full : options.files_with_matches ≡ false) where
  -- a failed read is met in every file
  broken_met : (file : File) → file.ending ≡ broken → FaultMet es options file
  broken_met file is = rw is
      (λ left. absurd (false≢true (sym (cc) ∙ left)))

  -- no run stops before its end
  goes_on : (file : File) → IsTrue options.quiet × HasSelected es options file → ⊥
  goes_on file h = false≢true (sym loud ∙ h.0)

  either_broken : (b : Bool) (file other : File) → file.ending ≡ broken → other.ending ≡ broken → (if b then file else other).ending ≡ broken
  either_broken true file other p q = p
  either_broken false file other p q = q

  -- each failure of a source is met
  all_met : (name : Text) (r : Reading) (own : ℕ) → IfHolds (FaultMet es options (file_of name r)) (own ≡ failures_of r) (own ≡ 0) → own ≡ failures_of r
  all_met name not_opened own h = by_yes h tt
  all_met name (fails_after bytes) own h = by_yes h (broken_met (file_of name (fails_after bytes)) (either_broken _ _ _ refl refl))
  all_met name (ends_after bytes) own (inl h) = h.1
  all_met name (ends_after bytes) own (inr h) = h.1

  -- a source that cannot be opened fails
  fails_least : (name : Text) (opens : Option Bool) (bytes : Option Text) → AllIsKnown opens bytes → (r : Reading) → IsReadingOf (record { name = name; opens = opens; bytes = bytes }) r → unopened_by opens ≤ failures_of r
  fails_least name None bytes k r h = absurd k
  fails_least name (Some true) bytes k r h = omega arith
  fails_least name (Some false) bytes k not_opened h = omega arith
  fails_least name (Some false) bytes k (fails_after front) h = absurd (false≢true h.0)
  fails_least name (Some false) bytes k (ends_after all) h = absurd (false≢true h.0)

  -- a source that fails no more was read in full
  reads_full : (name : Text) (opens : Option Bool) (bytes : Option Text) → AllIsKnown opens bytes → (r : Reading) → IsReadingOf (record { name = name; opens = opens; bytes = bytes }) r → failures_of r ≤ unopened_by opens → r ≡ full_reading opens bytes
  reads_full name None bytes k r h few = absurd k
  reads_full name (Some true) None k r h few = absurd k
  reads_full name (Some true) (Some all) k not_opened h few = absurd (false≢true (sym h))
  reads_full name (Some true) (Some all) k (fails_after front) h few = absurd (omega arith)
  reads_full name (Some true) (Some all) k (ends_after bytes) h few = rw (← h.1)
  reads_full name (Some false) bytes k not_opened h few = refl
  reads_full name (Some false) bytes k (fails_after front) h few = absurd (false≢true h.0)
  reads_full name (Some false) bytes k (ends_after all) h few = absurd (false≢true h.0)

  -- there are at least as many failures as sources that cannot be opened
  least_met : (sources : List Source) (readings : List Reading) (n : ℕ) → All IsKnown sources → AreReadings sources readings → FailuresMet es options sources readings n → unopened sources ≤ n
  least_met [] readings n k a h = omega arith
  least_met (source ∷ sources) [] n k a h = absurd a
  least_met (source ∷ sources) (r ∷ readings) n k a h =
      let own = all_met source.name r h.0 h.2 in
      let here = fails_least source.name source.opens source.bytes (All-head IsKnown source sources k) r a.0 in
      let rest = least_met sources readings h.1 (All-tail IsKnown source sources k) a.1 (by_no h.3 (goes_on (file_of source.name r))) in
      let sum = h.4 in
      omega arith

  -- where there are no more, all were read in full
  pub all_in_full : (sources : List Source) (readings : List Reading) (n : ℕ) → All IsKnown sources → AreReadings sources readings → FailuresMet es options sources readings n → n ≤ unopened sources → readings ≡ in_full sources
  all_in_full [] [] n k a h few = refl
  all_in_full [] (r ∷ readings) n k a h few = absurd a
  all_in_full (source ∷ sources) [] n k a h few = absurd a
  all_in_full (source ∷ sources) (r ∷ readings) n k a h few =
      let own = all_met source.name r h.0 h.2 in
      let here = fails_least source.name source.opens source.bytes (All-head IsKnown source sources k) r a.0 in
      let beyond = by_no h.3 (goes_on (file_of source.name r)) in
      let least = least_met sources readings h.1 (All-tail IsKnown source sources k) a.1 beyond in
      let sum = h.4 in
      let first = reads_full source.name source.opens source.bytes (All-head IsKnown source sources k) r a.0 (omega arith) in
      let rest = all_in_full sources readings h.1 (All-tail IsKnown source sources k) a.1 beyond (omega arith) in
      λ i. first i ∷ rest i

  -- one source, a read of which failed once its reader had given all its bytes
  module _ (source : Source) (all : Text) (opens : source.opens ≡ Some true) (bytes : source.bytes ≡ Some all) (n : ℕ) (once : n ≡ 1) (before left : List (Option Text)) (back : HasReturned 1 1 (before ++ left)) where
    gave_all : (given : Text) → AreReadings (source ∷ []) (fails_after given ∷ []) → LeftMet es options (source ∷ []) (fails_after given ∷ []) left → given ≡ all
    gave_all given a l = sym (append-nil given) ∙ sym (rw x_is at (rw bytes at l.2.2))
      where
        x : Option Text
        x = l.2.0

        left_is : left ≡ x ∷ []
        left_is =
            let none = by_no l.3 (goes_on (file_of source.name (fails_after given))) in
            l.4 ∙ ap (λ t. l.0 ++ t) none ∙ append-nil l.0 ∙ l.2.1

        whole : HasReturned 1 1 (before ++ x ∷ [])
        whole = rw left_is at back

        none_before : before ≡ []
        none_before =
            let len = length-append before (x ∷ []) in
            let one : 1 ≡ min (length (before ++ x ∷ [])) (2 ^ 64 - 1) = whole.0 in
            nil_from_length before (omega arith)

        x_is : x ≡ Some []
        x_is = elim whole.1 [
          | inl none ↦ absurd (omega arith)
          | inr some ↦ Any-single (λ rest. rest ≡ Some []) x (rw none_before at some)
        ]

    pub one_broken : (readings : List Reading) → AreReadings (source ∷ []) readings → FailuresMet es options (source ∷ []) readings n → LeftMet es options (source ∷ []) readings left → readings ≡ fails_after all ∷ []
    one_broken [] a h l = absurd a
    one_broken (r ∷ s ∷ rs) a h l = absurd a.1
    one_broken (not_opened ∷ []) a h l = absurd (false≢true (sym (rw opens at a.0)))
    one_broken (ends_after given ∷ []) a h l =
        let own = all_met source.name (ends_after given) h.0 h.2 in
        let rest = by_no h.3 (goes_on (file_of source.name (ends_after given))) in
        let sum = h.4 in
        absurd (omega arith)
    one_broken (fails_after given ∷ []) a h l = rw (gave_all _ a l)

-- the count of failures tells that all sources were read in full
pub count_decides : (options : Options) → CountDecides options
count_decides options es sources readings loud full known are met = all_in_full es options loud full sources _ (unopened sources) known are met (omega arith)
