-- Marks of lines that are paired with some pattern, or with some of them.
use Rattle.line_finds.proofs.{Prelude.{◌≡◌, ℕ, suc, ◌<◌, ◌==◌, Bool, true, false, not, ◌||◌, List, [], ◌∷◌, inl, inr, length, replicate, get_or, sym, arith, list_any, cases_eq, nat_tests, set, get_or-map, or-true, or-false, length-map, length-set, get_or-set_other, length-replicate, get_or-replicate, get_or-set_at, All-head, All-tail, All-get_or, Match, numbers_at, has_own, is_other, is_paired, AreBelow, pair_of, pairs_of, marked, marked_of}, lemmas.PairLaws.{eq_yes, eq_no}}
use Rattle.std.proofs.Math.Bool.{or_assoc as or-assoc}

not_none : (n : ℕ) → (suc n == 0) ≡ false
not_none n = grind (arith, nat_tests)

pub marked_is : (pairs : List Match) (marks : List Bool) → AreBelow (length marks) (pairs_of pairs) → (k : ℕ) → get_or (marked pairs marks) k false ≡ (get_or marks k false || is_paired k (pairs_of pairs))
marked_is [] marks h k = sym (or-false (get_or marks k false))
marked_is (pair ∷ pairs) marks h k =
    let set_marks = set marks pair.line true in
    let rest = pairs_of pairs in
    let less = All-head (λ x. x.0 < length marks) (pair_of pair) rest h in
    let later : AreBelow (length set_marks) rest = rw (length-set marks pair.line true) (All-tail (λ x. x.0 < length marks) (pair_of pair) rest h) in
    let more = marked_is pairs set_marks later k in
    elim (cases_eq k pair.line) [
      | inl e ↦ cc (get_or-set_at marks pair.line k true false e less, or-true (get_or marks k false), not_none (length (numbers_at k rest)), eq_yes _ k (sym e))
      | inr n ↦ cc (get_or-set_other marks pair.line k true false n, eq_no pair.line k (λ e. n (sym e)))
    ]

pub marked_of_is : (first count : ℕ) (pairs : List Match) (marks : List Bool) → AreBelow (length marks) (pairs_of pairs) → (k : ℕ) → get_or (marked_of first count pairs marks) k false ≡ (get_or marks k false || has_own first count (numbers_at k (pairs_of pairs)))
marked_of_is first count [] marks h k = sym (or-false (get_or marks k false))
marked_of_is first count (pair ∷ pairs) marks h k =
    let test : ℕ → Bool = λ n. not (is_other first count n) in
    let one = get_or marks pair.line false || test pair.number in
    let set_marks = set marks pair.line one in
    let rest = pairs_of pairs in
    let less = All-head (λ x. x.0 < length marks) (pair_of pair) rest h in
    let later : AreBelow (length set_marks) rest = rw (length-set marks pair.line one) (All-tail (λ x. x.0 < length marks) (pair_of pair) rest h) in
    let more = marked_of_is first count pairs set_marks later k in
    let others = list_any test (numbers_at k rest) in
    elim (cases_eq k pair.line) [
      | inl e ↦ cc (get_or-set_at marks pair.line k one false e less, or-assoc (get_or marks k false) (test pair.number) others, eq_yes _ k (sym e))
      | inr n ↦ cc (get_or-set_other marks pair.line k one false n, eq_no pair.line k (λ e. n (sym e)))
    ]

-- each pair's line has a mark
pub line_below : (old marks : List Bool) (pairs : List Match) (i : ℕ) → length marks ≡ length old → i < length pairs → AreBelow (length old) (pairs_of pairs) → (get_or pairs i (record { line = 0; number = 0 })).line < length marks
line_below old marks pairs i same low h =
    let none : Match = record { line = 0; number = 0 } in
    let many = length-map pairs pair_of in
    let there = All-get_or (λ x. x.0 < length old) (pairs_of pairs) i (pair_of none) (omega arith) h in
    let here = rw (get_or-map pair_of pairs i none) at there in
    rw same here

-- ---- goals of functions

pub all_below : (there : List Match) (all : List (ℕ × ℕ)) {size : ℕ} (none : List Bool) → pairs_of there ≡ all → length none ≡ size → AreBelow size all → AreBelow (length none) (pairs_of there)
all_below there all none is many h = rw many (rw is h)

-- marks of no line, and then of those that are paired
pub marks_are : (pairs : List Match) (all : List (ℕ × ℕ)) (size : ℕ) {marks : List Bool} (none : List Bool) → pairs_of pairs ≡ all → none ≡ replicate size false → marks ≡ marked pairs none → AreBelow size all → (k : ℕ) → k < size → get_or marks k false ≡ is_paired k all
marks_are pairs all size none is clear set h k low =
    let many : length none ≡ size = cc (length-replicate size false) in
    let below : AreBelow (length none) (pairs_of pairs) = rw many (rw is h) in
    cc (marked_is pairs none below k, get_or-replicate size k false false low)

pub marks_of_are : (first count : ℕ) (pairs : List Match) (all : List (ℕ × ℕ)) (size : ℕ) {marks : List Bool} (none : List Bool) → pairs_of pairs ≡ all → none ≡ replicate size false → marks ≡ marked_of first count pairs none → AreBelow size all → (k : ℕ) → k < size → get_or marks k false ≡ has_own first count (numbers_at k all)
marks_of_are first count pairs all size none is clear set h k low =
    let many : length none ≡ size = cc (length-replicate size false) in
    let below : AreBelow (length none) (pairs_of pairs) = rw many (rw is h) in
    cc (marked_of_is first count pairs none below k, get_or-replicate size k false false low)
