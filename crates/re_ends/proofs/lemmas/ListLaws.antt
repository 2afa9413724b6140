-- Lists of ends, and which of them stay.
use Rattle.{re_ends.{proofs.Prelude.{◌≡◌, ℕ, zero, suc, ◌+◌, ◌-◌, ◌<◌, ◌≤◌, inl, inr, ◌⊎◌, List, [], ◌∷◌, ◌++◌, get_or, length, length-append, slice_index, set, take, refl, sym, ap, ◌∙◌, arith, cases_lt, get_or_append_left}, specs.{declared.list.Run.Run, Working.Groups.{Grow, numbers, numbers_of}}}, std.{specs.List.{range_with_len, CopiedTo, SameBelow, SameFrom}, proofs.{Common.{append_assoc, append-nil}, lemmas.{Grind.flat_map-append, List.{take_all, take_more, Concat.get_or-flat_map, Folds.length-flat_map-take, FromFn.{get_or-range_with_len, length-range_with_len}}}, Math.Seq.get_or-append_seam}}}

-- the ends and the place after them, by number
pub end_cases : (ends : List ℕ) (place n : ℕ) → n < length (ends ++ place ∷ []) → ((n < length ends) × (slice_index (ends ++ place ∷ []) n ≡ slice_index ends n)) ⊎ ((n ≡ length ends) × (slice_index (ends ++ place ∷ []) n ≡ place))
end_cases ends place n lt = elim (cases_lt n (length ends)) [
  | inl less ↦ inl (less, get_or_append_left ends (place ∷ []) 0 n less)
  | inr ge ↦ let same : length ends ≡ n = omega (arith, lt, ge, length-append ends (place ∷ [])) in inr (sym same, rw same at (get_or-append_seam ends place [] 0))
]

-- numbers that follow each other, of which none is over n
pub run_within : (first n : ℕ) (kept : List ℕ) → first ≡ slice_index kept 0 → kept ≡ range_with_len first (length kept) → ((k : ℕ) → k < length kept → slice_index kept k ≤ n) → first + length kept ≤ n + 1
run_within first n [] at is within = omega (arith, at)
run_within first n (x ∷ xs) at is within =
    let last = ap (λ l. slice_index l (length xs)) is ∙ get_or-range_with_len first (suc (length xs)) (length xs) 0 (omega arith) in
    let le = within (length xs) (omega arith) in omega (arith, last, le)

-- each run has a number
pub few_runs : (runs : List Run) → length runs ≤ length (numbers_of runs)
few_runs [] = omega arith
few_runs (r ∷ rs) = let le = few_runs rs in omega (arith, le, length-append (numbers r) (numbers_of rs), length-range_with_len r.first (suc r.more))

-- of the elements from `base` on, those of the runs from k on lie together, and none before them have moved
pub record AreJoined (runs : List Run) (old now : List ℕ) (base at k : ℕ) : Type 0 where
  pub some : k < length runs
  pub within : base + at + length (numbers_of runs) ≤ length old + length (numbers_of (take k runs))
  pub start : length (numbers_of (take k runs)) ≤ at
  pub under : (i : ℕ) → i < length (numbers_of (take k runs)) → slice_index (numbers_of runs) i < at
  pub len : length now ≡ length old
  pub low : (i : ℕ) → i < base + at → slice_index now i ≡ slice_index old i
  pub joined : (i : ℕ) → length (numbers_of (take k runs)) ≤ i → i < length (numbers_of runs) → slice_index now (base + (at - length (numbers_of (take k runs))) + i) ≡ slice_index old (base + slice_index (numbers_of runs) i)

pub no_runs : (runs : List Run) → length runs ≡ 0 → numbers_of runs ≡ []
no_runs [] none = refl
no_runs (r ∷ rs) none = absurd (omega (arith, none))

least : (xs : List ℕ) → Grow xs → (i : ℕ) → i < length xs → i ≤ slice_index xs i
least xs grow zero lt = omega arith
least xs grow (suc i) lt = let le = least xs grow i (omega (arith, lt)) in let less = grow i (suc i) (omega arith) lt in omega (arith, le, less)

-- one run of others
module _ (runs : List Run) (d : Run) (k : ℕ) (lt : k < length runs) where
  abbrev r : Run
  r = get_or runs k d

  abbrev before : ℕ
  before = length (numbers_of (take k runs))

  run_room : (length (numbers_of (take (suc k) runs)) ≡ before + suc r.more) × (before + r.more < length (numbers_of runs))
  run_room =
      let one : suc k ≡ k + 1 = omega arith in
      let long = length-range_with_len r.first (suc r.more) in
      let all = ap (λ n. length (numbers_of (take n runs))) one ∙ ap (λ l. length (numbers_of l)) (take_more runs k d lt) ∙ ap length (flat_map-append numbers (take k runs) (r ∷ [])) in
      (omega (arith, all, long, length-append (numbers_of (take k runs)) (numbers_of (r ∷ [])), length-append (numbers r) []), omega (arith, length-flat_map-take numbers runs k d lt, long))

  run_number : (i : ℕ) → before ≤ i → i ≤ before + r.more → slice_index (numbers_of runs) i ≡ r.first + (i - before)
  run_number i ge le =
      let here : before + (i - before) ≡ i = omega (arith, ge) in
      ap (λ n. slice_index (numbers_of runs) n) (sym here) ∙ get_or-flat_map numbers runs k (i - before) d 0 lt (omega (arith, here, le, length-range_with_len r.first (suc r.more))) ∙ get_or-range_with_len r.first (suc r.more) (i - before) 0 (omega (arith, here, le))

  module _ (grow : Grow (numbers_of runs)) where
    first : (before ≤ r.first) × ((i : ℕ) → i < before → slice_index (numbers_of runs) i < r.first)
    first =
        let is = run_number before (omega arith) (omega arith) in
        let le = least (numbers_of runs) grow before (omega (arith, run_room.1)) in
        (omega (arith, is, le), λ i lt. let less = grow i before lt (omega (arith, run_room.1)) in omega (arith, less, is))

    -- the last stays where it is
    pub last_joined : (old : List ℕ) (base : ℕ) → suc k ≡ length runs → ((j : ℕ) → j < length (numbers_of runs) → base + slice_index (numbers_of runs) j < length old) → AreJoined runs old old base r.first k
    last_joined old base end within =
        let all = ap (λ l. length (numbers_of l)) (take_all (suc k) runs (omega (arith, end))) in
        let last = within (before + r.more) run_room.1 in
        let is = run_number (before + r.more) (omega arith) (omega arith) in
        record {
          some = lt;
          within = omega (arith, last, is, all, run_room.0);
          start = first.0;
          under = first.1;
          len = refl;
          low = λ i lt. refl;
          joined = λ i ge lt. ap (λ n. slice_index old n) (let number = run_number i ge (omega (arith, lt, all, run_room.0)) in let here : base + (r.first - before) + i ≡ base + slice_index (numbers_of runs) i = omega (arith, number, ge, first.0) in here);
        }

    module _ (old now : List ℕ) (base at : ℕ) (a : AreJoined runs old now base at (suc k)) where
      pub joined_fits : (r.first + (r.more + 1) ≤ at) × (base + at ≤ length old)
      joined_fits = let last = a.under (before + r.more) (omega (arith, run_room.0)) in let is = run_number (before + r.more) (omega arith) (omega arith) in (omega (arith, last, is), omega (arith, a.within, run_room.0, run_room.1))

      -- the run before them is moved
      pub joined_next : (new : List ℕ) (n : ℕ) → n ≡ r.more + 1 → length new ≡ length now → CopiedTo now new (base + r.first) (base + (at - (r.more + 1))) n × SameBelow now new (base + (at - (r.more + 1))) × SameFrom now new (base + (at - (r.more + 1)) + n) → AreJoined runs old new base (at - (r.more + 1)) k
      joined_next new n size long (copied, below, from) =
          let fits = joined_fits.0 in
          record {
            some = lt;
            within = omega (arith, a.within, fits, run_room.0);
            start = omega (arith, first.0, fits);
            under = λ i less. let lower = first.1 i less in omega (arith, lower, fits);
            len = long ∙ a.len;
            low = λ i less. below i 0 less ∙ a.low i (omega (arith, less));
            joined = λ i ge less.
                let p = base + (at - (r.more + 1) - before) + i in
                elim (cases_lt i (before + suc r.more)) [
                  | inl inside ↦
                      let number = run_number i ge (omega (arith, inside)) in
                      let here : base + r.first + (p - (base + (at - (r.more + 1)))) ≡ base + slice_index (numbers_of runs) i = omega (arith, number, ge, fits, first.0) in
                      copied p 0 (omega (arith, ge, fits, first.0)) (omega (arith, ge, inside, fits, first.0, size)) ∙ a.low _ (omega (arith, here, number, inside, fits)) ∙ ap (λ m. slice_index old m) here
                  | inr after ↦
                      let same : p ≡ base + (at - length (numbers_of (take (suc k) runs))) + i = omega (arith, run_room.0, fits, first.0) in
                      from p 0 (omega (arith, after, fits, first.0, size)) ∙ ap (λ m. slice_index now m) same ∙ a.joined i (omega (arith, after, run_room.0)) less
                ];
          }

range_more : (first n : ℕ) → range_with_len first (suc n) ≡ range_with_len first n ++ (first + n) ∷ []
range_more first zero = ap (λ k. k ∷ []) (let is : first ≡ first + 0 = omega arith in is)
range_more first (suc n) = ap (λ l. first ∷ l) (range_more (first + 1) n ∙ ap (λ k. range_with_len (first + 1) n ++ k ∷ []) (let is : first + 1 + n ≡ first + suc n = omega arith in is))

-- the last run has a number more
pub run_added : (runs : List Run) (k : ℕ) (d : Run) → length runs ≡ suc k →
    numbers_of (set runs k (record { first = (get_or runs k d).first; more = (get_or runs k d).more + 1 })) ≡ numbers_of runs ++ ((get_or runs k d).first + (get_or runs k d).more + 1) ∷ []
run_added [] k d end = absurd (omega (arith, end))
run_added (x ∷ []) zero d end =
    let one : x.more + 1 ≡ suc x.more = omega arith in
    let next : x.first + suc x.more ≡ x.first + x.more + 1 = omega arith in
    append-nil (range_with_len x.first (suc (x.more + 1))) ∙ ap (λ n. range_with_len x.first (suc n)) one ∙ range_more x.first (suc x.more) ∙ ap (λ n. numbers x ++ n ∷ []) next ∙ ap (λ l. l ++ (x.first + x.more + 1) ∷ []) (sym (append-nil (numbers x)))
run_added (x ∷ y ∷ ys) zero d end = absurd (omega (arith, end))
run_added (x ∷ xs) (suc k) d end = ap (λ l. numbers x ++ l) (run_added xs k d (omega (arith, end))) ∙ sym (append_assoc (numbers x) (numbers_of xs) (((get_or xs k d).first + (get_or xs k d).more + 1) ∷ []))
