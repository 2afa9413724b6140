-- The ranges of a buffer before and after a newline.
use Rattle.grep_io.proofs.Prelude.{◌≡◌, ◌≢◌, ℕ, ◌+◌, ◌-◌, ◌<◌, ◌≤◌, inl, inr, [], ◌∷◌, ◌++◌, Result, Ok, Err, OnErr, length, take, drop, slice_range, ap, ◌∙◌, arith, append_assoc, take-append-add, cases_lt, length-append, take-append-le, length-take, take-take, drop-take, drop-drop, All-append, All-take, All-tail, Text, newline, HasNoNewline, IsOneLineAndFew}

-- the first k bytes of a range are a range
front_of_range : (buffer : Text) (start end k : ℕ) → start + k ≤ end → take k (slice_range buffer start end) ≡ slice_range buffer start (start + k)
front_of_range buffer start end k h = take-take k (end - start) (drop start buffer) (omega arith) ∙ ap (λ n. take n (drop start buffer)) (omega arith)

-- what follows a byte in a range is a range
rest_of_range : (buffer : Text) (start end k : ℕ) → start + k < end → drop (k + 1) (slice_range buffer start end) ≡ slice_range buffer (start + k + 1) end
rest_of_range buffer start end k h =
    let split : end - start ≡ (k + 1) + (end - (start + k + 1)) = omega arith in
    let at : start + (k + 1) ≡ start + k + 1 = omega arith in
    rw (split, drop-take (k + 1) (end - (start + k + 1)) (drop start buffer), drop-drop (k + 1) start buffer, at)

-- a place within a range is before its end
pub below_range : (buffer : Text) (start end k : ℕ) → k < length (slice_range buffer start end) → start + k < end
below_range buffer start end k h = omega (arith, length-take (end - start) (drop start buffer))

-- what was ahead is the line, its newline and what is ahead now
pub ahead_at_newline : {line after : Text} (buffer before : Text) (start end k : ℕ) → start + k < end → slice_range buffer start end ≡ take k (slice_range buffer start end) ++ newline ∷ drop (k + 1) (slice_range buffer start end) → line ≡ before ++ slice_range buffer start (start + k) → after ≡ [] → before ++ slice_range buffer start end ≡ line ++ newline ∷ (after ++ slice_range buffer (start + k + 1) end)
ahead_at_newline buffer before start end k h cut is none = cc (cut ∙ ap (λ l. l ++ newline ∷ drop (k + 1) (slice_range buffer start end)) (front_of_range buffer start end k (omega arith)) ∙ ap (λ l. slice_range buffer start (start + k) ++ newline ∷ l) (rest_of_range buffer start end k h), append_assoc before (slice_range buffer start (start + k)) (newline ∷ slice_range buffer (start + k + 1) end))

-- what waited and what is before the first newline is a line
pub line_has_no_newline : {line : Text} (buffer before : Text) (start end k : ℕ) → start + k ≤ end → HasNoNewline before → HasNoNewline (take k (slice_range buffer start end)) → line ≡ before ++ slice_range buffer start (start + k) → HasNoNewline line
line_has_no_newline buffer before start end k h before_has front_has is = rw is (All-append (λ b. b ≢ newline) before (slice_range buffer start (start + k)) before_has (rw (front_of_range buffer start end k h) at front_has))

-- a beginning of one line and a few bytes more
pub one_line_and_few : (line more : Text) → HasNoNewline line → length more ≤ 65536 → IsOneLineAndFew (line ++ more)
one_line_and_few line more none few =
    let within : length (line ++ more) - 65536 ≤ length line = omega (arith, length-append line more) in
    rw (take-append-le (length (line ++ more) - 65536) line more within) (All-take (λ b. b ≢ newline) (length (line ++ more) - 65536) line none)

-- a beginning of one line alone
pub one_line : (line : Text) → HasNoNewline line → IsOneLineAndFew line
one_line line none = All-take (λ b. b ≢ newline) (length line - 65536) line none

-- no newline is in nothing
pub none_in_nothing : HasNoNewline []
none_in_nothing i d below = absurd (omega arith)

-- no newline is in what follows
none_after : (first more : Text) → HasNoNewline (first ++ more) → HasNoNewline more
none_after [] more h = h
none_after (b ∷ first) more h = none_after first more (All-tail (λ c. c ≢ newline) b (first ++ more) h)

-- what follows the first bytes of such
pub few_after : (first more : Text) → IsOneLineAndFew (first ++ more) → IsOneLineAndFew more
few_after first more h = elim (cases_lt (length more) 65536) [
  | inr long ↦ none_after first (take (length more - 65536) more)
      (let split : length (first ++ more) - 65536 ≡ length first + (length more - 65536) = omega (arith, length-append first more) in rw (split, take-append-add first more (length more - 65536)) at h)
  | inl short ↦ (let none : length more - 65536 ≡ 0 = omega arith in rw none none_in_nothing)
]

-- what holds anyway holds at a failure
pub at_failure : {T E : Type 0} (result : Result T E) (P : Type 0) → P → OnErr result P
at_failure (Ok v) P holds = tt
at_failure (Err e) P holds = holds
