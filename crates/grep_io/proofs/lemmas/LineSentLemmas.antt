-- Lines that are sent whole after what waited.
use Rattle.grep_io.proofs.{Prelude.{◌≡◌, ◌≢◌, ℕ, ◌+◌, ◌-◌, ◌<◌, ◌≤◌, [], ◌++◌, Option, Some, None, Result, Ok, Err, IfSome, MatchResult, length, take, drop, sym, ap, ◌∙◌, arith, append-nil, append_assoc, take-append-drop, length-append, length-take, Keeps-trans, take-append-add, drop-append_seam, take_all, take-take, take-append-le, All-append, All-drop, All-nil, Keeps, Appends, append_known, Text, newline, HasNoNewline, one_more, Counts, PushAppends, BufferedWriter, SendsSome, all_contents, SendsFront, SendsLine}, lemmas.BufferLemmas.{holding, kept_by_some}}

-- the first bytes of two texts, more than the first text has
take_after : (held line : Text) (n : ℕ) → length held ≤ n → take n (held ++ line) ≡ held ++ take (n - length held) line
take_after held line n h =
    let split : n ≡ length held + (n - length held) = omega arith in
    cc (take-append-add held line (n - length held))

-- the front of two texts of the first one's length is the first
front_of_both : (held line : Text) (n : ℕ) → n ≡ length held → take n (held ++ line) ≡ held
front_of_both held line n is = take-append-le n held line (omega arith) ∙ take_all n held (omega arith)

module _ {W : Type 0} (contents : W → Option Text) (failures : W → ℕ) where
  -- no byte of the line was sent, and a write failed
  pub line_stays : (a b : W) {both rest : Text} (held line back : Text) (n k : ℕ) → both ≡ held ++ line → k ≡ length held → n ≤ k → Appends (contents a) (contents b) (take n both) → failures b ≡ one_more (failures a) → back ≡ take k both → rest ≡ drop n back → SendsSome contents failures (holding a held) (holding b rest)
  line_stays a b held line back n k joined is low went more cut left =
      let again : back ≡ held = cc (front_of_both held line k is) in record {
        front = take n held;
        cut = cc (take-append-drop n held, sym (left ∙ ap (drop n) again));
        written = rw (joined, take-append-le n held line (omega arith)) at went;
        counted = more;
      }

  -- bytes of the line were sent
  pub line_goes : (a b : W) {both rest : Text} (held line : Text) (n k : ℕ) → both ≡ held ++ line → k ≡ length held → k < n → n ≤ length both → Appends (contents a) (contents b) (take n both) → failures b ≡ failures a → rest ≡ [] → SendsLine contents failures (holding a held) (holding b rest) line (Some (n - k))
  line_goes a b {both} held line n k joined is low high went same none =
      let long : length both ≡ length held + length line = cc (length-append held line) in
      let place : n - length held ≡ n - k = omega arith in (omega arith, omega arith, none, same, rw (joined, take_after held line n (omega arith), place) at went)

-- a text was written after what waited
passed_after : (a b c : Option Text) {rest : Text} (held bytes : Text) → Keeps a (append_known b held) → Appends b c (held ++ bytes) → rest ≡ [] → Appends a (append_known c rest) bytes
passed_after None b c held bytes p q none = tt
passed_after (Some x) None c held bytes p q none = absurd p
passed_after (Some x) (Some y) None held bytes p q none = absurd q
passed_after (Some x) (Some y) (Some z) held bytes p q none = cc (append-nil z, append_assoc y held bytes)

-- the end of a text without newline has none
no_newline_after : {text : Text} (front rest : Text) → text ≡ front ++ rest → HasNoNewline text → HasNoNewline rest
no_newline_after {text} front rest cut none = rw (cut, drop-append_seam front rest) at (All-drop (λ b. b ≢ newline) (length front) text none)

-- two texts without newline have none together
pub no_newline_in_both : (held more both : Text) → both ≡ held ++ more → HasNoNewline held → HasNoNewline more → HasNoNewline both
no_newline_in_both held more both joined first second = rw joined (All-append (λ b. b ≢ newline) held more first second)

no_newline_in_none : {rest : Text} → rest ≡ [] → HasNoNewline rest
no_newline_in_none none = rw none (All-nil (λ b. b ≢ newline))

module _ {W : Type 0} (contents : W → Option Text) (failures : W → ℕ) where
  -- no newline waits after a beginning that was to be sent
  pub no_newline_after_front : {T E : Type 0} (old new : BufferedWriter W) (n : ℕ) (r : Result T E) → MatchResult r (λ _. SendsFront contents failures n old new) (λ _. SendsSome contents failures old new) → HasNoNewline old.waiting → HasNoNewline new.waiting
  no_newline_after_front old new n (Ok v) went none = rw went.rest (All-drop (λ b. b ≢ newline) n old.waiting none)
  no_newline_after_front old new n (Err e) went none = no_newline_after went.front new.waiting went.cut none

  -- no newline waits after a line that was to be sent
  pub no_newline_waits : (old new : BufferedWriter W) (line : Text) (sent : Option ℕ) → SendsLine contents failures old new line sent → HasNoNewline old.waiting → HasNoNewline new.waiting
  no_newline_waits old new line None went none = no_newline_after went.front new.waiting went.cut none
  no_newline_waits old new line (Some n) went none = no_newline_in_none went.2

  pub line_taken : (old new : BufferedWriter W) (line : Text) (sent : Option ℕ) → SendsLine contents failures old new line sent → IfSome sent (λ n. 0 < n)
  line_taken old new line None went = tt
  line_taken old new line (Some n) went = went.0

  pub line_within : (old new : BufferedWriter W) (from : Text) (m : ℕ) (sent : Option ℕ) → SendsLine contents failures old new (take m from) sent → IfSome sent (λ n. n ≤ length from)
  line_within old new from m None went = tt
  line_within old new from m (Some n) went = omega (arith, length-take m from)

  -- what was given before and the line are the bytes of the whole call
  pub line_written : (old : BufferedWriter W) (inner last : W) (waiting rest from : Text) (m : ℕ) (sent : Option ℕ) → Keeps (all_contents contents old) (append_known (contents inner) waiting) → SendsLine contents failures (holding inner waiting) (holding last rest) (take m from) sent → PushAppends (all_contents contents old) (append_known (contents last) rest) sent from
  line_written old inner last waiting rest from m None kept went = Keeps-trans (all_contents contents old) (append_known (contents inner) waiting) (append_known (contents last) rest) kept (kept_by_some _ _ _ _ went)
  line_written old inner last waiting rest from m (Some n) kept went =
      let part = take-take n m from (omega (arith, length-take m from)) in
      passed_after (all_contents contents old) (contents inner) (contents last) waiting (take n from) kept (rw part at went.4) went.2

  pub line_counted : {mid : BufferedWriter W} (old : BufferedWriter W) (inner last : W) (waiting rest line : Text) (sent : Option ℕ) → (let now : BufferedWriter W = record { inner = inner; waiting = waiting } in now ≡ mid) → failures mid.inner ≡ failures old.inner → SendsLine contents failures (holding inner waiting) (holding last rest) line sent → Counts (failures old.inner) (failures last) sent
  line_counted old inner last waiting rest line None is same went = cc (went.counted, ap (λ (b : BufferedWriter W). failures b.inner) is)
  line_counted old inner last waiting rest line (Some n) is same went = cc (went.3, ap (λ (b : BufferedWriter W). failures b.inner) is)
