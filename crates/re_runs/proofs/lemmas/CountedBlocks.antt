-- Newlines of a block, and a text in a line.
use Rattle.re_runs.proofs.{Prelude.{inl, inr, ◌≡◌, ◌≢◌, ℕ, suc, ◌+◌, ◌-◌, ◌<◌, ◌≤◌, List, [], ◌∷◌, ◌++◌, length, drop, slice_range, slice_index, get_or, sym, ap, ◌∙◌, arith, length-append, length-drop, dec_le, drop-append-add, get_or-append-add, get_or-drop, drop-append-le, All-from_get_or, Text, newline, terminated, HasNoNewline, OccursAt, IsBlock, IsLineFrom, StandsIn, HoldsOfMany}, lemmas.{Ranges.{at_range, length_range, newline_at}}}
use native.Mathlib.Omega.{by_contra}

-- ---- where a newline is

-- a text with a newline is not without one
pub has_one : (xs ys : Text) → HasNoNewline (xs ++ newline ∷ ys) → ⊥
has_one xs ys free = free (length xs + 0) 0 (omega (arith, length-append xs (newline ∷ ys))) (get_or-append-add xs (newline ∷ ys) 0 0)

-- from each place of whole lines on there is a newline
newline_left : (lines : List Text) (i : ℕ) → i < length (terminated lines) → HasNoNewline (drop i (terminated lines)) → ⊥
newline_left [] i below h = absurd (omega arith)
newline_left (t ∷ ts) i below h = elim (dec_le i (length t)) [
  | yes near ↦ has_one _ _ (rw (drop-append-le i t (newline ∷ terminated ts) near) at h)
  | no far ↦
      (let n = i - length t - 1 in
      let place : length t + suc n ≡ i = omega arith in
      newline_left ts n (omega (arith, length-append t (newline ∷ terminated ts)))
      (rw (ap (λ m. drop m (terminated (t ∷ ts))) (sym place) ∙ drop-append-add t (newline ∷ terminated ts) (suc n)) at h))
]

-- so there is in a block
pub newline_follows : (block : Text) (k : ℕ) → IsBlock block → k < length block → HasNoNewline (drop k block) → ⊥
newline_follows block k (lines, free, is) below none = newline_left _ k (omega (arith, ap length is)) (rw is at none)

-- after another byte more bytes follow
pub more_follow : (block : Text) (k : ℕ) → IsBlock block → k < length block → (slice_index block k ≡ newline → ⊥) → k + 1 < length block
more_follow block k whole below other = by_contra _ _ (λ le. newline_follows block k whole below
    (All-from_get_or (λ b. b ≢ newline) (drop k block) 0 (λ i lt same. other (ap (λ n. get_or block n 0) (omega (arith, length-drop k block)) ∙ sym (get_or-drop k block i 0) ∙ same))))

-- ---- a text in a line

module _ (text block : Text) (at : ℕ) (o : OccursAt block text at) where
  -- the line around the text, which ends after it, has it
  pub stands_around : (start end : ℕ) → start ≤ at → at + length text ≤ end → IsLineFrom block start end → StandsIn text (slice_range block start end)
  stands_around start end low fits cut = (
    at - start,
    record { fits = omega (arith, length_range block start end (omega (arith, cut.1))); reads = λ j below. at_range block start end (at - start + j) (omega arith) ∙ ap (λ n. get_or block n 0) (omega arith) ∙ o.reads j below },
  )

  -- if the line ends before the text does, no line has the text
  pub stands_nowhere : (end : ℕ) → IsLineFrom block at end → end < at + length text → (line : Text) → HasNoNewline line → ¬ StandsIn text line
  stands_nowhere end cut far line free (k, there) =
      let low = cut.0 in let fits = there.fits in
      free (k + (end - at)) 0 (omega arith) (there.reads (end - at) (omega arith) ∙ sym (o.reads (end - at) (omega arith)) ∙ ap (λ n. get_or block n 0) (omega arith) ∙ newline_at block at end cut)

-- ---- the same lines in another form

pub counts_same : (P Q : Text → Type 0) → ((line : Text) → P line → Q line) → ((line : Text) → Q line → P line) → (lines : List Text) (n : ℕ) → HoldsOfMany P lines n → HoldsOfMany Q lines n
counts_same P Q to from [] n h = h
counts_same P Q to from (line ∷ lines) n (m, h, inl (holds, is)) = (m, counts_same P Q to from lines m h, inl (to line holds, is))
counts_same P Q to from (line ∷ lines) n (m, h, inr (not, is)) = (m, counts_same P Q to from lines m h, inr (λ q. not (from line q), is))
