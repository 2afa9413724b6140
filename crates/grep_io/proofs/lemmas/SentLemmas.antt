-- Where rows end, and bytes that are sent of a buffer.
use Rattle.grep_io.proofs.Prelude.{◌≡◌, ◌≢◌, ℕ, ◌+◌, ◌≤◌, [], ◌∷◌, ◌++◌, Option, length, take, drop, sym, ap, ◌∙◌, arith, eq-eqb, eqb-true, length-drop, take-append-drop, take_more, take-take, get_or-drop, All-from_get_or, Appends, Nowhere, NoneAfter, Passes, is_byte, Text, newline, HasNoNewline, one_more, SendsSome, EndsRows, SendsFront}

-- where no newline is found there is none
pub no_row_ends : (bytes : Text) → Nowhere (Passes (is_byte newline) bytes) 0 (length bytes) → HasNoNewline bytes
no_row_ends bytes none = All-from_get_or (λ b. b ≢ newline) bytes 0 (λ i lt same. none i (omega arith) lt (eq-eqb _ newline same))

-- the rows end after the last newline
pub rows_end_after : (bytes : Text) (k : ℕ) → NoneAfter (Passes (is_byte newline) bytes) 0 (length bytes) k → Passes (is_byte newline) bytes k → EndsRows bytes (k + 1)
rows_end_after bytes k last is = record {
  some = omega arith;
  within = omega arith;
  front = take k bytes;
  ended = take_more bytes k 0 last.high ∙ ap (λ b. take k bytes ++ b ∷ []) (eqb-true _ newline is);
  none_after = All-from_get_or (λ b. b ≢ newline) (drop (k + 1) bytes) 0
      (λ i lt same. last.after (k + 1 + i) (omega arith) (omega (arith, length-drop (k + 1) bytes)) (eq-eqb _ newline (sym (get_or-drop (k + 1) bytes i 0) ∙ same)));
}

module _ {W : Type 0} (contents : W → Option Text) (failures : W → ℕ) where
  -- n of the first m bytes were sent, which are all of them
  pub front_sent : (a b : W) (held rest : Text) (n m : ℕ) → m ≤ length held → n ≤ m → m ≤ n → Appends (contents a) (contents b) (take n (take m held)) → rest ≡ drop n held → failures b ≡ failures a → SendsFront contents failures m (record { inner = a; waiting = held }) (record { inner = b; waiting = rest })
  front_sent a b held rest n m within low high went is same =
      let all : n ≡ m = omega arith in record {
        written = rw (take-take n m held low, all) at went;
        rest = cc;
        none_failed = same;
      }

  -- n of the first m bytes were sent, and a write failed
  pub some_sent : (a b : W) {rest : Text} (held : Text) (n m : ℕ) → n ≤ m → Appends (contents a) (contents b) (take n (take m held)) → rest ≡ drop n held → failures b ≡ one_more (failures a) → SendsSome contents failures (record { inner = a; waiting = held }) (record { inner = b; waiting = rest })
  some_sent a b held n m low went is more = record {
    front = take n held;
    cut = cc (take-append-drop n held);
    written = rw (take-take n m held low) at went;
    counted = more;
  }

pub ruleset ending = (no_row_ends, rows_end_after)
