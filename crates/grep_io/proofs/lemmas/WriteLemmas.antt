-- Writes one after another.
use Rattle.grep_io.proofs.Prelude.{◌≡◌, ℕ, ◌+◌, ◌≤◌, [], ◌++◌, Option, Result, Ok, Err, IsErr, length, take, drop, slice_range, refl, sym, ◌∙◌, arith, append_assoc, append-nil, take-append-drop, Appends-trans, Appends-nil, Appends, Text, one_more, StopsWithin, GoesOut, Writes, false≢true, take-take, drop-take, take_rest, take_all}

-- the first `at` bytes and n more are the first `at + n`
take_further : (at n : ℕ) (bs : Text) → at + n ≤ length bs → take at bs ++ take n (slice_range bs at (length bs)) ≡ take (at + n) bs
take_further at n bs h = cc (take_rest bs at, drop-take at n bs, take-take at (at + n) bs (omega arith), take-append-drop at (take (at + n) bs))

-- n more bytes were written
pub written_further : (a b c : Option Text) (at n : ℕ) (bs : Text) → at + n ≤ length bs → Appends a b (take at bs) → Appends b c (take n (slice_range bs at (length bs))) → Appends a c (take (at + n) bs)
written_further a b c at n bs h first second = rw (take_further at n bs h) at (Appends-trans a b c _ _ first second)

module _ {W : Type 0} (contents : W → Option Text) (failures : W → ℕ) where
  -- n of the bytes were written, and then a write failed
  pub stops_at : (a b : W) (n : ℕ) (bytes : Text) → Appends (contents a) (contents b) (take n bytes) → failures b ≡ one_more (failures a) → StopsWithin contents failures a b bytes
  stops_at a b n bytes went more = record {
    front = take n bytes;
    rest = drop n bytes;
    cut = sym (take-append-drop n bytes);
    written = went;
    counted = more;
  }

  -- all of the bytes were written
  pub goes_whole : (a b : W) (n : ℕ) (bytes : Text) → length bytes ≤ n → Appends (contents a) (contents b) (take n bytes) → failures b ≡ failures a → GoesOut contents failures a b bytes
  goes_whole a b n bytes all went same = record {
    written = rw (take_all n bytes all) at went;
    none_failed = same;
  }

  -- nothing is written at once
  pub goes_nowhere : (a : W) → GoesOut contents failures a a []
  goes_nowhere a = record { written = Appends-nil (contents a); none_failed = refl }

  -- the second bytes were written after the first
  pub goes_on : (a b c : W) (xs ys : Text) → GoesOut contents failures a b xs → GoesOut contents failures b c ys → GoesOut contents failures a c (xs ++ ys)
  goes_on a b c xs ys p q = record {
    written = Appends-trans (contents a) (contents b) (contents c) xs ys p.written q.written;
    none_failed = q.none_failed ∙ p.none_failed;
  }

  -- a write failed within the first bytes
  pub stops_early : (a b : W) (xs ys : Text) → StopsWithin contents failures a b xs → StopsWithin contents failures a b (xs ++ ys)
  stops_early a b xs ys p = record {
    front = p.front;
    rest = p.rest ++ ys;
    cut = cc (p.cut, append_assoc p.front p.rest ys);
    written = p.written;
    counted = p.counted;
  }

  -- a write failed within the second bytes
  pub stops_later : (a b c : W) (xs ys : Text) → GoesOut contents failures a b xs → StopsWithin contents failures b c ys → StopsWithin contents failures a c (xs ++ ys)
  stops_later a b c xs ys p q = record {
    front = xs ++ q.front;
    rest = q.rest;
    cut = cc (q.cut, append_assoc xs q.front q.rest);
    written = Appends-trans (contents a) (contents b) (contents c) xs q.front p.written q.written;
    counted = cc (q.counted, p.none_failed);
  }

  -- a write failed within the bytes, and this is returned
  pub writes_no_more : {T E : Type 0} (a b : W) (bytes : Text) (r : Result T E) → IsErr r → StopsWithin contents failures a b bytes → Writes contents failures a b bytes r
  writes_no_more a b bytes (Ok v) failed p = absurd (false≢true failed)
  writes_no_more a b bytes (Err e) failed p = p

  -- the first bytes were written, and the second as the last call returns
  pub writes_last : {T E : Type 0} (a b c : W) (xs ys : Text) (r : Result T E) → GoesOut contents failures a b xs → Writes contents failures b c ys r → Writes contents failures a c (xs ++ ys) r
  writes_last a b c xs ys (Ok v) p q = goes_on a b c xs ys p q
  writes_last a b c xs ys (Err e) p q = stops_later a b c xs ys p q

  -- the bytes were written, and nothing more
  pub writes_then_nothing : {T E : Type 0} (a b c : W) (xs : Text) (r : Result T E) → GoesOut contents failures a b xs → Writes contents failures b c [] r → Writes contents failures a c xs r
  writes_then_nothing a b c xs r p q = rw (append-nil xs) at (writes_last a b c xs [] r p q)

pub ruleset pushing = (stops_at, goes_whole)
