-- Lines that are written one after another, by the lines that are left.
use Rattle.{grep_session.proofs.Prelude.{◌≡◌, ℕ, ◌+◌, ◌<◌, List, [], ◌∷◌, ◌++◌, length, drop, get_or, map, Option, Result, Ok, Err, IfOk, refl, ap, ◌∙◌, add-one, append_assoc, append-nil, IsErr, Text, output_line, written, GoesOut, StopsWithin, Writes, drop-cons, false≢true}, grep_core.proofs.lemmas.{RowLemmas.{goes_nowhere, goes_on, stops_early, stops_later, writes_last}, WriterLaws.written-append}}

-- the elements from a place on are the element there and those after it
pub drop-next : {A : Type 0} (xs : List A) (i : ℕ) (d : A) → i < length xs → drop i xs ≡ get_or xs i d ∷ drop (i + 1) xs
drop-next xs i d inside = cc (drop-cons xs i d inside, add-one i)

-- the same, where the element has a name
pub drop-item : {A : Type 0} (xs : List A) (i : ℕ) (x : A) → i < length xs → x ≡ get_or xs i x → drop i xs ≡ x ∷ drop (i + 1) xs
drop-item xs i x inside is = cc (drop-next xs i x inside)

-- nothing is said of the value at an error
pub if_ok : {T E : Type 0} (P : T → Type 0) (r : Result T E) → IsErr r → IfOk r P
if_ok P (Ok v) is = absurd (false≢true is)
if_ok P (Err e) is = tt

module _ {W : Type 0} (contents : W → Option Text) (failures : W → ℕ) (margin : Text) where
  -- some of the lines were written, and these are left
  pub record WrittenUpTo (old now : W) (all left : List Text) : Type 0 where
    pub done : List Text
    pub wrote : GoesOut contents failures old now (written margin done)
    pub joined : all ≡ done ++ left

  pub none_written : (a : W) (all : List Text) → WrittenUpTo a a all all
  none_written a all = record { done = []; wrote = goes_nowhere contents failures a; joined = refl }

  -- the next lines were written
  pub written_on : (a b c : W) (all left here rest : List Text) → left ≡ here ++ rest → WrittenUpTo a b all left → GoesOut contents failures b c (written margin here) → WrittenUpTo a c all rest
  written_on a b c all left here rest next s g = record {
    done = s.done ++ here;
    wrote = rw (written-append margin s.done here) (goes_on contents failures a b c (written margin s.done) (written margin here) s.wrote g);
    joined = cc (s.joined, append_assoc s.done here rest);
  }

  -- none is left
  pub all_written : (a b : W) (all left : List Text) → left ≡ [] → WrittenUpTo a b all left → GoesOut contents failures a b (written margin all)
  all_written a b all left none s = rw (s.joined ∙ ap (λ l. s.done ++ l) none ∙ append-nil s.done) s.wrote

  -- a write failed within the next lines
  pub broken_off : (a b c : W) (all left here rest : List Text) → left ≡ here ++ rest → WrittenUpTo a b all left → StopsWithin contents failures b c (written margin here) → StopsWithin contents failures a c (written margin all)
  broken_off a b c all left here rest next s f =
      let is : all ≡ (s.done ++ here) ++ rest = cc (s.joined, append_assoc s.done here rest) in
      rw (ap (written margin) is ∙ written-append margin (s.done ++ here) rest ∙ ap (λ l. l ++ written margin rest) (written-append margin s.done here))
      (stops_early contents failures a c (written margin s.done ++ written margin here) (written margin rest) (stops_later contents failures a b c (written margin s.done) (written margin here) s.wrote f))

  -- some lines were written, and the others as the last call returned
  pub writes_after : {T E : Type 0} (a b c : W) (xs ys : List Text) (r : Result T E) → GoesOut contents failures a b (written margin xs) → Writes contents failures b c (written margin ys) r → Writes contents failures a c (written margin (xs ++ ys)) r
  writes_after a b c xs ys r g w =
      rw (written-append margin xs ys) (writes_last contents failures a b c (written margin xs) (written margin ys) r g w)

  -- a write failed within the first of them
  pub stops_before : (a b : W) (xs ys : List Text) → StopsWithin contents failures a b (written margin xs) → StopsWithin contents failures a b (written margin (xs ++ ys))
  stops_before a b xs ys s = rw (written-append margin xs ys) (stops_early contents failures a b (written margin xs) (written margin ys) s)

  -- one line was written
  pub one_went : (a b : W) (text : Text) → GoesOut contents failures a b (output_line margin text) → GoesOut contents failures a b (written margin (text ∷ []))
  one_went a b text g = rw (append-nil (output_line margin text)) g

  pub one_stopped : (a b : W) (text : Text) → StopsWithin contents failures a b (output_line margin text) → StopsWithin contents failures a b (written margin (text ∷ []))
  one_stopped a b text s = rw (append-nil (output_line margin text)) s

  -- a write failed, and a beginning of the bytes was written
  pub writes_err : {T E : Type 0} (a b : W) (bytes : Text) (r : Result T E) → IsErr r → StopsWithin contents failures a b bytes → Writes contents failures a b bytes r
  writes_err a b bytes (Ok v) is s = absurd (false≢true is)
  writes_err a b bytes (Err e) is s = s

  -- a line for each element: the next one
  module _ {A : Type 0} (f : A → Text) (all xs : List A) (i : ℕ) (d : A) (inside : i < length xs) (a b c : W) (s : WrittenUpTo a b (map f all) (map f (drop i xs))) where
    next_row : map f (drop i xs) ≡ (f (get_or xs i d) ∷ []) ++ map f (drop (i + 1) xs)
    next_row = rw (drop-next xs i d inside)

    pub row_on : GoesOut contents failures b c (output_line margin (f (get_or xs i d))) → WrittenUpTo a c (map f all) (map f (drop (i + 1) xs))
    row_on g = written_on a b c (map f all) (map f (drop i xs)) (f (get_or xs i d) ∷ []) (map f (drop (i + 1) xs)) next_row s (one_went b c (f (get_or xs i d)) g)

    pub row_stops : StopsWithin contents failures b c (output_line margin (f (get_or xs i d))) → StopsWithin contents failures a c (written margin (map f all))
    row_stops g = broken_off a b c (map f all) (map f (drop i xs)) (f (get_or xs i d) ∷ []) (map f (drop (i + 1) xs)) next_row s (one_stopped b c (f (get_or xs i d)) g)
