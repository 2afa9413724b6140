-- Classes of bytes: rows that are appended to a table, and the bytes that are marked one by one.
use Rattle.re_auto.proofs.{Prelude.{◌≡◌, ◌≢◌, ℕ, suc, ◌+◌, ◌-◌, ◌*◌, ◌<◌, ◌≤◌, max, Bool, false, IsTrue, List, [], ◌∷◌, ◌++◌, length, length-append, drop, get_or, set, inl, inr, ◌↔◌, sym, ap, ◌∙◌, arith, drop-append_seam, cases_eq, take-append-le, take-length, get_or_append_left, get_or-append_right, get_or-set_same, get_or-set_other, row_of, IsClassed}, lemmas.{BitLemmas.row_swap, RowLemmas.row_within}}

-- a row within a table stays where more is appended
row_stays : (table more : List ℕ) (width k : ℕ) → k * width + width ≤ length table → row_of (table ++ more) width k ≡ row_of table width k
row_stays table more width k within = row_swap (table ++ more) width k ∙ ap (drop (k * width)) (take-append-le (k * width + width) table more within) ∙ sym (row_swap table width k)

-- the row that is appended is the last
row_appended : (table row : List ℕ) (width count : ℕ) → length table ≡ count * width → length row ≡ width → row_of (table ++ row) width count ≡ row
row_appended table row width count long same =
    let start : drop (count * width) (table ++ row) ≡ row = cc (drop-append_seam table row) in
    let words : count * width + width - count * width ≡ length row = omega arith in
    rw (start, words, take-length)

-- a new class has its row appended
pub new_class : (count width : ℕ) (row old new : List ℕ) (class : ℕ) → length old ≡ count * width → length row ≡ width → class ≡ count → new ≡ old ++ row → ((k : ℕ) → k < class → row_of old width k ≢ row) → IsClassed count width row old new class
new_class count width row old new class table same is appended first =
    let longer : length (old ++ row) ≡ count * width + width = omega (arith, length-append old row) in
    let more : max count (class + 1) ≡ suc count = omega arith in
    let product : suc count * width ≡ count * width + width = omega arith in record {
      known = omega arith;
      longer = cc;
      kept = λ k lt. ap (λ xs. row_of xs width k) appended ∙ row_stays old row width k (rw table (row_within k count width lt));
      same = cc (row_appended _ _ _ _ table same);
      first = first;
    }

-- one more byte is marked
pub one_marked : (marks : List Bool) (c : ℕ) (mark : Bool) (S : ℕ → Type 0) → c < length marks → ((k : ℕ) → k < c → IsTrue (get_or marks k false) ↔ S k) → (IsTrue mark ↔ S c) →
    (k : ℕ) → k < c + 1 → IsTrue (get_or (set marks c mark) k false) ↔ S k
one_marked marks c mark S within before here k lt = grind (arith, get_or-set_same, get_or-set_other)

-- one more entry of a list, of which something holds as of those before
pub pushed : (P : ℕ → ℕ → Type 0) (xs : List ℕ) (x n : ℕ) → length xs ≡ n → ((b : ℕ) → b < n → P b (get_or xs b 0)) → P n x → (b : ℕ) → b < n + 1 → P b (get_or (xs ++ (x ∷ [])) b 0)
pushed P xs x n long each last b lt =
    elim (cases_eq b n) [
      | inl same ↦ rw same (rw last_entry last)
      | inr other ↦
          let before : b < n = omega arith in
          let within : b < length xs = omega arith in
          rw (get_or_append_left xs (x ∷ []) 0 b within) (each b before)
    ]
  where
    last_entry : get_or (xs ++ (x ∷ [])) n 0 ≡ x
    last_entry = cc (get_or-append_right xs (x ∷ []) n n 0 long (omega arith), let none : n - n ≡ 0 = omega arith in none)
