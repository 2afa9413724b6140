-- What was written for one line.
use Rattle.grep_core.proofs.{Prelude.{ap, ◌≡◌, ℕ, Bool, true, false, not, MatchBool, if◌then◌else◌, Decides, List, [], ◌∷◌, ◌++◌, Option, Result, Ok, Err, IfOk, IsErrAnd, OnErr, refl, sym, inl, inr, false≢true, Text, Expression, Options, output_line, Writes, Matched, Selected, lines, counts, form, head_of, Writer, writer, file_so_far, selects, RowsOfSelected, WritesSelected, BreaksSelected, TakesLine, BreaksLine}, lemmas.{PassLemmas.{TakesAll-line, TakesFront-line}, WriterLaws.TakesAll-nothing}}

-- what holds anyway holds at an error
pub err_with : {T E P : Type 0} (r : Result T E) → P → OnErr r P
err_with (Ok v) p = tt
err_with (Err e) p = p

-- the error that is returned
pub is_err : {T E : Type 0} (r : Result T E) {why : E} → IsErrAnd r (λ fault. fault ≡ why) → r ≡ Err why
is_err (Ok v) is = absurd is
is_err (Err fault) is = ap Err is

module _ {W : Type 0} (contents : W → Option Text) (failures : W → ℕ) (es : List Expression) (options : Options) (many : Bool) (name : Text) (number : ℕ) (line : Text) (a b : W) (asked : form options ≡ lines) where
  -- the row of a selected line
  abbrev head_and_line : Text
  head_and_line = head_of es options many (file_so_far name []) number ++ line

  line_row : RowsOfSelected es options many (form options) name number line (head_and_line ∷ [])
  line_row = rw asked refl

  -- it was written
  pub row_written : {T E : Type 0} (r : Result T E) → Writes contents failures a b (output_line [] head_and_line) r → IfOk r (λ _. WritesSelected es options many name number line (writer contents failures a) (writer contents failures b))
  row_written (Ok v) w = record { rows = _; are_rows = line_row; wrote = TakesAll-line contents failures a b head_and_line w }
  row_written (Err e) w = tt

  -- a beginning of it was written
  pub row_broken : {T E : Type 0} (r : Result T E) → Writes contents failures a b (output_line [] head_and_line) r → OnErr r (BreaksSelected es options many name number line (writer contents failures a) (writer contents failures b))
  row_broken (Ok v) w = tt
  row_broken (Err e) w = record { rows = _; are_rows = line_row; wrote = TakesFront-line contents failures a b head_and_line w; counted = w.counted }

-- a selected line has no rows where only the number of such lines is written
pub line_counted : (es : List Expression) (options : Options) (many : Bool) (name : Text) (number : ℕ) (line : Text) (w : Writer) → form options ≡ counts → Selected es options line → TakesLine es options many name number line w w true
line_counted es options many name number line w asked s = record {
  rows = [];
  are_rows = inl (s, rw asked refl);
  wrote = TakesAll-nothing w;
  reported = ((λ _. s), (λ _. refl));
}

-- a line that is not selected has no rows
pub line_passed : (es : List Expression) (options : Options) (many : Bool) (name : Text) (number : ℕ) (line : Text) (w : Writer) (verdict : Bool) → verdict ≡ false → Decides verdict (Selected es options line)
    → TakesLine es options many name number line w w false
line_passed _ _ _ _ _ _ w true e d = absurd (false≢true (sym e))
line_passed _ _ _ _ _ _ w false e d = record { rows = []; are_rows = inr ((λ s. false≢true (d.1 s)), refl); wrote = TakesAll-nothing w; reported = d }

-- where only their number is written, no line has rows
pub line_only_counted : (es : List Expression) (options : Options) (many : Bool) (name : Text) (number : ℕ) (line : Text) (w : Writer) → form options ≡ counts → (found : Bool) → Decides found (Selected es options line) → TakesLine es options many name number line w w found
line_only_counted es options many _ _ _ w asked true d = line_counted es options many _ _ _ w asked (d.0 refl)
line_only_counted es options many _ _ _ w _ false d = line_passed es options _ _ _ _ w _ refl d

-- a selected line has the rows that were written for it
pub line_selected : {es ds : List Expression} {options : Options} {many : Bool} {name : Text} {number : ℕ} {line : Text} {a b : Writer} {verdict : Bool} → verdict ≡ true → Decides verdict (Selected es options line)
    → ds ≡ es → WritesSelected ds options many name number line a b → TakesLine es options many name number line a b true
line_selected e d same went =
    let s = d.0 e in
    let w = rw same at went in
    record { rows = w.rows; are_rows = inl (s, w.are_rows); wrote = w.wrote; reported = ((λ _. s), (λ _. refl)) }

-- a beginning of them was written
pub line_broken : {es ds : List Expression} {options : Options} {many : Bool} {name : Text} {number : ℕ} {line : Text} {a b : Writer} {verdict : Bool} → verdict ≡ true → Decides verdict (Selected es options line)
    → ds ≡ es → BreaksSelected ds options many name number line a b → BreaksLine es options many name number line a b
line_broken e d same went =
    let w = rw same at went in
    record { rows = w.rows; are_rows = inl (d.0 e, w.are_rows); wrote = w.wrote; counted = w.counted }

-- a line is selected by whether it is matched
by_sign : (invert matched : Bool) (P : Type 0) → Decides matched P → Decides (if invert then not matched else matched) (MatchBool invert (P → ⊥) P)
by_sign false _ P d = d
by_sign true true P d = ((λ f. absurd (false≢true f)), (λ none. absurd (none (d.0 refl))))
by_sign true false P d = ((λ _ m. false≢true (d.1 m)), (λ _. refl))

pub selected_by : (es : List Expression) (options : Options) (line : Text) {matched verdict : Bool} → verdict ≡ selects options matched → Decides matched (Matched es options line) → Decides verdict (Selected es options line)
selected_by es options line {matched} is d = rw is (by_sign _ _ (Matched es options line) d)
