-- A search of a source that was opened, by the search of its reader.
use Rattle.{grep_core.{proofs.{Prelude.{◌≡◌, ℕ, zero, suc, ◌≤◌, ◌⊎◌, Bool, true, false, List, [], ◌∷◌, length, take, Option, Result, Ok, Err, IfSome, refl, sym, ap, ◌∙◌, inl, inr, arith, false≢true, Consumes-nil, Text, Expression, Options, FileEnd, Missing, FileFound, SearchFault, one_more, LineReader, File, Selected, Form, nothing, names, counts, parts, lines, around, form, Source, Reading, not_opened, fails_after, ends_after, open_source, IsReadingOf, file_of, failures_of, AreLeft, OneLeft, HasRead, Writer, first_lines, count_more, SearchGives, rows_after, IsPlain, LineRowsOf, CountsSource, BreaksSource, StopsSource, SearchesSource}, lemmas.{Verdicts.{decided_yes, decided_no}, CostLaws.unsearched_lines, WriterLaws.TakesAll-nothing, Readings.IsReadingOf-exists, FileOutput.{rows_none, output_all, rows_begun, plain_rows}, GroupLaws.after_nothing}}, specs.declared.status.SearchFault.TheVariants.{Write, Memory}}, re_syntax.proofs.lemmas.{Decisions.Any-none, LinesLaws.{all_none, lines_of-terminated}}, re_search.specs.Meters.Steps, grep_io.proofs.lemmas.WindowLemmas.none_in_nothing}

-- a source that was opened and then read may have done what was read
pub opened : (source : Source) (r : Reading) → IfSome source.opens (λ b. b ≡ true) → IsReadingOf (open_source source.name source.bytes) r → IsReadingOf source r
opened _ not_opened _ h = absurd (false≢true (sym h))
opened _ (fails_after bytes) opens h = (opens, h.1)
opened _ (ends_after bytes) opens h = (opens, h.1)

-- what a reader counts from nothing on is added to the count
pub count_on : (n own : ℕ) → own ≤ 1 → count_more n (count_more 0 own) ≡ count_more n own
count_on n own few = elim (cases_own own few) [ inl e ↦ ap (λ k. count_more n (count_more 0 k)) e ∙ ap (count_more n) (sym e) | inr e ↦ ap (λ k. count_more n (count_more 0 k)) e ∙ ap (count_more n) one ∙ ap (count_more n) (sym e) ]
  where
    cases_own : (k : ℕ) → k ≤ 1 → (k ≡ 0) ⊎ (k ≡ 1)
    cases_own zero h = inl refl
    cases_own (suc k) h = inr (omega (arith, h))

    one : count_more 0 1 ≡ 1
    one = omega arith

-- a source fails at most once
pub few_failures : (r : Reading) → failures_of r ≤ 1
few_failures not_opened = omega arith
few_failures (fails_after bytes) = omega arith
few_failures (ends_after bytes) = omega arith

-- what the reader of an open source had left is what that of the source had
left_of : (source : Source) (r : Reading) (left : List (Option Text)) → AreLeft (open_source source.name source.bytes) r left → AreLeft source r left
left_of _ not_opened _ h = h
left_of _ (fails_after bytes) _ h = h
left_of _ (ends_after bytes) _ h = h

-- what was read of the open source was read of the source
read_of : (source : Source) {rest : Option Text} {text : List Text} → HasRead (open_source source.name source.bytes) rest text → HasRead source rest text
read_of _ h = record { given = h.given; are_given = h.are_given; held = h.held; few_held = h.few_held; read = h.read }

module _ (es : List Expression) (options : Options) (many shown : Bool) (source : Source) (given : List (Option Text) → Type 0) (rest : Option Text) (gives : given (rest ∷ []))
    (before after failed : ℕ) (counted : after ≡ count_more before failed) where
  -- what was counted of the reader from nothing on was counted of the source
  counted_on : {reading : Reading} → CountsSource es options many shown (open_source source.name source.bytes) (OneLeft rest) reading 0 failed → CountsSource es options many shown source given reading before after
  counted_on {reading} s = record {
    own = s.own;
    are_own = s.are_own;
    counted = counted ∙ ap (count_more before) s.counted ∙ count_on before s.own few;
    left = s.left;
    are_left = left_of source reading s.left s.are_left;
    gave_back = rw s.gave_back gives;
  }
    where
      few : s.own ≤ 1
      few = elim s.are_own [ inl f ↦ omega (arith, f.1, few_failures reading) | inr f ↦ omega (arith, f.1) ]

module _ (es : List Expression) (options : Options) (many shown : Bool) (source : Source) (given : List (Option Text) → Type 0) (rest : Option Text) (gives : given (rest ∷ [])) (opens : IfSome source.opens (λ b. b ≡ true)) (old new : Writer) (began ended : Steps) {after : ℕ} (before failed : ℕ) (counted : after ≡ count_more before failed) where
  -- a search of its reader was a search of the source
  source_searched : {end : FileEnd} {selected : ℕ} → SearchesSource es options many shown (open_source source.name source.bytes) (OneLeft rest) 0 failed old new began ended end selected
      → SearchesSource es options many shown source given before after old new began ended end selected
  source_searched s = record {
    reading = s.reading;
    is_reading = opened source s.reading opens s.is_reading;
    failures = counted_on es options many shown source given rest gives before after failed counted s.failures;
    some = s.some;
    fault = s.fault;
    ends = s.ends;
    rows = s.rows;
    are_rows = s.are_rows;
    wrote = s.wrote;
    steps = s.steps;
  }

  source_broken : BreaksSource es options many shown (open_source source.name source.bytes) (OneLeft rest) 0 failed old new began ended → BreaksSource es options many shown source given before after old new began ended
  source_broken s = record {
    reading = s.reading;
    is_reading = opened source s.reading opens s.is_reading;
    failures = counted_on es options _ _ _ given _ gives _ _ _ counted s.failures;
    rows = s.rows;
    are_rows = s.are_rows;
    wrote = s.wrote;
    counted = s.counted;
    steps = s.steps;
  }

  source_stopped : {n : ℕ} → StopsSource es options many shown (open_source source.name source.bytes) (OneLeft rest) n 0 failed old new began ended → StopsSource es options many shown source given n before after old new began ended
  source_stopped s = record {
    reading = s.reading;
    is_reading = opened source s.reading opens s.is_reading;
    none_failed = counted ∙ ap (count_more before) s.none_failed;
    rest = s.rest;
    gave_back = rw s.gave_back gives;
    in_file = s.in_file;
    read = read_of _ s.read;
    rows = s.rows;
    are_rows = s.are_rows;
    wrote = s.wrote;
    steps = s.steps;
  }

  -- so is what it gives
  source_gives : (r : Result FileFound SearchFault) → SearchGives es options many shown (open_source source.name source.bytes) (OneLeft rest) 0 failed old new began ended r → SearchGives es options many shown source given before after old new began ended r
  source_gives (Ok found) s = source_searched s
  source_gives (Err Write) s = source_broken s
  source_gives (Err (Memory n)) s = source_stopped s

module _ (es : List Expression) (options : Options) (many shown : Bool) (source : Source) (given : List (Option Text) → Type 0) (w : Writer) (steps : Steps) where
  -- out of memory before a source was read
  pub source_unread : {before after : ℕ} → after ≡ before → (rest : Option Text) → rest ≡ source.bytes → given (rest ∷ []) → StopsSource es options many shown source given 0 before after w w steps steps
  source_unread same rest none_read gives =
      let some = IsReadingOf-exists source in
      record {
        reading = some.0;
        is_reading = some.1;
        none_failed = same;
        rest = rest;
        gave_back = gives;
        in_file = omega arith;
        read = record { given = []; are_given = lines_of-terminated [] all_none ∙ no_lines (file_of source.name some.0).lines; held = []; few_held = none_in_nothing; read = rw none_read (Consumes-nil source.bytes) };
        rows = [];
        are_rows = rows_begun es options many (form options) 0 (file_of source.name some.0) [] (no_rows (form options) (first_lines 0 (file_of source.name some.0)) refl);
        wrote = rw (after_nothing (form options) shown) (TakesAll-nothing w);
        steps = unsearched_lines options (length es) (file_of source.name some.0).lines steps;
      }
    where
      no_lines : (text : List Text) → [] ≡ take 0 text
      no_lines [] = refl
      no_lines (line ∷ text) = refl

      no_rows : (shape : Form) (file : File) → file.lines ≡ [] → LineRowsOf es options many shape file []
      no_rows nothing _ e = refl
      no_rows names _ e = refl
      no_rows counts _ e = refl
      no_rows parts file e = ([], rw e refl, refl)
      no_rows lines file e = ([], rw e refl, refl)
      no_rows (around context) file e = rw e refl

  -- a source that could not be opened
  pub source_missing : {after : ℕ} (before : ℕ) → IfSome source.opens (λ b. b ≡ false) → after ≡ one_more before → given [] → SearchesSource es options many shown source given before after w w steps steps Missing 0
  source_missing before closed e gives = record {
    reading = not_opened;
    is_reading = closed;
    failures = record { own = 1; are_own = inl (tt, refl); counted = e; left = []; are_left = refl; gave_back = gives };
    some = decided_no (Any-none (Selected es options));
    fault = decided_yes tt;
    ends = λ _. refl;
    rows = [];
    are_rows = output_all es options many source.name [] Missing (form options) [] [] (rows_none es options many source.name (form options)) refl;
    wrote = rw (after_nothing (form options) shown) (TakesAll-nothing w);
    steps = unsearched_lines options (length es) [] steps;
  }

-- where no lines are shown around selected ones, it makes no difference whether an earlier source
-- has a selected line
module _ (es : List Expression) (options : Options) (many : Bool) (plain : IsPlain (form options)) (first shown : Bool) (source : Source) (given : List (Option Text) → Type 0) where
  same_rows : (rows : List Text) → rows_after (form options) first rows ≡ rows_after (form options) shown rows
  same_rows rows = plain_rows _ plain _ _ ∙ sym (plain_rows _ plain _ _)

  counts_anyway : {reading : Reading} {before after : ℕ} → CountsSource es options many first source given reading before after → CountsSource es options many shown source given reading before after
  counts_anyway s = record { own = s.own; are_own = s.are_own; counted = s.counted; left = s.left; are_left = s.are_left; gave_back = s.gave_back }

  module _ (failed_before failed : ℕ) (old new : Writer) (began ended : Steps) where
    searches_anyway : {end : FileEnd} {selected : ℕ} → SearchesSource es options many first source given failed_before failed old new began ended end selected → SearchesSource es options many shown source given failed_before failed old new began ended end selected
    searches_anyway s = record {
      reading = s.reading;
      is_reading = s.is_reading;
      failures = counts_anyway s.failures;
      some = s.some;
      fault = s.fault;
      ends = s.ends;
      rows = s.rows;
      are_rows = s.are_rows;
      wrote = rw (same_rows _) at s.wrote;
      steps = s.steps;
    }

    breaks_anyway : BreaksSource es options many first source given failed_before failed old new began ended → BreaksSource es options many shown source given failed_before failed old new began ended
    breaks_anyway s = record {
      reading = s.reading;
      is_reading = s.is_reading;
      failures = counts_anyway s.failures;
      rows = s.rows;
      are_rows = s.are_rows;
      wrote = rw (same_rows _) at s.wrote;
      counted = s.counted;
      steps = s.steps;
    }

    stops_anyway : {n : ℕ} → StopsSource es options many first source given n failed_before failed old new began ended → StopsSource es options many shown source given n failed_before failed old new began ended
    stops_anyway s = record {
      reading = s.reading;
      is_reading = s.is_reading;
      none_failed = s.none_failed;
      rest = s.rest;
      gave_back = s.gave_back;
      in_file = s.in_file;
      read = s.read;
      rows = s.rows;
      are_rows = s.are_rows;
      wrote = rw (same_rows _) at s.wrote;
      steps = s.steps;
    }

    pub gives_anyway : (r : Result FileFound SearchFault) → SearchGives es options many first source given failed_before failed old new began ended r → SearchGives es options many shown source given failed_before failed old new began ended r
    gives_anyway (Ok found) s = searches_anyway s
    gives_anyway (Err Write) s = breaks_anyway s
    gives_anyway (Err (Memory n)) s = stops_anyway s

-- the reader that a source was opened with, and the lines made of it
module _ {R : Type 0} (remaining : R → Option Text) (failures : R → ℕ) (es : List Expression) (options : Options) (many shown : Bool) (source : Source) (given : List (Option Text) → Type 0) (rest : Option Text) (gives : given (rest ∷ [])) (opens : IfSome source.opens (λ b. b ≡ true)) {reader : R} (bytes : remaining reader ≡ source.bytes) (fresh : failures reader ≡ 0) (start : LineReader R) (holds : start.reader ≡ reader) {name : Text} (named : name ≡ source.name) (old new : Writer) (began ended : Steps) where
  same_source : open_source name (remaining start.reader) ≡ open_source source.name source.bytes
  same_source = λ i. open_source (named i) ((ap remaining holds ∙ bytes) i)

  fresh_start : failures start.reader ≡ 0
  fresh_start = ap failures holds ∙ fresh

  module _ {after : ℕ} (before failed : ℕ) (counted : after ≡ count_more before failed) where
    -- what the search of the lines gives
    pub given_in : (r : Result FileFound SearchFault) → SearchGives es options many shown (open_source name (remaining start.reader)) (OneLeft rest) (failures start.reader) failed old new began ended r → SearchGives es options many shown source given before after old new began ended r
    given_in r s =
        let at_source = rw same_source at s in
        let from_none = rw fresh_start at at_source in
        source_gives es options _ _ _ given _ gives opens _ _ _ _ _ _ counted r from_none
