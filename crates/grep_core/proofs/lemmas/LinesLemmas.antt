-- A search of the lines of an open source, one more line at a time, and what it says of the
-- source's file.
use Rattle.{grep_core.{proofs.{Prelude.{AreUnselected, ◌≡◌, ℕ, ◌+◌, ◌-◌, ◌*◌, ◌^◌, nat_lt, ◌<◌, ◌≤◌, ◌⊎◌, Bool, true, false, ◌&&◌, IsTrue, Decides, List, [], ◌∷◌, ◌++◌, Option, length, min, take, refl, sym, ap, subst, ◌∙◌, append-nil, append_assoc, inl, inr, arith, Any, if◌then◌else◌, take-append_seam, false≢true, cases_Bool, cases_lt, lt-ltb, le-ltb, cond-true, cond-false, length_push, length-append, All-head, All-tail, Text, lines_of, Expression, HoldsOfMany, Options, Open, Whole, Broken, Left, one_more, Numbered, AreAhead, HasHanded, PassesNext, File, whole, Matched, Selected, HasSelected, Form, nothing, names, counts, form, SelectedLines, FaultMet, open_source, file_of, failures_of, most_lines, OneLeft, HasRead, IsOneLineAndFew, Writer, TakesAll, TakesFront, first_lines, GroupedAs, rows_after, BeginsWith, file_so_far, line_cost, SearchesLines, IsPlain, LineRowsOf, TakesLine, BreaksLine, StopsLine, RowsOfLines, TakesLines, BreaksLines, StopsLines, SearchFault, SearchGives, Err, leaves_early, BreaksSource, StopsSource, SearchesSource, Some, Result, Ok, GoesOut, FileEnd, Missing, FileFound, writer, NextTaken}, lemmas.{Verdicts.{decided_yes, decided_no, picked}, Decided.dec_fault_met, CostLaws.{unsearched_lines, searched_one_line, searched_more_lines, searched_first_lines}, WriterLaws.{TakesAll-nothing, TakesAll-more, TakesFront-more, TakesFront-longer}, OneLineLemmas.{line_passed, line_counted}, CountedLines.many_within, PassedLines.{passed_block, counted_block, block_spent}, SearchedBlockLemmas.found_within, OneFile.{FaultMet-left, whole-failures}, MoreLines.SelectedLines-passed, WrittenLemmas.{TakesAll-written, TakesFront-written}, FileOutput.{positive, chosen_decides, rows_line, chosen_line, chosen_count, output_all, output_left, output_front, rows_begun, plain_rows}}}, specs.declared.status.SearchFault.TheVariants.{Write, Memory}}, re_search.specs.{Meters.Steps, Searches.AddsAtMost}, re_syntax.proofs.lemmas.SomeOfJoined.Any-left, grep_io.proofs.lemmas.{HandedLemmas.{begins_with, has_read}, NumberedLemmas.has_handed_none}}

-- where a file is left early, only its name is written, if that
pub early_form : (options : Options) → IsTrue (leaves_early options) → (form options ≡ nothing) ⊎ (form options ≡ names)
early_form options early =
    elim (cases_Bool options.quiet) [
      | inl q ↦ inl (cond-true _ _ _ q)
      | inr q ↦ elim (cases_Bool options.files_with_matches) [ inl l ↦ inr (cond-false _ _ _ q ∙ cond-true _ _ _ l) | inr l ↦ absurd (cc (early, q, l)) ]
    ]

-- where only the selected lines are counted, no lines are shown around them
pub counts_plain : (options : Options) → form options ≡ counts → IsPlain (form options)
counts_plain options asked = rw asked tt

-- and no file is left early
pub counts_late : (options : Options) → form options ≡ counts → IsTrue (leaves_early options) → ⊥
counts_late options asked early = elim (early_form options early) [ inl e ↦ cc (e, asked) | inr e ↦ cc (e, asked) ]

module _ (es : List Expression) (options : Options) (many shown : Bool) (name : Text) where
  -- these rows are written of these lines, with any lines after them
  pub record WrittenOf (shape : Form) (lines rows : List Text) : Type 0 where
    pub groups : List Text
    pub are_groups : LineRowsOf es options many shape (file_so_far name lines) groups
    pub are_rows : rows ≡ rows_after shape shown groups
    pub further : (file : File) (more : List Text) → file.name ≡ name → file.lines ≡ lines ++ more
        → (all : List Text) × (rest : List Text) × GroupedAs es options many shape (file ∷ []) all × (rows_after shape shown all ≡ rows ++ rest)

  -- where no lines are shown around selected ones, they are the rows of the lines
  pub written_plain : (shape : Form) → IsPlain shape → (lines rows : List Text) → LineRowsOf es options many shape (file_so_far name lines) rows → WrittenOf shape lines rows
  written_plain shape plain lines rows h = record {
    groups = rows;
    are_groups = h;
    are_rows = sym (plain_rows shape plain shown rows);
    further = λ file more named has.
        let all = output_front es options many file lines more shape plain rows named has h in
        (rows ++ all.0, all.0, all.1, plain_rows shape plain shown (rows ++ all.0));
  }

  plain_written : {shape : Form} → IsPlain shape → {lines rows : List Text} → WrittenOf shape lines rows → LineRowsOf es options many shape (file_so_far name lines) rows
  plain_written {shape} plain w = rw (w.are_rows ∙ plain_rows shape plain shown w.groups) w.are_groups

  -- the rows of the lines were written, and this number of them is selected
  pub record WritesLines (lines : List Text) (old new : Writer) (selected : ℕ) : Type 0 where
    pub rows : List Text
    pub of : WrittenOf (form options) lines rows
    pub wrote : TakesAll old new rows
    pub chosen : List (ℕ × Text)
    pub are_chosen : SelectedLines es options many (file_so_far name lines) chosen
    pub counted : length chosen ≡ selected

  -- of no line
  abbrev pub writes_none : WrittenOf (form options) [] [] → (w : Writer) → WritesLines [] w w 0
  writes_none of w = record { rows = []; of = of; wrote = TakesAll-nothing w; chosen = []; are_chosen = refl; counted = refl }

  -- one more line, by the rows that it adds
  abbrev pub writes_more : {lines : List Text} (line : Text) {added : List Text} {old mid new : Writer} {selected more : ℕ} {found : Bool} (w : WritesLines lines old mid selected)
      → WrittenOf (form options) (lines ++ line ∷ []) (w.rows ++ added) → TakesAll mid new added → Decides found (Selected es options line) → more ≡ (if found then selected + 1 else selected) → WritesLines (lines ++ line ∷ []) old new more
  writes_more {lines} line {added} {old} {mid} {new} {selected} {found = found} w of took reported e = record {
    rows = w.rows ++ added;
    of = of;
    wrote = TakesAll-more old mid new w.rows added w.wrote took;
    chosen = w.chosen ++ picked found (length lines + 1, line);
    are_chosen = chosen_line es options many name lines line w.chosen found w.are_chosen reported;
    counted = chosen_count w.chosen (length lines + 1, line) selected found w.counted ∙ sym e;
  }

  -- lines without a selected one add none
  pub chosen_on : (ls ps : List Text) (chosen : List (ℕ × Text)) → AreUnselected es options ps → SelectedLines es options many (file_so_far name ls) chosen → SelectedLines es options many (file_so_far name (ls ++ ps)) chosen
  chosen_on ls [] chosen none h = rw (append-nil ls) h
  chosen_on ls (line ∷ ps) chosen none h =
      rw (append_assoc ls (line ∷ []) ps) at
      (chosen_on (ls ++ line ∷ []) ps chosen (All-tail (λ l. ¬ Selected es options l) line ps none) (SelectedLines-passed es options many name whole ls line chosen h (All-head (λ l. ¬ Selected es options l) line ps none)))

  -- where no lines are shown around selected ones, by what is written of the line alone
  writes_line : IsPlain (form options) → {lines : List Text} {line : Text} {old mid new : Writer} {selected : ℕ} {found : Bool} → WritesLines lines old mid selected → TakesLine es options many name (length lines + 1) line mid new found
      → WritesLines (lines ++ line ∷ []) old new (if found then selected + 1 else selected)
  writes_line plain {lines} {line} w t =
      let rows = rows_line es options many name (form options) plain lines line w.rows t.rows (plain_written plain w.of) t.are_rows in
      writes_more line w (written_plain (form options) plain (lines ++ line ∷ []) (w.rows ++ t.rows) rows) t.wrote t.reported refl

  -- lines were searched at once: their rows, and which of them are selected
  adds_lines : IsPlain (form options) → (more lines rows own : List Text) (chosen : List (ℕ × Text)) (found : ℕ) → LineRowsOf es options many (form options) (file_so_far name lines) rows → SelectedLines es options many (file_so_far name lines) chosen
      → RowsOfLines es options many name (length lines + 1) more own found
      → LineRowsOf es options many (form options) (file_so_far name (lines ++ more)) (rows ++ own) × (all : List (ℕ × Text)) × SelectedLines es options many (file_so_far name (lines ++ more)) all × (length all ≡ length chosen + found)
  adds_lines plain [] lines rows own chosen found has are (none, zero) =
      let same = sym (append-nil rows) ∙ ap (λ r. rows ++ r) (sym none) in
      let sum : length chosen ≡ length chosen + found = omega (arith, zero) in (
        rw (append-nil lines) (rw same at has),
        chosen,
        rw (append-nil lines) are,
        sum,
      )
  adds_lines plain (line ∷ more) lines rows own chosen found has are (first, later, b, others, one, reported, rest, joined, counted) =
      let at : length lines + 1 + 1 ≡ length (lines ++ line ∷ []) + 1 = omega (arith, length_push lines line) in
      let here = rows_line es options many name (form options) plain lines line rows first has one in
      let picks = chosen_line es options many name lines line chosen b are reported in
      let (has_all, all, are_all, many_all) = adds_lines plain more (lines ++ line ∷ []) (rows ++ first) later (chosen ++ picked b (length lines + 1, line)) others here picks (subst (λ n. RowsOfLines es options many name n more later others) at rest) in
      let same = append_assoc rows first later ∙ ap (λ r. rows ++ r) (sym joined) in
      let long = chosen_count chosen (length lines + 1, line) (length chosen) b refl in (
        rw (append_assoc lines (line ∷ []) more) at (rw same at has_all),
        all,
        rw (append_assoc lines (line ∷ []) more) at are_all,
        many_all ∙ sum b counted long,
      )
    where
      sum : (b : Bool) → found ≡ (if b then others + 1 else others) → length (chosen ++ picked b (length lines + 1, line)) ≡ (if b then length chosen + 1 else length chosen) → length (chosen ++ picked b (length lines + 1, line)) + others ≡ length chosen + found
      sum true e l = omega (arith, e, l)
      sum false e l = omega (arith, e, l)

  writes_lines : IsPlain (form options) → {more lines : List Text} {old mid new : Writer} {selected found : ℕ} → WritesLines lines old mid selected → TakesLines es options many name (length lines + 1) more mid new found → WritesLines (lines ++ more) old new (selected + found)
  writes_lines plain {more} {lines} {old} {mid} {new} {found = found} w t =
      let (has, all, are, counted) = adds_lines plain more lines w.rows t.rows w.chosen found (plain_written plain w.of) w.are_chosen t.are_rows in
      record { rows = w.rows ++ t.rows; of = written_plain _ plain _ _ has; wrote = TakesAll-more old mid new w.rows t.rows w.wrote t.wrote; chosen = all; are_chosen = are; counted = omega (arith, counted, w.counted) }

  -- lines were passed where the selected ones are only counted
  writes_counted : IsPlain (form options) → form options ≡ counts → (passed lines : List Text) {old new : Writer} {selected : ℕ} (count : ℕ) → WritesLines lines old new selected → HoldsOfMany (Selected es options) passed count → WritesLines (lines ++ passed) old new (selected + count)
  writes_counted plain asked [] lines {selected = selected} count w none =
      let same : selected ≡ selected + count = omega (arith, none) in
      rw (← same) (rw (append-nil lines) w)
  writes_counted plain asked (line ∷ passed) lines {new = new} {selected = selected} count w (others, h, inl (s, is)) =
      let one = writes_line plain w (line_counted es options _ _ _ _ _ asked s) in
      let same : selected + 1 + others ≡ selected + count = omega (arith, is) in
      rw same at
      (rw (append_assoc lines (line ∷ []) passed) at (writes_counted plain asked passed (lines ++ line ∷ []) others one h))
  writes_counted plain asked (line ∷ passed) lines {new = new} {selected = selected} count w (others, h, inr (no_one, is)) =
      let skipped = line_passed es options many name (length lines + 1) line new false refl (decided_no no_one) in
      let same : selected + others ≡ selected + count = omega (arith, is) in
      rw same at
      (rw (append_assoc lines (line ∷ []) passed) at (writes_counted plain asked passed (lines ++ line ∷ []) others (writes_line plain w skipped) h))

  -- buffered output was sent
  abbrev pub writes_sent : {lines : List Text} {old mid new : Writer} {selected : ℕ} → WritesLines lines old mid selected → TakesAll mid new [] → WritesLines lines old new selected
  writes_sent {old = old} {mid = mid} {new = new} w sent =
      let wrote = rw (append-nil w.rows) at (TakesAll-more old mid new w.rows [] w.wrote sent) in
      record { rows = w.rows; of = w.of; wrote = wrote; chosen = w.chosen; are_chosen = w.are_chosen; counted = w.counted }

  -- the number says whether a line is selected
  some_decides : {lines : List Text} {old new : Writer} {selected : ℕ} → WritesLines lines old new selected → Decides (nat_lt 0 selected) (Any (Selected es options) lines)
  some_decides {lines} w = rw w.counted at (chosen_decides es options many name lines w.chosen w.are_chosen)

  module _ {known : Option Text} (rest : Option Text) {old new : Writer} {began ended : Steps} where
    -- the source was left after them, at a selected line
    pub searches_left : {failed_before failed : ℕ} {lines : List Text} {selected : ℕ} → WritesLines lines old new selected → SearchesLines options (length es) lines began ended → BeginsWith name known lines → failed ≡ failed_before → IsTrue (leaves_early options) → 0 < selected → SearchesSource es options many shown (open_source name known) (OneLeft rest) failed_before failed old new began ended Left selected
    searches_left {lines = lines} {selected = selected} w spent b none_failed early found =
        let file = file_of name b.reading in
        let here = positive selected found in
        let has : HasSelected es options file = rw b.has_lines (Any-left (Selected es options) lines b.more ((some_decides w).0 here)) in
        let unmet = FaultMet-left es options file b.ends early has in
        let some : Decides (nat_lt 0 selected) (HasSelected es options file) = ((λ _. has), (λ _. here)) in
        record {
          reading = b.reading;
          is_reading = b.is_reading;
          failures = record { own = 0; are_own = inr (unmet, refl); counted = none_failed; left = rest ∷ []; are_left = b.is_left rest; gave_back = refl };
          some = some;
          fault = decided_no unmet;
          ends = λ e. absurd (false≢true e);
          rows = w.of.groups;
          are_rows = output_left es options many file lines (form options) w.of.groups selected b.named (early_form options early) w.of.are_groups some;
          wrote = rw w.of.are_rows at w.wrote;
          steps = rw b.has_lines (searched_first_lines options (length es) lines b.more spent);
        }

    -- out of memory after the lines; more lines were searched
    pub stops_among : {lines : List Text} (later : List Text) {selected : ℕ} (count : ℕ) → WritesLines lines old new selected → SearchesLines options (length es) (lines ++ later) began ended → BeginsWith name known (lines ++ later) → length lines ≡ count → HasRead (open_source name known) rest lines
        → {failed_before failed : ℕ} → failed ≡ failed_before → StopsSource es options many shown (open_source name known) (OneLeft rest) count failed_before failed old new began ended
    stops_among {lines} later count w spent b counted read none_failed =
        let file = file_of name b.reading in
        let has = b.has_lines ∙ append_assoc lines later b.more in
        let first = ap (take count) has ∙ ap (λ k. take k (lines ++ (later ++ b.more))) (sym counted) ∙ take-append_seam lines (later ++ b.more) in
        let same : file_so_far name lines ≡ first_lines count file = λ i. record { name = sym b.named i; lines = sym first i; ending = whole } in
        record {
          reading = b.reading;
          is_reading = b.is_reading;
          none_failed = none_failed;
          rest = rest;
          gave_back = refl;
          in_file = omega (arith, counted, length-append lines (later ++ b.more), ap length has);
          read = rw first read;
          rows = w.of.groups;
          are_rows = rows_begun es options many (form options) count file w.of.groups (rw same at w.of.are_groups);
          wrote = rw w.of.are_rows at w.wrote;
          steps = rw b.has_lines (searched_first_lines options (length es) (lines ++ later) b.more spent);
        }

    -- no more lines were searched
    pub stops_after : {lines : List Text} {count selected : ℕ} → WritesLines lines old new selected → SearchesLines options (length es) lines began ended → BeginsWith name known lines → length lines ≡ count → HasRead (open_source name known) rest lines
        → {failed_before failed : ℕ} → failed ≡ failed_before → StopsSource es options many shown (open_source name known) (OneLeft rest) count failed_before failed old new began ended
    stops_after {lines} {count} w spent b =
        stops_among [] count w (rw (← (append-nil lines)) at spent) (rw (← (append-nil lines)) at b)

  module _ {known : Option Text} (rest : Option Text) {old new : Writer} {began ended : Steps} {failed_before failed : ℕ} (none_failed : failed ≡ failed_before) where
    -- a write failed within the rows of these lines
    pub breaks_in : {lines rows : List Text} → WrittenOf (form options) lines rows → TakesFront old new rows → new.failures ≡ one_more old.failures
        → SearchesLines options (length es) lines began ended → BeginsWith name known lines → BreaksSource es options many shown (open_source name known) (OneLeft rest) failed_before failed old new began ended
    breaks_in {lines} {rows} of front counted spent b =
        let all = of.further (file_of name b.reading) b.more b.named b.has_lines in
        record {
          reading = b.reading;
          is_reading = b.is_reading;
          failures = record {
            own = 0;
            are_own = elim (dec_fault_met es options (file_of name b.reading)) [ yes met ↦ inl (met, sym b.none_fails) | no unmet ↦ inr (unmet, refl) ];
            counted = none_failed;
            left = rest ∷ [];
            are_left = b.is_left rest;
            gave_back = refl;
          };
          rows = all.0;
          are_rows = all.2;
          wrote = rw all.3 (TakesFront-longer all.1 front);
          counted = counted;
          steps = rw b.has_lines (searched_first_lines options (length es) lines b.more spent);
        }

    -- a write failed within the rows that the next line adds
    pub breaks_adding : {mid : Writer} {selected : ℕ} {lines : List Text} (line : Text) {added : List Text} (w : WritesLines lines old mid selected) → WrittenOf (form options) (lines ++ line ∷ []) (w.rows ++ added)
        → SearchesLines options (length es) (lines ++ line ∷ []) began ended → BeginsWith name known (lines ++ line ∷ []) → TakesFront mid new added → new.failures ≡ one_more mid.failures
        → BreaksSource es options many shown (open_source name known) (OneLeft rest) failed_before failed old new began ended
    breaks_adding _ w of spent b front counted =
        breaks_in of (TakesFront-more w.wrote front) (counted ∙ ap one_more w.wrote.none_failed) spent b

-- ---- the turns of the search

-- where the search continues, a line that is found is no reason to leave
pub goes_on : (found early asked : Bool) → early ≡ asked → (found && early) ≡ false → IsTrue asked → found ≡ false
goes_on true true _ _ both _ = absurd (false≢true (sym both))
goes_on true false _ is _ early = absurd (false≢true (is ∙ early))
goes_on false b _ _ _ _ = refl

-- so are lines that were searched at once
pub goes_on_with : (found : ℕ) {early asked : Bool} → early ≡ asked → (nat_lt 0 found && early) ≡ false → IsTrue asked → found ≡ 0
goes_on_with found {early} {asked} is both early_is = elim (cases_lt 0 found) [
  | inl some ↦ absurd (false≢true (sym (goes_on _ _ _ is both early_is) ∙ lt-ltb 0 found some))
  | inr none ↦ omega (arith, none)
]

-- where it is left, one is found
pub leaves_with : (found : ℕ) (early : Bool) → (nat_lt 0 found && early) ≡ true → (0 < found) × IsTrue early
leaves_with found early both = elim (cases_lt 0 found) [
  | inl some ↦ (some, (let no = ap (λ b. b && early) (sym (lt-ltb 0 found some)) ∙ both in no))
  | inr none ↦ absurd (false≢true (ap (λ b. b && early) (sym (le-ltb 0 found none)) ∙ both))
]

module _ {R : Type 0} (remaining : R → Option Text) (failures : R → ℕ) (es : List Expression) (options : Options) (many shown : Bool) (name : Text) (reader : R) where
  -- the lines that were handed out were searched, and their rows written; under `-q` and `-l` none
  -- of them is selected
  pub record SearchedSoFar (now : Numbered R) (old new : Writer) (began ended : Steps) (selected : ℕ) : Type 0 where
    pub lines : List Text
    pub handed : HasHanded remaining failures reader now lines
    pub wrote : WritesLines es options many shown name lines old new selected
    pub few : selected ≤ now.number
    pub none_early : IsTrue (leaves_early options) → selected ≡ 0
    pub steps : SearchesLines options (length es) lines began ended

module _ {R : Type 0} {remaining : R → Option Text} {failures : R → ℕ} {es : List Expression} {options : Options} {many shown : Bool} {name : Text} {reader : R} {before : Numbered R} {old mid : Writer} {began amid : Steps} {selected : ℕ} where
  -- the same search, further on
  abbrev pub SearchedOn : SearchedSoFar remaining failures es options many shown name reader before old mid began amid selected → Numbered R → Writer → Steps → ℕ → Type 0
  SearchedOn s now new ended more = SearchedSoFar remaining failures es options many shown name reader now old new began ended more

  -- what it gives, when the reader is left so
  abbrev pub GivesOn : SearchedSoFar remaining failures es options many shown name reader before old mid began amid selected → Numbered R → Writer → Steps → Result FileFound SearchFault → Type 0
  GivesOn s now new ended = SearchGives es options many shown (open_source name (remaining reader)) (OneLeft (remaining now.lines.reader)) (failures reader) (failures now.lines.reader) old new began ended

-- the source begins with the lines that were handed out
pub begins : {R : Type 0} {remaining : R → Option Text} {failures : R → ℕ} {reader : R} {now : Numbered R} {lines : List Text} (name : Text) → HasHanded remaining failures reader now lines → BeginsWith name (remaining reader) lines
begins {remaining = remaining} {failures = failures} {reader = reader} {now = now} {lines = lines} name h = begins_with remaining failures name reader now.lines lines h.hands h.few

module _ {R : Type 0} {remaining : R → Option Text} {failures : R → ℕ} {es : List Expression} {options : Options} {many shown : Bool} {name : Text} {reader : R} where
  abbrev pub searched_none : WrittenOf es options many shown name (form options) [] [] → {now : Numbered R} {w : Writer} {steps : Steps} → now.lines.reader ≡ reader → now.lines.ahead ≡ [] → now.lines.stage ≡ Open → now.number ≡ 0 → SearchedSoFar remaining failures es options many shown name reader now w w steps steps 0
  searched_none of {now} {w} {steps} same none is_open zero = record {
    lines = [];
    handed = rw (← same) (has_handed_none remaining failures now none is_open zero);
    wrote = writes_none es options many shown name of w;
    few = omega arith;
    none_early = λ _. refl;
    steps = unsearched_lines options (length es) [] steps;
  }

  -- a block was passed where the selected lines are only counted
  module _ {before now : Numbered R} {block : Text} {count : ℕ} (ahead : AreAhead before block count) (passed : PassesNext remaining failures before now (lines_of (take (length block) before.lines.ahead)))
      {old new : Writer} {began mid : Steps} {selected : ℕ} (s : SearchedSoFar remaining failures es options many shown name reader before old new began mid selected) where
    abbrev block_lines : List Text
    block_lines = lines_of block

    handed_on : HasHanded remaining failures reader now (s.lines ++ block_lines)
    handed_on = passed_block now ahead passed s.handed

    -- no line is numbered twice
    pub counted_further : before.number ≤ now.number
    counted_further = omega (arith, s.handed.counted, handed_on.counted, length-append s.lines block_lines)

    pub searched_counted : form options ≡ counts → (matched : ℕ) {own more : ℕ} {ended : Steps} → HoldsOfMany (Matched es options) block_lines matched → AddsAtMost (length es * length block) mid ended → own ≡ (if options.invert_match then count - matched else matched) → more ≡ min (selected + own) (2 ^ 64 - 1) → SearchedOn s now new ended more
    searched_counted asked matched {own} {more} found spent own_is added =
        let chosen = rw (← own_is) at (counted_block es options block matched ahead.counted found) in
        let within = many_within (Selected es options) block_lines own chosen in
        let sum : selected + own ≡ more = omega (arith, added, within, s.few, s.handed.counted, handed_on.few, length-append s.lines block_lines) in
        record {
          lines = s.lines ++ block_lines;
          handed = handed_on;
          wrote = rw sum at (writes_counted es options many shown name (counts_plain options asked) asked block_lines s.lines own s.wrote chosen);
          few = omega (arith, sum, within, s.few, s.handed.counted, handed_on.counted, length-append s.lines block_lines);
          none_early = λ early. absurd (counts_late options asked early);
          steps = searched_more_lines options (length es) s.lines block_lines s.steps (block_spent es options block ahead.whole spent);
        }

  module _ {now : Numbered R} {old mid : Writer} {began ended : Steps} {selected : ℕ} (s : SearchedSoFar remaining failures es options many shown name reader now old mid began ended selected) where
    -- buffered output was sent
    abbrev pub searched_sent : {new : Writer} → TakesAll mid new [] → SearchedOn s now new ended selected
    searched_sent sent = record { lines = s.lines; handed = s.handed; wrote = writes_sent es options many shown name s.wrote sent; few = s.few; none_early = s.none_early; steps = s.steps }

  -- lines that are held were searched at once
  module _ {before now : Numbered R} {old mid : Writer} {began amid : Steps} {selected : ℕ} (s : SearchedSoFar remaining failures es options many shown name reader before old mid began amid selected) (all : List Text) (next : HasHanded remaining failures reader now (s.lines ++ all)) where
    first_number : before.number + 1 ≡ length s.lines + 1
    first_number = ap (λ n. n + 1) (sym s.handed.counted)

    -- they are numbered on
    pub numbers_on : now.number ≡ before.number + length all
    numbers_on = sym next.counted ∙ length-append s.lines all ∙ ap (λ n. n + length all) s.handed.counted

    pub numbers_further : before.number ≤ now.number
    numbers_further = omega (arith, numbers_on)

    module _ {ended : Steps} (plain : IsPlain (form options)) (spent : SearchesLines options (length es) all amid ended) where
      all_spent : SearchesLines options (length es) (s.lines ++ all) began ended
      all_spent = searched_more_lines options (length es) s.lines all s.steps spent

      module _ {new : Writer} {found more : ℕ} (took : TakesLines es options many name (before.number + 1) all mid new found) (is : more ≡ min (selected + found) (2 ^ 64 - 1)) where
        sum : selected + found ≡ more
        sum = omega (arith, is, s.few, numbers_on, next.counted, next.few, found_within es options many name (before.number + 1) all took.rows found took.are_rows)

        all_written : WritesLines es options many shown name (s.lines ++ all) old new more
        all_written = rw sum at (writes_lines es options _ shown _ plain s.wrote (rw first_number at took))

        -- their rows were written
        pub searched_among : (IsTrue (leaves_early options) → found ≡ 0) → SearchedOn s now new ended more
        searched_among none = record {
          lines = s.lines ++ all;
          handed = next;
          wrote = all_written;
          few = omega (arith, sum, s.few, numbers_on, found_within es options _ _ _ _ _ _ took.are_rows);
          none_early = λ early. sym sum ∙ (omega (arith, s.none_early early, none early));
          steps = all_spent;
        }

        -- one is selected, and the source is left there
        pub leaves_among : 0 < found → IsTrue (leaves_early options)
            → GivesOn s now new ended (Ok (record { end = Left; selected = more }))
        leaves_among some early =
            searches_left es options many shown _ _ all_written all_spent
            (begins name next) next.hands.none_failed early (omega (arith, some, sum))

      -- a write failed in their rows
      breaks_in_lines : {new : Writer} → BreaksLines es options many name (before.number + 1) all mid new
          → GivesOn s now new ended (Err Write)
      breaks_in_lines broke =
          let at_first = rw first_number at broke in
          let added = adds_lines es options many shown name plain all s.lines s.wrote.rows at_first.rows s.wrote.chosen at_first.found (plain_written es options _ shown _ plain s.wrote.of) s.wrote.are_chosen at_first.are_rows in
          breaks_in es options _ _ _ _ next.hands.none_failed (written_plain es options _ shown _ _ plain _ _ added.0)
          (TakesFront-more s.wrote.wrote at_first.wrote) (at_first.counted ∙ ap one_more s.wrote.wrote.none_failed) all_spent (begins name next)

      -- that, or there is no room for the parts of one of them
      pub stops_in_lines : now.lines.reader ≡ before.lines.reader → IsOneLineAndFew before.lines.ahead → (new : Writer) (fault : SearchFault) → StopsLines es options many name (before.number + 1) all mid new fault
          → GivesOn s now new ended (Err fault)
      stops_in_lines _ _ _ Write broke = breaks_in_lines broke
      stops_in_lines same few new (Memory n) (counted, unwritten) =
          rw unwritten
          (stops_among es options _ _ _ _ _ n s.wrote all_spent (begins name next) (omega (arith, counted, s.handed.counted))
          (rw same (has_read remaining failures name reader before.lines s.lines s.handed.hands few)) next.hands.none_failed)

  -- one more line was handed out
  module _ {before now : Numbered R} {old mid : Writer} {began amid : Steps} {selected : ℕ} (s : SearchedSoFar remaining failures es options many shown name reader before old mid began amid selected) (line : Text) (next : HasHanded remaining failures reader now (s.lines ++ line ∷ [])) where
    -- its number
    pub is_next : now.number ≡ before.number + 1
    is_next = sym next.counted ∙ length_push s.lines line ∙ ap (λ n. n + 1) s.handed.counted

    -- fewer lines are selected than can be counted
    pub may_count : selected < most_lines
    may_count = omega (arith, s.few, is_next, next.counted, next.few)

    -- fewer numbers are left
    pub fewer_left : 2 ^ 64 - now.number < 2 ^ 64 - before.number
    fewer_left = omega (arith, is_next, next.counted, next.few)

    -- no more are selected than are numbered
    pub at_most : {more : ℕ} (found : Bool) → more ≡ (if found then selected + 1 else selected) → more ≤ now.number
    at_most true e = omega (arith, e, s.few, is_next)
    at_most false e = omega (arith, e, s.few, is_next)

    module _ {own : Text} (is : own ≡ line) {count : ℕ} (is_number : count ≡ now.number) where
      pub handed : HasHanded remaining failures reader now (s.lines ++ own ∷ [])
      handed = rw is next

      pub number : count ≡ length s.lines + 1
      number = is_number ∙ is_next ∙ ap (λ n. n + 1) (sym s.handed.counted)

      took : {new : Writer} → IsPlain (form options) → (found : Bool) → TakesLine es options many name count own mid new found → WritesLines es options many shown name (s.lines ++ own ∷ []) old new (if found then selected + 1 else selected)
      took plain found t = writes_line es options _ shown _ plain s.wrote (rw number at t)

      pub spent : {ended : Steps} → AddsAtMost (line_cost options (length es) own) amid ended → SearchesLines options (length es) (s.lines ++ own ∷ []) began ended
      spent one = searched_one_line options (length es) s.lines own s.steps one

      -- it was searched, and the search continues
      pub searched_line : IsPlain (form options) → {new : Writer} {ended : Steps} {found : Bool} {more : ℕ} → TakesLine es options many name count own mid new found → AddsAtMost (line_cost options (length es) own) amid ended
          → more ≡ (if found then selected + 1 else selected) → (IsTrue (leaves_early options) → found ≡ false) → SearchedOn s now new ended more
      searched_line plain {found = found} t one e goes_on = record {
        lines = s.lines ++ own ∷ [];
        handed = handed;
        wrote = rw e (took plain found t);
        few = at_most _ e;
        none_early = λ early. e ∙ ap (λ b. if b then selected + 1 else selected) (goes_on early) ∙ s.none_early early;
        steps = spent one;
      }

      -- it is selected, and the source is left there
      pub leaves_at : IsPlain (form options) → {new : Writer} {ended : Steps} {found early : Bool} {more : ℕ} → TakesLine es options many name count own mid new found → AddsAtMost (line_cost options (length es) own) amid ended
          → more ≡ (if found then selected + 1 else selected) → early ≡ leaves_early options → (found && early) ≡ true
          → GivesOn s now new ended (Ok (record { end = Left; selected = more }))
      leaves_at plain {found = true} {early = true} t one e is_early both =
          searches_left es options _ _ _ _ (rw (← e) at (took plain true t)) (spent one) (begins name handed) next.hands.none_failed (sym is_early) (omega (arith, e))
      leaves_at _ {found = true} {early = false} t _ e _ both = absurd (false≢true both)
      leaves_at _ {found = false} t _ e _ both = absurd (false≢true both)

      -- a write failed in its rows
      breaks_at : IsPlain (form options) → {new : Writer} {ended : Steps} → BreaksLine es options many name count own mid new → AddsAtMost (line_cost options (length es) own) amid ended
          → GivesOn s now new ended (Err Write)
      breaks_at plain broke one =
          let at_line = rw number at broke in
          let rows = rows_line es options many name (form options) plain s.lines own s.wrote.rows at_line.rows (plain_written es options many shown name plain s.wrote.of) at_line.are_rows in
          breaks_adding es options many shown _ _ next.hands.none_failed _ s.wrote (written_plain es options many shown name (form options) plain (s.lines ++ own ∷ []) (s.wrote.rows ++ at_line.rows) rows)
          (spent one) (begins name handed) at_line.wrote at_line.counted

      -- that, or there is no room for its parts
      pub stops_at : IsPlain (form options) → HasRead (open_source name (remaining reader)) (remaining now.lines.reader) s.lines → (new : Writer) {ended : Steps} (fault : SearchFault) → StopsLine es options many name count own mid new fault → AddsAtMost (line_cost options (length es) own) amid ended
          → GivesOn s now new ended (Err fault)
      stops_at plain _ _ Write broke one = breaks_at plain broke one
      stops_at plain read new (Memory n) (counted, unwritten) one =
          rw unwritten
          (stops_among es options many shown _ _ _ n s.wrote (spent one) (begins name handed) (omega (arith, counted, number)) read next.hands.none_failed)

  -- ---- where it ends: there is no next line, or the search is given up

  module _ {W : Type 0} (contents : W → Option Text) (write_failures : W → ℕ) {before : Numbered R} {old : Writer} (mid : W) {began ended : Steps} {selected : ℕ} (s : SearchedSoFar remaining failures es options many shown name reader before old (writer contents write_failures mid) began ended selected) (now : Numbered R) (new : W) where
    abbrev Taken : Result (Option FileEnd) SearchFault → Type 0
    Taken = NextTaken remaining failures contents write_failures reader s.lines now mid new

    sent : GoesOut contents write_failures mid new [] → WritesLines es options many shown name s.lines old (writer contents write_failures new) selected
    sent went = writes_sent es options many shown name s.wrote (TakesAll-written [] went)

    -- there is no next line
    pub ends_as : (end : FileEnd) → Taken (Ok (Some end)) → GivesOn s now (writer contents write_failures new) ended (Ok (record { end = end; selected = selected }))
    ends_as Whole (stands, went) =
        let w = sent went in
        let h = stands name in
        let unmet : FaultMet es options (file_of name h.reading) → ⊥ = rw h.file (λ m. m) in
        record {
          reading = h.reading;
          is_reading = h.is_reading;
          failures = record { own = failures_of h.reading; are_own = inr (unmet, whole-failures name h.reading (ap (λ (f : File). f.ending) h.file)); counted = h.counted; left = remaining now.lines.reader ∷ []; are_left = h.is_left; gave_back = refl };
          some = rw h.file (some_decides es options many shown name w);
          fault = decided_no unmet;
          ends = λ e. absurd (false≢true e);
          rows = w.of.groups;
          are_rows = rw h.file (rw w.counted at (output_all es options many name s.lines Whole (form options) w.of.groups w.chosen w.of.are_groups w.are_chosen));
          wrote = rw w.of.are_rows at w.wrote;
          steps = rw h.file s.steps;
        }
    ends_as Broken (stands, went) =
        let w = sent went in
        let h = stands name in
        let some = some_decides es options many shown name w in
        let none_selected : IsTrue (leaves_early options) → Any (Selected es options) s.lines → ⊥ = λ early has. false≢true (ap (nat_lt 0) (sym (s.none_early early)) ∙ some.1 has) in
        let met : FaultMet es options (file_of name h.reading) = rw h.file none_selected in
        record {
          reading = h.reading;
          is_reading = h.is_reading;
          failures = record { own = failures_of h.reading; are_own = inl (met, refl); counted = h.counted; left = remaining now.lines.reader ∷ []; are_left = h.is_left; gave_back = refl };
          some = rw h.file some;
          fault = decided_yes met;
          ends = λ _. ap (λ (f : File). f.ending) h.file;
          rows = w.of.groups;
          are_rows = rw h.file (rw w.counted at (output_all es options many name s.lines Broken (form options) w.of.groups w.chosen w.of.are_groups w.are_chosen));
          wrote = rw w.of.are_rows at w.wrote;
          steps = rw h.file s.steps;
        }
    ends_as Missing none = absurd none
    ends_as Left none = absurd none

    -- buffered output could not be sent, or an allocation failed
    pub stops_as : (fault : SearchFault) → Taken (Err fault) → GivesOn s now (writer contents write_failures new) ended (Err fault)
    stops_as Write (h, stopped) =
        breaks_in es options _ _ _ _ h.hands.none_failed s.wrote.of (rw (append-nil s.wrote.rows) at (TakesFront-more s.wrote.wrote (TakesFront-written [] stopped)))
        (stopped.counted ∙ ap one_more s.wrote.wrote.none_failed) s.steps (begins name h)
    stops_as (Memory count) (h, few, is_count, went) =
        stops_after es options _ _ _ _ (sent went) s.steps (begins name h) (h.counted ∙ is_count) (has_read remaining failures name reader now.lines s.lines h.hands few) h.hands.none_failed
