-- The rows of the lines of a file that are shown, one shown line after the other.
use Rattle.{grep_session.proofs.{Prelude.{◌≡◌, ℕ, zero, suc, ◌+◌, ◌-◌, nat_lt, ◌<◌, ◌≤◌, ◌⊎◌, Bool, true, false, ◌&&◌, IsTrue, Decides, List, [], ◌∷◌, ◌++◌, length, map, drop, get_or, slice_range, Option, None, Some, Result, Ok, Err, IfOk, IsErr, inl, inr, refl, sym, ap, ◌∙◌, arith, append_assoc, append-nil, if◌then◌else◌, enumerate_from, lt-ltb, le-ltb, cases_lt, false≢true, get_or_at, drop_all, length_push, length-append, Text, Expression, Span, Context, Options, EachGives, IfHolds, Selected, group_separator, IsShown, BeginsGroup, IsRow, Form, nothing, names, counts, parts, lines, around, lines_with, form, shown_number, written, name_shown, row_by, rows_after, file_so_far, IsPlain, LineRowsOf, RowsOfSelected, GoesOut, StopsWithin, Writes, KeptLine, line_text, span_places, IsKept, is_selected, context_as, place_rows, part_rows, NextShown, WritesGroups, subst}, lemmas.{KeptLaws.{parts_asked, selected_reported}, Writing.{drop-next, if_ok, writes_err}, GroupsWritten.{Reporting, Leads, leads_on, leads_to, groups_none, groups_more, groups_front, groups_are}}}, std.proofs.lemmas.Option.same_Some, grep_core.proofs.lemmas.{AroundLaws.{dec_shown, Shows-exist}, ChooseLaws.EachGives-exist, Exist.PartsOfLine-exist, FileOutput.{rows_line, rows_none}, ShownLemmas.{IfHolds-same, begins_from, begins_at}}}

-- under `-o` alone parts are asked for
asks_parts : (options : Options) → form options ≡ parts → IsTrue options.only_matching
asks_parts options e = by_flags options.quiet options.files_with_matches options.count options.only_matching options.invert_match options.context e
  where
    by_flags : (q l c o v : Bool) (context : Option Context) → (if q then nothing else if l then names else if c then counts else if o && v then nothing else if o then parts else lines_with context) ≡ parts → IsTrue o
    by_flags true l c o v context is = absurd cc
    by_flags false true c o v context is = absurd cc
    by_flags false false true o v context is = absurd cc
    by_flags false false false true v context is = refl
    by_flags false false false false v None is = absurd cc
    by_flags false false false false v (Some context) is = absurd cc

-- forms without rows of lines
pub none_due : (es : List Expression) (options : Options) (many : Bool) (name : Text) (texts : List Text) (shape : Form) → context_as shape ≡ None → LineRowsOf es options many shape (file_so_far name texts) []
none_due es options many name texts nothing is = refl
none_due es options many name texts names is = refl
none_due es options many name texts counts is = refl
none_due es options many name texts lines is = absurd cc
none_due es options many name texts parts is = absurd cc
none_due es options many name texts (around c) is = absurd cc

module _ {W : Type 0} (p : Reporting W) (name : Text) (context : Context) (texts : List Text) where
  open p use {contents, failures, margin, es, options, many}

  abbrev Shown : ℕ → Type 0
  Shown k = IsShown es options context texts k

  abbrev Begins : ℕ → Type 0
  Begins k = BeginsGroup es options context texts k

  -- the rows of a line that is shown
  abbrev DueRows : Form → ℕ × Text → List Text → Type 0
  DueRows (around c) line rows = (row : Text) × IsRow es options context (name_shown many name) (shown_number options (line.0 + 1)) line.1 row × IfHolds (Begins line.0) (rows ≡ group_separator ∷ row ∷ []) (rows ≡ row ∷ [])
  DueRows shape line rows = RowsOfSelected es options many shape name (line.0 + 1) line.1 rows

  abbrev DueAs : Form → ℕ × Text → List Text → Type 0
  DueAs shape line rows = IfHolds (Shown line.0) (DueRows shape line rows) (rows ≡ [])

  abbrev DueAt : ℕ × Text → List Text → Type 0
  DueAt line rows = DueAs (form options) line rows

  -- the rows of the lines from a place on, and of all
  abbrev DueFrom : ℕ → List Text → Type 0
  DueFrom k rows = EachGives DueAt (enumerate_from k (drop k texts)) rows

  abbrev AllAs : Form → List Text → List Text → Type 0
  AllAs shape texts rows = LineRowsOf es options many shape (file_so_far name texts) rows

  abbrev pub AllDue : List Text → Type 0
  AllDue rows = AllAs (form options) texts rows

  due_first : (k : ℕ) → k < length texts → (here rest : List Text) → DueAt (k, get_or texts k []) here → DueFrom (k + 1) rest → DueFrom k (here ++ rest)
  due_first k inside here rest d h = rw (drop-next texts k [] inside) (here, rest, d, h, refl)

  -- lines that are not shown have no rows
  due_passed : (k more : ℕ) → k + more ≤ length texts → ((i : ℕ) → k ≤ i → i < k + more → ¬ Shown i) → (rest : List Text) → DueFrom (k + more) rest → DueFrom k rest
  due_passed k zero within none rest h = let same : k + 0 ≡ k = omega arith in rw same at h
  due_passed k (suc more) within none rest h =
      let same : k + suc more ≡ (k + 1) + more = omega arith in
      due_first k (omega arith) [] rest (inr (none k (omega arith) (omega arith), refl))
      (due_passed (k + 1) more (omega arith) (λ i low high. none i (omega arith) (omega arith)) rest (rw same at h))

  due_next : (k next : ℕ) → NextShown es options context texts k next → (rest : List Text) → DueFrom next rest → DueFrom k rest
  due_next k next n rest h =
      let same : next ≡ k + (next - k) = omega arith in
      due_passed k (next - k) (omega arith) (λ i low high. n.passed i low (omega arith)) rest (rw same at h)

  due_end : (k : ℕ) → length texts ≤ k → DueFrom k []
  due_end k past = rw (drop_all k texts past) refl

  -- any line has its rows
  at_exist : (line : ℕ × Text) → (rows : List Text) × DueAt line rows
  at_exist line = by_shape _
    where
      by_place : (shape : Form) → Dec (Shown line.0) → (rows : List Text) → DueRows shape line rows → (rows : List Text) × DueAs shape line rows
      by_place shape (yes s) rows due = (rows, inl (s, due))
      by_place shape (no n) rows due = ([], inr (n, refl))

      by_shape : (shape : Form) → (rows : List Text) × DueAs shape line rows
      by_shape (around c) = Shows-exist es options context (name_shown many name) (shown_number options (line.0 + 1)) texts line.0 line.1
      by_shape nothing = by_place nothing (dec_shown es options context texts line.0) [] refl
      by_shape names = by_place names (dec_shown es options context texts line.0) [] refl
      by_shape counts = by_place counts (dec_shown es options context texts line.0) [] refl
      by_shape lines = by_place lines (dec_shown es options context texts line.0) (row_by options many name true (line.0 + 1) line.1 ∷ []) refl
      by_shape parts = let own = PartsOfLine-exist es options many (file_so_far name []) (line.0 + 1, line.1) in by_place parts (dec_shown es options context texts line.0) own.0 own.1

  -- where no lines around are shown, these are the rows of the selected lines
  abbrev PlainAt : Form → ℕ × Text → List Text → Type 0
  PlainAt shape line rows = IfHolds (Shown line.0) (RowsOfSelected es options many shape name (line.0 + 1) line.1 rows) (rows ≡ [])

  plain_due : (shape : Form) → IsPlain shape → context.before ≡ 0 → context.after ≡ 0 → (front left own rows : List Text) → front ++ left ≡ texts → AllAs shape front own
      → EachGives (PlainAt shape) (enumerate_from (length front) left) rows → AllAs shape texts (own ++ rows)
  plain_due shape plain no_before no_after front [] own rows e h d = subst (λ ts. AllAs shape ts (own ++ rows)) (sym (append-nil front) ∙ e) (subst (AllAs shape front) (sym (ap (λ r. own ++ r) d ∙ append-nil own)) h)
  plain_due shape plain no_before no_after front (line ∷ left) own rows e h (first, later, one, rest, joined) =
      let at : get_or texts (length front) [] ≡ line = ap (λ ts. get_or ts (length front) []) (sym e) ∙ get_or_at front line left [] (length front) refl in
      let here : IfHolds (Selected es options line) (RowsOfSelected es options many shape name (length front + 1) line first) (first ≡ []) =
      IfHolds-same
      (λ (s : Shown (length front)). let same : s.place ≡ length front = omega (arith, s.before, s.after, no_before, no_after) in subst (Selected es options) (ap (λ k. get_or texts k []) same ∙ at) s.selected)
      (λ (s : Selected es options line). record { place = length front; on = omega (arith, ap length e, length-append front (line ∷ left)); selected = subst (Selected es options) (sym at) s; before = omega arith; after = omega arith })
      one in
      subst (AllAs shape texts) (append_assoc own first later ∙ ap (λ r. own ++ r) (sym joined))
      (plain_due shape plain no_before no_after (front ++ line ∷ []) left (own ++ first) later (append_assoc front (line ∷ []) left ∙ e) (rows_line es options many name shape plain front line own first h here)
      (subst (λ n. EachGives (PlainAt shape) (enumerate_from n left) later) (sym (length_push front line)) rest))

  -- the rows of all lines
  all_due : (shape : Form) → context_as shape ≡ Some context → (rows : List Text) → EachGives (DueAs shape) (enumerate_from 0 texts) rows → AllAs shape texts rows
  all_due (around c) is rows h = rw (same_Some c context is) h
  all_due lines is rows h = let zeros = same_Some _ context is in plain_due lines tt (rw (← zeros)) (rw (← zeros)) [] texts [] rows refl (rows_none es options many name lines) h
  all_due parts is rows h = let zeros = same_Some _ context is in plain_due parts tt (rw (← zeros)) (rw (← zeros)) [] texts [] rows refl (rows_none es options many name parts) h
  all_due nothing is rows h = absurd (cc is)
  all_due names is rows h = absurd (cc is)
  all_due counts is rows h = absurd (cc is)

  -- ---- the rows of one line

  module _ (k : ℕ) (line : KeptLine) (kept : IsKept es options line) (begins some : Bool) (reported : Decides begins (Begins k)) (first : some ≡ false → begins ≡ true) where
    -- what is written at a line is what is due there, after some group or none
    abbrev GivesPlace : Form → List Text → Type 0
    GivesPlace shape own = (here : List Text) × DueRows shape (k, line_text line) here × (own ≡ rows_after shape some here) × ((more : List Text) → rows_after shape some (here ++ more) ≡ rows_after shape some here ++ rows_after shape true more)

    -- the row of a line, after a separator where a group begins
    group_given : (c : Context) (row : Text) → IsRow es options context (name_shown many name) (shown_number options (k + 1)) (line_text line) row → (begins some : Bool) → Decides begins (Begins k) → (some ≡ false → begins ≡ true)
        → (here : List Text) × DueRows (around c) (k, line_text line) here × ((if begins && some then group_separator ∷ [] else []) ++ row ∷ [] ≡ rows_after (around c) some here)
        × ((more : List Text) → rows_after (around c) some (here ++ more) ≡ rows_after (around c) some here ++ rows_after (around c) true more)
    group_given c row is true true d f = (group_separator ∷ row ∷ [], (row, is, inl (d.0 refl, refl)), refl, λ more. refl)
    group_given c row is true false d f = (group_separator ∷ row ∷ [], (row, is, inl (d.0 refl, refl)), refl, λ more. refl)
    group_given c row is false true d f = (row ∷ [], (row, is, inr ((λ b. false≢true (d.1 b)), refl)), refl, λ more. refl)
    group_given c row is false false d f = absurd (false≢true (f refl))

    place_given : (shape : Form) → context_as shape ≡ Some context → (shape ≡ parts → IsTrue options.only_matching) → GivesPlace shape (place_rows options many name shape (begins && some) (k + 1) line)
    place_given lines is asked = (row_by options many name true (k + 1) (line_text line) ∷ [], refl, refl, λ more. refl)
    place_given parts is asked = (part_rows options many name (k + 1) (line_text line) line.found.spans, (map span_places line.found.spans, parts_asked es options line (asked refl) kept, places_rows line.found.spans), refl, λ more. refl)
      where
        places_rows : (spans : List Span) → part_rows options many name (k + 1) (line_text line) spans ≡ map (λ p. row_by options many name true (k + 1) (slice_range (line_text line) p.0 p.1)) (map span_places spans)
        places_rows [] = refl
        places_rows (span ∷ spans) = rw (places_rows spans)
    place_given (around c) is asked = group_given c _ (is_row (is_selected options line) (selected_reported es options line kept)) begins some reported first
      where
        is_row : (found : Bool) → Decides found (Selected es options (line_text line)) → IsRow es options context (name_shown many name) (shown_number options (k + 1)) (line_text line) (row_by options many name found (k + 1) (line_text line))
        is_row true d = inl (d.0 refl, refl)
        is_row false d = inr ((λ s. false≢true (d.1 s)), refl)
    place_given nothing is asked = absurd (cc is)
    place_given names is asked = absurd (cc is)
    place_given counts is asked = absurd (cc is)

  -- ---- one shown line after the other

  -- the rows of the lines before line `k` were written, and line `k` is shown; `before` says whether
  -- a group was written before the file
  pub record ShownTo (before : Bool) (old now : W) (k : ℕ) (begins some : Bool) : Type 0 where
    pub fits : context_as (form options) ≡ Some context
    pub wrote : WritesGroups {E = Unit {0}} contents failures (Leads (DueFrom k) AllDue) (form options) margin before old now (Ok some)
    pub here : k < length texts → Shown k
    pub reported : Decides begins (Begins k)
    pub first : some ≡ false → begins ≡ true

  pub shown_none : context_as (form options) ≡ Some context → (before : Bool) (a : W) (k : ℕ) → NextShown es options context texts 0 k → ShownTo before a a k true before
  shown_none fits before a k n = record {
    fits = fits;
    wrote = groups_none (record { with_rest = λ rest h. all_due (form options) fits rest (due_next 0 k n rest h) });
    here = n.hit;
    reported = ((λ _. begins_from es options context texts k (λ j e. n.passed j (omega arith) (omega arith))), (λ _. refl));
    first = λ _. refl;
  }

  module _ {before : Bool} {a b : W} {k : ℕ} {begins some : Bool} (s : ShownTo before a b k begins some) where
    pub shown_all : {E : Type 0} → length texts ≤ k → WritesGroups {E = E} contents failures AllDue (form options) margin before a b (Ok some)
    shown_all past = groups_are s.wrote (λ us l. leads_to l (due_end k past))

    module _ (inside : k < length texts) (line : KeptLine) (at : get_or texts k [] ≡ line_text line) (kept : IsKept es options line) where
      abbrev pub own : List Text
      own = place_rows options many name (form options) (begins && some) (k + 1) line

      -- the rows of this line were written as the last call returned
      placed : {E : Type 0} {c : W} (r : Result Bool E) → IfOk r (λ now. now ≡ true) → Writes contents failures b c (written margin own) r → WritesGroups contents failures (Leads (DueFrom (k + 1)) AllDue) (form options) margin before a c r
      placed {E} {c} r is w =
          let place : GivesPlace k line kept begins some s.reported s.first (form options) own = place_given k line kept begins some s.reported s.first (form options) s.fits (asks_parts options) in
          let due : DueAt (k, get_or texts k []) place.0 = inl (s.here inside, subst (λ t. DueRows (form options) (k, t) place.0) (sym at) place.1) in
          let here : WritesGroups contents failures (Leads (DueFrom (k + 1)) (DueFrom k)) (form options) margin some b c r =
          record { groups = place.0; are_due = record { with_rest = λ rest h. due_first k inside place.0 rest due h }; wrote = subst (λ rows. Writes contents failures b c (written margin rows) r) place.2 w; goes_on = onward place.0 place.3 r is } in
          groups_more s.wrote here (λ us vs l m. leads_on l m)
        where
          onward : (here : List Text) → ((more : List Text) → rows_after (form options) some (here ++ more) ≡ rows_after (form options) some here ++ rows_after (form options) true more) → (r : Result Bool E) → IfOk r (λ now. now ≡ true)
              → IfOk r (λ now. (more : List Text) → rows_after (form options) some (here ++ more) ≡ rows_after (form options) some here ++ rows_after (form options) now more)
          onward here on (Ok now) is = λ more. on more ∙ ap (λ now. rows_after (form options) some here ++ rows_after (form options) now more) (sym is)
          onward here on (Err e) is = tt

      pub shown_on : {c : W} (next : ℕ) → GoesOut contents failures b c (written margin own) → NextShown es options context texts (k + 1) next → ShownTo before a c next (nat_lt (k + 1) next) true
      shown_on next w n = record {
        fits = s.fits;
        wrote = groups_are (placed {E = Unit {0}} (Ok true) refl w) (λ us l. record { with_rest = λ rest h. l.with_rest rest (due_next (k + 1) next n rest h) });
        here = n.hit;
        reported = by_place (cases_lt (k + 1) next);
        first = λ e. absurd (false≢true (sym e));
      }
        where
          by_place : (k + 1 < next) ⊎ (next ≤ k + 1) → Decides (nat_lt (k + 1) next) (Begins next)
          by_place (inl far) = ((λ _. begins_from es options context texts next (λ j e. n.passed j (omega arith) (omega arith))), (λ _. lt-ltb (k + 1) next far))
          by_place (inr near) = ((λ e. absurd (false≢true (sym (le-ltb (k + 1) next near) ∙ e))), (λ g. absurd (begins_at es options context texts next k g (omega arith) (s.here inside))))

      pub shown_stops : {E : Type 0} {c : W} (r : Result Bool E) → IsErr r → StopsWithin contents failures b c (written margin own) → WritesGroups contents failures AllDue (form options) margin before a c r
      shown_stops {c = c} r is w =
          groups_front is is (placed r (if_ok (λ now. now ≡ true) r is) (writes_err contents failures margin b c (written margin own) r is w))
          (λ us l. let rest = EachGives-exist DueAt at_exist (enumerate_from (k + 1) (drop (k + 1) texts)) in (rest.0, l.with_rest rest.0 rest.1))
