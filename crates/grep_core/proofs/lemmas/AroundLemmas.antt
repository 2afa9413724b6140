-- A search that shows lines around selected ones: what is written of a file's first lines, one more
-- line at a time.
use Rattle.grep_core.proofs.{Prelude.{AreUnselected, ◌≡◌, ℕ, ◌+◌, ◌-◌, ◌<◌, ◌≤◌, ◌⊎◌, ◌↔◌, Bool, true, false, ◌&&◌, ◌||◌, IsTrue, Decides, List, [], ◌∷◌, ◌++◌, length, take, drop, inl, inr, refl, sym, ap, subst, ◌∙◌, append_assoc, arith, if◌then◌else◌, enumerate_from, Text, Expression, Context, Options, Progress, EachGives, Selected, group_separator, IsShown, BeginsGroup, Groups, around, shown_number, name_shown, rows_after, progress_from, next_shown, with_waiting, after_line, last_of, rows_around, row_by, rows_at, min-eq_left, min-eq_right, cases_lt, false≢true, lt-ltb, le-ltb, or_right, false_from_ne_true, length-append, length-take-le, length-drop, append-nil, take-append-drop, drop_at, All-nil, All-cons, All-append, All-drop}, lemmas.{ChooseLaws.EachGives-append, Decided.dec_selected, Verdicts.{decided_yes, decided_no}, MoreLines.enumerate_from-append, ShownLemmas.{EachGives-placed, EachGives-placed_nothing, shown_more, shown_passed, shown_cases, shown_near, begins_from, begins_at, begins_same, shows_same}, GroupLaws.after_nothing, GroupLemmas.{after_group, said_before, more_nonempty, Given, groups_grown}}}

module _ (es : List Expression) (options : Options) (many : Bool) (name : Text) (context : Context) (before : Bool) where
  -- the search is at this progress after these lines, and these rows of them are written; `before`
  -- says whether some line was shown before them. The groups that the first lines show were
  -- written, and the others are held
  pub record Tracks (p : Progress) (lines rows : List Text) : Type 0 where
    pub same_context : p.context ≡ context
    pub few : p.waiting ≤ p.context.before
    pub within : p.waiting ≤ length lines
    pub front : List Text
    pub held : List Text
    pub with_parts : lines ≡ front ++ held
    pub many_held : length held ≡ p.waiting
    pub none_held : AreUnselected es options held
    pub kept : (k : ℕ) → length front ≤ k → k < length lines → ¬ IsShown es options context lines k
    pub missing : (k : ℕ) → k < length front → IsShown es options context lines k ⊎ (k + context.before < length lines)
    pub left : (d : ℕ) → (d < p.left) ↔ IsShown es options context lines (length lines + d)
    pub gap : Decides p.gap (BeginsGroup es options context lines (length front))
    pub groups : List Text
    pub given : EachGives (Given es options many name context lines) (enumerate_from 0 front) groups
    pub written : rows ≡ rows_after (around context) before groups
    pub shown : Decides p.shown (IsTrue before ⊎ (groups ≡ [] → ⊥))
    pub first : groups ≡ [] → p.gap ≡ true

  -- before the first line
  pub tracks_none : Tracks (progress_from context before) [] []
  tracks_none = record {
    same_context = refl;
    few = omega arith;
    within = omega arith;
    front = [];
    held = [];
    with_parts = refl;
    many_held = refl;
    none_held = All-nil (λ line. ¬ Selected es options line);
    kept = λ k low high _. omega (arith, high);
    missing = λ k below. absurd (omega (arith, below));
    left = λ d. ((λ below. absurd (omega (arith, below))), (λ s. absurd (omega (arith, s.on))));
    gap = ((λ _. tt), (λ _. refl));
    groups = [];
    given = refl;
    written = sym (after_nothing (around context) before);
    shown = said_before _;
    first = λ _. refl;
  }

  -- lines that wait are the last of all
  held_last : (p : Progress) {lines rows : List Text} (t : Tracks p lines rows) → last_of p.waiting lines ≡ t.held
  held_last p {lines} t =
      let front_long : length t.front ≡ length lines - p.waiting = omega (arith, ap length t.with_parts, length-append t.front t.held, t.many_held) in
      ap (drop (length lines - p.waiting)) t.with_parts ∙ drop_at t.front t.held (length lines - p.waiting) front_long

  -- the rows of these are before that of the next line
  rows_held : {p : Progress} {lines rows : List Text} (t : Tracks p lines rows) (row : Text)
      → rows_around options many name ((length lines + 1) - length (last_of p.waiting lines)) (last_of p.waiting lines) ++ row ∷ [] ≡ rows_around options many name (length t.front + 1) t.held ++ row ∷ []
  rows_held {p} {lines} t row =
      let number : (length lines + 1) - length t.held ≡ length t.front + 1 = omega (arith, ap length t.with_parts, length-append t.front t.held) in
      ap (λ w. rows_around options many name ((length lines + 1) - length w) w ++ row ∷ []) (held_last p t)
      ∙ ap (λ n. rows_around options many name n t.held ++ row ∷ []) number

  -- the next line is selected
  tracks_selected : (p : Progress) {lines rows : List Text} (line : Text) → Selected es options line → Tracks p lines rows
      → Tracks (after_line p true) (lines ++ line ∷ []) (rows ++ rows_at options many name true (next_shown p true) (last_of p.waiting lines) (length lines + 1) line)
  tracks_selected p {lines} {rows} line selected t =
      let all = lines ++ line ∷ [] in
      let one_more = length-append lines (line ∷ []) in
      let row = row_by options many name true (length lines + 1) line in
      let separator : List Text = if p.gap then group_separator ∷ [] else [] in
      let written = rows_around options many name (length t.front + 1) t.held ++ row ∷ [] in
      let long = ap length t.with_parts ∙ length-append t.front t.held in
      let few = rw t.same_context at t.few in
      let back : (k : ℕ) → k < length t.front → IsShown es options context all k → IsShown es options context lines k = λ k below s. elim (t.missing k below) [
        | inl shown ↦ shown
        | inr far ↦ elim (shown_cases es options context lines line s) [ inl shown ↦ shown | inr near ↦ absurd (omega (arith, far, near.0)) ]
      ] in
      let near : (k : ℕ) → length t.front ≤ k → k ≤ length lines → IsShown es options context all k = λ k low high.
      shown_near es options context lines line k selected (omega (arith, low, long, few, t.many_held)) (omega (arith, high)) in
      record {
        same_context = t.same_context;
        few = omega arith;
        within = omega arith;
        front = all;
        held = [];
        with_parts = sym (append-nil all);
        many_held = refl;
        none_held = All-nil (λ line. ¬ Selected es options line);
        kept = λ k low high _. omega (arith, low, high);
        missing = λ k below. elim (cases_lt k (length t.front)) [
          | inl early ↦ elim (t.missing k early) [ inl shown ↦ inl (shown_more es options context lines (line ∷ []) k shown) | inr far ↦ inr (omega (arith, far, one_more)) ]
          | inr late ↦ inl (near k late (omega (arith, below, one_more)))
        ];
        left = λ d. (
          (λ below. shown_near es options context lines line (length all + d) selected (omega (arith, one_more)) (omega (arith, rw t.same_context at below, one_more))),
          (λ s. rw t.same_context (omega (arith, s.on, s.after, one_more))),
        );
        gap = ((λ e. absurd (false≢true e)), (λ b. absurd (begins_at es options context all (length all) (length lines) b one_more (near (length lines) (omega (arith, long)) (omega arith)))));
        groups = t.groups ++ (separator ++ written);
        given = groups_grown es options many _ _ _ _ _ _ _ t.with_parts t.none_held t.given back near t.gap (inl (selected, refl));
        written = ap (λ w. rows ++ ((if p.gap && p.shown then group_separator ∷ [] else []) ++ w)) (rows_held t row)
            ∙ ap (λ r. r ++ ((if p.gap && p.shown then group_separator ∷ [] else []) ++ written)) t.written ∙ after_group context before p.gap p.shown t.groups written t.shown t.first;
        shown = ((λ _. inr (more_nonempty t.groups separator (rows_around options many name (length t.front + 1) t.held) row)), (λ _. refl));
        first = λ e. absurd (more_nonempty t.groups separator (rows_around options many name (length t.front + 1) t.held) row e);
      }

  -- the next line is not selected, and is shown after one that is
  tracks_after : (p : Progress) {lines rows : List Text} (line : Text) → ¬ Selected es options line → 0 < p.left → Tracks p lines rows
      → Tracks (record p { left = p.left - 1 }) (lines ++ line ∷ []) (rows ++ (rows_around options many name ((length lines + 1) - length (last_of p.waiting lines)) (last_of p.waiting lines) ++ row_by options many name false (length lines + 1) line ∷ []))
  tracks_after p {lines} {rows} line passed some t =
      let all = lines ++ line ∷ [] in
      let one_more = length-append lines (line ∷ []) in
      let row = row_by options many name false (length lines + 1) line in
      let written = rows_around options many name (length t.front + 1) t.held ++ row ∷ [] in
      let long = ap length t.with_parts ∙ length-append t.front t.held in
      let none = All-cons (λ l. ¬ Selected es options l) line [] passed (All-nil (λ l. ¬ Selected es options l)) in
      let here = (t.left 0).0 some in
      let here_on : here.place < length lines = here.on in
      let last_one : IsShown es options context lines (length lines - 1) = record { place = here.place; on = here.on; selected = here.selected; before = omega (arith, here_on); after = omega (arith, here.after) } in
      let all_before : length lines ≤ length t.front = elim (cases_lt (length t.front) (length lines)) [
        | inl low ↦ absurd (t.kept (length lines - 1) (omega (arith, low)) (omega (arith, low)) last_one)
        | inr high ↦ high
      ] in
      let no_gap = false_from_ne_true p.gap (λ e. begins_at es options context lines (length t.front) (length lines - 1) (t.gap.0 e) (omega (arith, all_before, long, here_on)) last_one) in
      let shown_here = shown_more es options context lines (line ∷ []) (length lines) (rw (let e : length lines + 0 ≡ length lines = omega arith in e) at here) in
      let near : (k : ℕ) → length t.front ≤ k → k ≤ length lines → IsShown es options context all k = λ k low high.
      rw (let e : length lines ≡ k = omega (arith, low, high, all_before) in e) at shown_here in
      let begins_not : BeginsGroup es options context all (length all) → ⊥ = λ b. begins_at es options context all (length all) (length lines) b one_more shown_here in
      let some_before : t.groups ≡ [] → ⊥ = λ e. false≢true (sym no_gap ∙ t.first e) in
      let group : List Text = (if p.gap then group_separator ∷ [] else []) ++ written in
      let ungapped = ap (λ b. (if b && p.shown then group_separator ∷ [] else []) ++ written) no_gap in
      record {
        same_context = t.same_context;
        few = t.few;
        within = omega (arith, t.within, one_more);
        front = all;
        held = [];
        with_parts = sym (append-nil all);
        many_held = omega (arith, long, all_before, t.many_held);
        none_held = All-nil (λ l. ¬ Selected es options l);
        kept = λ k low high _. omega (arith, low, high);
        missing = λ k below. elim (cases_lt k (length t.front)) [
          | inl early ↦ elim (t.missing k early) [ inl shown ↦ inl (shown_more es options context lines (line ∷ []) k shown) | inr far ↦ inr (omega (arith, far, one_more)) ]
          | inr late ↦ inl (near k late (omega (arith, below, one_more)))
        ];
        left = λ d.
            let next : length lines + (d + 1) ≡ length all + d = omega (arith, one_more) in (
              (λ below. shown_more es options context lines (line ∷ []) (length all + d) (rw next at ((t.left (d + 1)).0 (omega (arith, below))))),
              (λ s. let further : d + 1 < p.left = (t.left (d + 1)).1 (rw next (shown_passed es options _ _ _ _ none s)) in omega (arith, further)),
            );
        gap = ((λ e. absurd (false≢true (sym no_gap ∙ e))), (λ b. absurd (begins_not b)));
        groups = t.groups ++ group;
        given = groups_grown es options many _ _ _ _ _ _ _ t.with_parts t.none_held t.given (λ k _ s. shown_passed es options context lines (line ∷ []) k none s) near t.gap (inr (passed, refl));
        written = ap (λ w. rows ++ w) (rows_held t row) ∙ ap (λ r. r ++ written) t.written ∙ ap (λ w. rows_after (around context) before t.groups ++ w) (sym ungapped)
            ∙ after_group context before p.gap p.shown t.groups written t.shown t.first;
        shown = ((λ _. inr (more_nonempty t.groups (if p.gap then group_separator ∷ [] else []) (rows_around options many name (length t.front + 1) t.held) row)), (λ _. t.shown.1 (inr some_before)));
        first = λ e. absurd (more_nonempty t.groups (if p.gap then group_separator ∷ [] else []) (rows_around options many name (length t.front + 1) t.held) row e);
      }

  -- lines that are not selected, and not shown after one that is, wait as far as they may
  waits : (p : Progress) {lines rows : List Text} (passed : List Text) (gap : Bool) (n : ℕ) → AreUnselected es options passed → p.left ≡ 0
      → ((p.waiting + length passed ≤ context.before) × (n ≡ p.waiting + length passed) × (gap ≡ p.gap)) ⊎ ((context.before < p.waiting + length passed) × (n ≡ context.before) × (gap ≡ true))
      → Tracks p lines rows → Tracks (record p { gap = gap; waiting = n }) (lines ++ passed) rows
  waits p {lines} passed gap n none left_none step t =
      let all = lines ++ passed in
      let waiting = t.held ++ passed in
      let longer = length-append lines passed in
      let long = ap length t.with_parts ∙ length-append t.front t.held in
      let waiting_long = length-append t.held passed ∙ ap (λ w. w + length passed) t.many_held in
      let gone = (p.waiting + length passed) - n in
      let few : n ≤ p.waiting + length passed = elim step [ inl s ↦ omega (arith, s.1) | inr s ↦ omega (arith, s.0, s.1) ] in
      let few_before : n ≤ context.before = elim step [ inl s ↦ omega (arith, s.0, s.1) | inr s ↦ omega (arith, s.1) ] in
      let gone_long = length-take-le gone waiting (omega (arith, waiting_long)) in
      let front = t.front ++ take gone waiting in
      let front_long = length-append t.front (take gone waiting) ∙ ap (λ m. length t.front + m) gone_long in
      let none_shown : (k : ℕ) → length t.front ≤ k → ¬ IsShown es options context all k = λ k low s.
      let shown = shown_passed es options context lines passed k none s in
      elim (cases_lt k (length lines)) [
        | inl on ↦ t.kept k low on shown
        | inr out ↦
            let at : k ≡ length lines + (k - length lines) = omega (arith, out) in
            let some = (t.left (k - length lines)).1 (subst (IsShown es options context lines) at shown) in
            absurd (omega (arith, some, left_none))
      ] in
      let to = λ (k : ℕ). shown_more es options context lines passed k in
      let from : (k : ℕ) → IsShown es options context all k → IsShown es options context lines k = λ k. shown_passed es options context lines passed k none in
      let first = EachGives-placed (Given es options many name context lines) (Given es options many name context all) 0 t.front t.groups
      (λ k x zs low high. shows_same es options context (name_shown many name) (shown_number options) lines all k x zs (λ j _. to j) (λ j _. from j)) t.given in
      let rest = EachGives-placed_nothing (Given es options many name context all) (length t.front) (take gone waiting) (λ k x low high. inr (none_shown k low, refl)) in
      let zeroed : 0 + length t.front ≡ length t.front = omega arith in
      let placed =
      enumerate_from-append 0 t.front (take gone waiting) ∙ ap (λ m. enumerate_from 0 t.front ++ enumerate_from m (take gone waiting)) zeroed in
      record {
        same_context = t.same_context;
        few = rw t.same_context few_before;
        within = omega (arith, few, t.within, longer);
        front = front;
        held = drop gone waiting;
        with_parts = ap (λ ls. ls ++ passed) t.with_parts ∙ append_assoc t.front t.held passed ∙ ap (λ ls. t.front ++ ls) (sym (take-append-drop gone waiting)) ∙ sym (append_assoc t.front (take gone waiting) (drop gone waiting));
        many_held = omega (arith, length-drop gone waiting, waiting_long, few);
        none_held = All-drop (λ line. ¬ Selected es options line) gone waiting (All-append (λ line. ¬ Selected es options line) t.held passed t.none_held none);
        kept = λ k low high. none_shown k (omega (arith, low, front_long));
        missing = λ k below. elim (cases_lt k (length t.front)) [
          | inl early ↦ elim (t.missing k early) [ inl shown ↦ inl (to k shown) | inr far ↦ inr (omega (arith, far, longer)) ]
          | inr late ↦ elim step [
            | inl s ↦ absurd (omega (arith, below, front_long, late, s.1))
            | inr s ↦ inr (omega (arith, below, front_long, s.0, s.1, longer, long, t.many_held))
          ]
        ];
        left = λ d. ((λ below. absurd (omega (arith, below, left_none))), (λ s. absurd (none_shown (length all + d) (omega (arith, longer, long)) s)));
        gap = elim step [
          | inl s ↦
              let same : length t.front ≡ length front = omega (arith, front_long, s.1) in
              rw (← same) (rw s.2
              ((λ e. begins_same es options context lines all (length t.front) (λ j _. from j) (t.gap.0 e)), (λ b. t.gap.1 (begins_same es options context all lines (length t.front) (λ j _. to j) b))))
          | inr s ↦ ((λ _. begins_from es options context all (length front) (λ j e. none_shown j (omega (arith, front_long, e, s.0, s.1)))), (λ _. s.2))
        ];
        groups = t.groups;
        given = rw placed
            (rw (append-nil t.groups) at
            (EachGives-append (Given es options many name context all) (enumerate_from 0 t.front) (enumerate_from (length t.front) (take gone waiting)) t.groups [] first rest));
        written = t.written;
        shown = t.shown;
        first = λ e. elim step [ inl s ↦ s.2 ∙ t.first e | inr s ↦ s.2 ];
      }

  -- lines without a selected one were passed, where no line is shown any more after a selected one
  pub tracks_passed : {p : Progress} {lines rows : List Text} (passed : List Text) → AreUnselected es options passed → p.left ≡ 0 → Tracks p lines rows
      → Tracks (with_waiting (length passed) p) (lines ++ passed) rows
  tracks_passed {p} passed none left_none t =
      let room = ap (λ (c : Context). c.before) t.same_context in
      waits p _ _ _ none left_none
      (elim (cases_lt p.context.before (p.waiting + length passed)) [
        | inl over ↦ inr (omega (arith, over, room), min-eq_right (omega (arith, over)) ∙ room, or_right p.gap _ (lt-ltb _ _ over))
        | inr fits ↦ inl (omega (arith, fits, room), min-eq_left fits, ap (λ b. p.gap || b) (le-ltb _ _ fits) ∙ or_false p.gap)
      ]) t
    where
      or_false : (b : Bool) → (b || false) ≡ b
      or_false true = refl
      or_false false = refl

  -- the next line is not selected
  tracks_unselected : (p : Progress) {lines rows : List Text} (line : Text) → ¬ Selected es options line → Tracks p lines rows
      → Tracks (after_line p false) (lines ++ line ∷ []) (rows ++ rows_at options many name false (next_shown p false) (last_of p.waiting lines) (length lines + 1) line)
  tracks_unselected p {rows = rows} line passed t = elim (cases_lt 0 p.left) [
    | inl some ↦ rw (lt-ltb 0 p.left some) (tracks_after p line passed some t)
    | inr none ↦ rw (le-ltb 0 p.left none) (rw (append-nil rows)
        (tracks_passed _ (All-cons (λ l. ¬ Selected es options l) line [] passed (All-nil (λ l. ¬ Selected es options l))) (omega (arith, none)) t))
  ]

  -- the next line
  pub tracks_line : (p : Progress) {rows : List Text} (lines : List Text) (line : Text) (selected : Bool) → Decides selected (Selected es options line) → Tracks p lines rows
      → Tracks (after_line p selected) (lines ++ line ∷ []) (rows ++ rows_at options many name selected (next_shown p selected) (last_of p.waiting lines) (length lines + 1) line)
  tracks_line p lines line true reported t = tracks_selected p line (reported.0 refl) t
  tracks_line p lines line false reported t = tracks_unselected p line (λ s. false≢true (reported.1 s)) t

  -- what was written of the lines is what is shown of them, as if the file ended there
  pub tracked_groups : {p : Progress} {lines rows : List Text} → Tracks p lines rows
      → (groups : List Text) × Groups es options context (name_shown many name) (shown_number options) lines groups × (rows ≡ rows_after (around context) before groups)
  tracked_groups {p} {lines} t =
      let long = ap length t.with_parts ∙ length-append t.front t.held in
      let rest = EachGives-placed_nothing (Given es options many name context lines) (length t.front) t.held (λ k x low high. inr (t.kept k low (omega (arith, high, long)), refl)) in
      let zeroed : 0 + length t.front ≡ length t.front = omega arith in
      let placed =
      ap (enumerate_from 0) t.with_parts ∙ enumerate_from-append 0 t.front t.held ∙ ap (λ m. enumerate_from 0 t.front ++ enumerate_from m t.held) zeroed in (
        t.groups,
        rw placed
            (rw (append-nil t.groups) at
            (EachGives-append (Given es options many name context lines) (enumerate_from 0 t.front) (enumerate_from (length t.front) t.held) t.groups [] t.given rest)),
        t.written,
      )

  -- more lines add to what is written
  pub tracks_further : (p : Progress) (lines rows more : List Text) → Tracks p lines rows → (q : Progress) × (rest : List Text) × Tracks q (lines ++ more) (rows ++ rest)
  tracks_further p lines rows [] t = (p, [], rw (append-nil lines) (rw (append-nil rows) t))
  tracks_further p lines rows (line ∷ more) t =
      let reported = decided (dec_selected es options line) in
      let next = tracks_line p lines line reported.0 reported.1 t in
      let written = rows_at options many name reported.0 (next_shown p reported.0) (last_of p.waiting lines) (length lines + 1) line in
      let rest = tracks_further (after_line p reported.0) (lines ++ line ∷ []) (rows ++ written) more next in
      (rest.0, written ++ rest.1, rw (append_assoc rows written rest.1) at (rw (append_assoc lines (line ∷ []) more) at rest.2))
    where
      decided : {P : Type 0} → Dec P → (b : Bool) × Decides b P
      decided (yes h) = (true, decided_yes h)
      decided (no h) = (false, decided_no h)
