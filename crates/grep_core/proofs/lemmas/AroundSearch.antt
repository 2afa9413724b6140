-- A search of the lines of an open source, with lines around the selected ones, one more line at a
-- time.
use Rattle.{grep_core.{proofs.{Prelude.{◌≡◌, ℕ, ◌+◌, ◌≤◌, Bool, IsTrue, Decides, List, [], ◌∷◌, ◌++◌, Option, Err, length, refl, sym, ap, ◌∙◌, append-nil, inl, inr, arith, if◌then◌else◌, length-append, Text, Expression, Options, Context, Progress, Open, SearchFault, Selected, around, form, GroupsOf, IsOneLineAndFew, Writer, TakesAll, SearchesLines, LastLines, Numbered, HasHanded, AreUnselected, Waits, progress_from, next_shown, after_line, last_of, rows_at, leaves_early, ShowStops}, lemmas.{AroundLemmas.{Tracks, tracks_none, tracks_line, tracks_passed, tracked_groups, tracks_further}, CostLaws.searched_more_lines, ChooseLaws.EachGives-one, FileOutput.file_is, BlockLines.last_of-many, LinesLemmas.{early_form, WrittenOf, WritesLines, writes_more, stops_among, stops_after, breaks_adding, chosen_on, SearchedSoFar, GivesOn, begins, searched_none, searched_sent, number, at_most}, WaitingRows.{WaitsNot, waits_not_next, held_next, length-last_of}}}, specs.declared.status.SearchFault.TheVariants.{Write, Memory}}, re_search.specs.Meters.Steps, grep_io.proofs.lemmas.{HandedLemmas.has_read, FileLaws.file_with}}

-- ---- the turns of the search

-- what a search is of: a reader and its source, and how it searches
pub record Following (R : Type 0) : Type 0 where
  pub remaining : R → Option Text
  pub failures : R → ℕ
  pub es : List Expression
  pub options : Options
  pub many : Bool
  pub shown : Bool
  pub name : Text
  pub reader : R
  pub context : Context

module _ {R : Type 0} (f : Following R) where
  open f use {remaining, failures, es, options, many, shown, name, reader, context}

  -- the lines that were handed out were searched, and what is shown of them so far was written; the
  -- last of them are held
  pub record FollowedSoFar (now : Numbered R) (old new : Writer) (began ended : Steps) (selected : ℕ) (p : Progress) (recent : List Text) : Type 0 where
    pub asked : form options ≡ around context
    pub so_far : SearchedSoFar remaining failures es options many shown name reader now old new began ended selected
    pub tracks : Tracks es options many name context shown p so_far.lines so_far.wrote.rows
    pub apart : WaitsNot p
    pub held : recent ≡ last_of p.waiting so_far.lines

-- the same search, further on
abbrev pub FollowedOn : {R : Type 0} {f : Following R} {before : Numbered R} {old mid : Writer} {began amid : Steps} {selected : ℕ} {p : Progress} {recent : List Text} → FollowedSoFar f before old mid began amid selected p recent → Numbered R → Writer → Steps → ℕ → Progress → List Text → Type 0
FollowedOn {f = f} {old = old} {began = began} s now new ended selected p recent = FollowedSoFar f now old new began ended selected p recent

-- the rows that are tracked are written of the lines
written_tracked : {es : List Expression} {options : Options} {many shown : Bool} {name : Text} {context : Context} {p : Progress} {lines rows : List Text} → form options ≡ around context → Tracks es options many name context shown p lines rows → WrittenOf es options many shown name (form options) lines rows
written_tracked {es} {options} {many} {shown} {name} {context} {p} {lines} {rows} asked t =
    let now = tracked_groups es options many name context shown t in
    rw asked
    (record {
      groups = now.0;
      are_groups = now.1;
      are_rows = now.2;
      further = λ file more named has.
          let later = tracks_further es options many name context shown p lines rows more t in
          let all = tracked_groups es options many name context shown later.2 in (
            all.0,
            later.1,
            rw (file_is file named has) (EachGives-one (GroupsOf es options many context) (file_with name (lines ++ more) file.ending) all.0 all.1),
            sym all.2,
          );
    })

-- the limit of held lines stays that of the context
pub waiting_limit : {n : ℕ} {passed : List Text} {p q : Progress} {recent held : LastLines} → Waits passed p q recent held → recent.limit ≡ n → held.limit ≡ n
waiting_limit waits limit = elim waits [
  | inl none ↦ ap (λ (x : LastLines). x.limit) none.2 ∙ limit
  | inr some ↦ ap (λ (x : LastLines). x.limit) some.2 ∙ limit
]

-- such a source is not left early
never_early : {P : Type 0} (options : Options) {context : Context} → form options ≡ around context → IsTrue (leaves_early options) → P
never_early options asked early = absurd (elim (early_form options early) [ inl e ↦ (cc (asked, e)) | inr e ↦ (cc (asked, e)) ])

module _ {R : Type 0} {f : Following R} where
  open f use {remaining, failures, es, options, many, shown, name, reader, context}

  pub followed_none : {now : Numbered R} {w : Writer} {steps : Steps} {recent : List Text} → form options ≡ around context → now.lines.reader ≡ reader → now.lines.ahead ≡ [] → now.lines.stage ≡ Open → now.number ≡ 0 → recent ≡ [] → FollowedSoFar f now w w steps steps 0 (progress_from context shown) recent
  followed_none asked same none is_open zero empty =
      let tracks = tracks_none es options many name context shown in
      record { asked = asked; so_far = searched_none (written_tracked asked tracks) same none is_open zero; tracks = tracks; apart = λ _. refl; held = empty }

  -- buffered output was sent
  pub followed_sent : {now : Numbered R} {old mid new : Writer} {began ended : Steps} {selected : ℕ} {p : Progress} {recent : List Text} → FollowedSoFar f now old mid began ended selected p recent → TakesAll mid new [] → FollowedSoFar f now old new began ended selected p recent
  followed_sent s sent = record { asked = s.asked; so_far = searched_sent s.so_far sent; tracks = s.tracks; apart = s.apart; held = s.held }

  -- some lines were passed, which wait if any does
  pub followed_waiting : {before now : Numbered R} {old new : Writer} {began mid ended : Steps} {selected : ℕ} {p q : Progress} {recent held : LastLines} {passed : List Text} → recent.limit ≡ context.before → (s : FollowedSoFar f before old new began mid selected p recent.lines)
      → HasHanded remaining failures reader now (s.so_far.lines ++ passed) → AreUnselected es options passed → Waits passed p q recent held → SearchesLines options (length es) passed mid ended → (t : FollowedSoFar f now old new began ended selected q held.lines) × (t.so_far.lines ≡ s.so_far.lines ++ passed)
  followed_waiting {p = p} {q = q} {recent = recent} {passed = passed} limit s handed unselected waits spent =
      let before = s.so_far in
      let wrote = before.wrote in
      let tracks : Tracks es options many name context shown q (before.lines ++ passed) wrote.rows = elim waits [
        | inl none ↦ rw none.1 (rw (ap (λ ls. before.lines ++ ls) none.0 ∙ append-nil before.lines) s.tracks)
        | inr some ↦ rw some.1 (tracks_passed es options many name context shown passed unselected some.0 s.tracks)
      ] in (
        record {
          asked = s.asked;
          so_far = record {
            lines = before.lines ++ passed;
            handed = handed;
            wrote = record {
              rows = wrote.rows;
              of = written_tracked s.asked tracks;
              wrote = wrote.wrote;
              chosen = wrote.chosen;
              are_chosen = chosen_on es options many shown name before.lines passed wrote.chosen unselected wrote.are_chosen;
              counted = wrote.counted;
            };
            few = omega (arith, before.few, before.handed.counted, handed.counted, length-append before.lines passed);
            none_early = before.none_early;
            steps = searched_more_lines options (length es) before.lines passed before.steps spent;
          };
          tracks = tracks;
          apart = elim waits [
            | inl none ↦ rw none.1 s.apart
            | inr some ↦ rw some.1 (λ more. absurd (omega (arith, more, some.0)))
          ];
          held = elim waits [
            | inl none ↦ ap (λ (x : LastLines). x.lines) none.2 ∙ s.held ∙ ap (λ ls. last_of p.waiting ls) (sym (ap (λ ls. before.lines ++ ls) none.0 ∙ append-nil before.lines)) ∙ ap (λ (r : Progress). last_of r.waiting (before.lines ++ passed)) (sym none.1)
            | inr some ↦
                (let room = limit ∙ sym (ap (λ (c : Context). c.before) s.tracks.same_context) in
                ap (λ (x : LastLines). x.lines) some.2 ∙ ap (λ n. last_of n (recent.lines ++ passed)) room ∙ ap (λ ls. last_of p.context.before (ls ++ passed)) s.held
                ∙ last_of-many p.context.before p.waiting before.lines passed s.tracks.within s.tracks.few ∙ ap (λ (r : Progress). last_of r.waiting (before.lines ++ passed)) (sym some.1))
          ];
        },
        refl,
      )

  module _ {before : Numbered R} {old mid : Writer} {began amid : Steps} {selected : ℕ} {p : Progress} {recent : List Text} (s : FollowedSoFar f before old mid began amid selected p recent) where
    abbrev held_lines : List Text
    held_lines = s.so_far.lines

    -- lines that were searched could not be kept
    pub followed_unkept : {now : Numbered R} (all : List Text) {ended : Steps} {count : ℕ} → now.lines.reader ≡ before.lines.reader → IsOneLineAndFew before.lines.ahead → HasHanded remaining failures reader now (held_lines ++ all) → SearchesLines options (length es) all amid ended → before.number ≡ count
        → GivesOn s.so_far now mid ended (Err (Memory count))
    followed_unkept {now} all {count = count} same few h spent is_count =
        stops_among es options many shown name (remaining now.lines.reader) all count s.so_far.wrote (searched_more_lines options (length es) held_lines all s.so_far.steps spent) (begins name h) (s.so_far.handed.counted ∙ is_count)
        (rw same (has_read remaining failures name reader before.lines held_lines s.so_far.handed.hands few)) h.hands.none_failed

    -- one more line was handed out or passed
    module _ {now : Numbered R} (line : Text) (next : HasHanded remaining failures reader now (held_lines ++ line ∷ [])) {count : ℕ} (is_number : count ≡ now.number) where
      is_count : count ≡ length held_lines + 1
      is_count = number s.so_far line next refl is_number

      -- no more lines are held than were handed out
      pub held_few : length recent ≤ count
      held_few = omega (arith, is_count, ap length s.held ∙ length-last_of p.waiting held_lines s.tracks.within, s.tracks.within)

      module _ {found : Bool} (reported : Decides found (Selected es options line)) {ended : Steps} (spent : SearchesLines options (length es) (held_lines ++ line ∷ []) began ended) where
        -- what is shown at it
        abbrev due : List Text
        due = rows_at options many name found (next_shown p found) recent count line

        abbrev added : List Text
        added = rows_at options many name found (next_shown p found) (last_of p.waiting held_lines) (length held_lines + 1) line

        tracked : Tracks es options many name context shown (after_line p found) (held_lines ++ line ∷ []) (s.so_far.wrote.rows ++ added)
        tracked = tracks_line es options many _ context shown p _ _ found reported s.tracks

        at_line : due ≡ added
        at_line = ap (λ ls. rows_at options many name found (next_shown p found) ls count line) s.held ∙ ap (λ n. rows_at options many name found (next_shown p found) (last_of p.waiting held_lines) n line) is_count

        abbrev written : {new : Writer} {more : ℕ} → TakesAll mid new due → more ≡ (if found then selected + 1 else selected) → WritesLines es options many shown name (held_lines ++ line ∷ []) old new more
        written took e = writes_more es options many shown name line s.so_far.wrote (written_tracked s.asked tracked) (rw at_line at took) reported e

        -- that was written, and the line is held if it is not shown
        pub followed_line : {new : Writer} {more : ℕ} {later : List Text} → TakesAll mid new due → more ≡ (if found then selected + 1 else selected)
            → later ≡ (if (next_shown p found).itself then [] else last_of context.before (recent ++ line ∷ [])) → FollowedSoFar f now old new began ended more (after_line p found) later
        followed_line took e kept = record {
          asked = s.asked;
          so_far = record { lines = held_lines ++ line ∷ []; handed = next; wrote = written took e; few = at_most s.so_far line next _ e; none_early = λ early. never_early options s.asked early; steps = spent };
          tracks = tracked;
          apart = waits_not_next p _ s.apart;
          held = held_next p _ _ s.held s.tracks.few s.tracks.within s.apart _ (kept ∙ ap (λ n. if (next_shown p found).itself then [] else last_of n (recent ++ line ∷ [])) (sym (ap (λ (c : Context). c.before) s.tracks.same_context)));
        }

        -- it could not be written, or the line could not be kept
        pub followed_stops : IsOneLineAndFew now.lines.ahead → (new : Writer) (waits : LastLines) → waits.lines ≡ recent → (fault : SearchFault) → ShowStops options many name found count line p waits mid new fault → GivesOn s.so_far now new ended (Err fault)
        followed_stops few_held new waits is Write shows =
            breaks_adding es options many shown name (remaining now.lines.reader) next.hands.none_failed line s.so_far.wrote (written_tracked s.asked tracked) spent (begins name next)
            (rw at_line at (rw is at shows.wrote)) shows.counted
        followed_stops few_held new waits is (Memory n) (counted, took) =
            rw (← counted) (stops_after es options many shown name (remaining now.lines.reader) (written (rw is at took) refl) spent (begins name next)
            (next.counted ∙ sym is_number) (has_read remaining failures name reader now.lines (held_lines ++ line ∷ []) next.hands few_held) next.hands.none_failed)
