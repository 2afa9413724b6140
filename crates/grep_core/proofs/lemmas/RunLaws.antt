-- A run over sources, one more source at a time, and how it ends.
use Rattle.{grep_core.{proofs.{Prelude.{◌≡◌, ℕ, zero, suc, ◌+◌, nat_lt, ◌<◌, ◌≤◌, Bool, true, false, ◌||◌, ◌&&◌, IsTrue, Decides, List, [], ◌∷◌, ◌++◌, length, take, drop, get_or, Option, None, Ok, Err, Any, refl, sym, ap, subst, ◌∙◌, inl, inr, arith, append-nil, append_assoc, take-suc, take-append_seam, get_or-append_seam, false≢true, cond-true, length-append, length-take-le, take_all, Text, Expression, Options, Status, RunFault, MessageWrite, FileEnd, one_more, IfHolds, File, missing, HasSelected, Form, nothing, names, counts, parts, lines, around, form, Out, shows_names, FaultMet, Stops, Reported, Messages, AnySelected, StatusOf, Source, Reading, IsReadingOf, file_of, failures_of, AreLeft, HasRead, Writer, Devices, TakesAll, TakesFront, TakesPast, files_of, AreReadings, FailuresMet, LeftMet, begun, file_at, count_more, Story, Finishes, BreaksOff, StopsAfter, RunGives, source_at, SearchesLines, SearchesFiles, GroupedAs, rows_after, is_fault, status_by, SourceGives, CountsSource, FinishesSource}, lemmas.{CostLaws.searched_up_to, Decided.dec_stops, Verdicts.decided_no, MoreFiles.{GroupedAs-append, GroupedAs-front, grouped_out}, GroupLaws.{after_nothing, after_longer, after_two}, MessageLaws.{Reported-nothing, Reported-append, Reached-all, Reached-stopped, Messages-reached, Messages-front}, PassLemmas.or_decides, Readings.AreReadings-exist, SourceLaws.{AreReadings-append, files_of-append, length-files_of, count_more-add, FailuresMet-append, FailuresMet-stopped, FailuresMet-one, FailuresMet-longer, LeftMet-append, LeftMet-stopped, LeftMet-one, LeftMet-longer}, StatusLaws.{StatusOf-stopped, StatusOf-error, StatusOf-selected, StatusOf-none}, WriterLaws.{TakesAll-nothing, TakesAll-more, TakesFront-all, TakesFront-longer, TakesPast-all, TakesPast-more}}}, specs.declared.status.RunFault.TheVariants.{Write, Memory}}, re_syntax.proofs.lemmas.{Decisions.{Any-none, Any-first}, SomeOfJoined.{Any-left, Any-right, Any-append-cases, Any-single, none_more}}, re_meter.proofs.lemmas.Adding.adds_none}
use Rattle.grep_core.specs.declared.status.Status.TheVariants.{Selected as selected}

-- ---- verdicts

-- the verdict on some element of a list and one more
any_decides : {A : Type 0} (P : A → Type 0) (xs : List A) (x : A) {a b : Bool} → Decides a (Any P xs) → Decides b (P x) → Decides (a || b) (Any P (xs ++ x ∷ []))
any_decides P xs x {a} {b} p q =
    or_decides a b p q (Any-left P xs (x ∷ [])) (λ h. Any-right P xs (x ∷ []) (Any-first P x [] h))
    (λ s none not_here. elim (Any-append-cases P xs (x ∷ []) s) [ inl l ↦ none l | inr r ↦ not_here (Any-single P x r) ])

-- where the two are not both true, not both hold
not_both : {P : Type 0} (quiet some : Bool) → (quiet && some) ≡ false → Decides some P → IsTrue quiet × P → ⊥
not_both true true e d h = false≢true (sym e)
not_both true false e d h = false≢true (d.1 h.1)
not_both false _ e d h = false≢true h.0

-- where the two are both true, both hold
both_hold : {P : Type 0} (quiet some : Bool) → (quiet && some) ≡ true → Decides some P → IsTrue quiet × P
both_hold true true e d = (refl, d.0 refl)
both_hold true false e d = absurd (false≢true e)
both_hold false _ e d = absurd (false≢true e)

-- a list is what is before a place, what is at it and the rest
cut_at : {A : Type 0} (xs : List A) (k : ℕ) (d : A) → k < length xs → xs ≡ take k xs ++ get_or xs k d ∷ drop (suc k) xs
cut_at [] k d h = absurd (omega (arith, h))
cut_at (x ∷ xs) zero d h = refl
cut_at (x ∷ xs) (suc k) d h = ap (λ l. x ∷ l) (cut_at xs k d (omega (arith, h)))

module _ (es : List Expression) (options : Options) (many : Bool) where
  -- output and messages for these sources were written, and the run continues
  pub record RunSoFar (before : List Source) (given : List (Option Text) → Type 0) (old new : Devices) (some faulty : Bool) : Type 0 where
    pub story : Story es options before before given old new
    pub output : List Text
    pub is_output : GroupedAs es options many (form options) (files_of before story.readings) output
    pub wrote : TakesAll old.out new.out (rows_after (form options) false output)
    pub messages : List Text
    pub are_reported : Reported es options (files_of before story.readings) messages
    pub reported : TakesAll old.messages new.messages messages
    pub goes_on : Any (Stops es options) (files_of before story.readings) → ⊥
    pub some_reported : Decides some (AnySelected es options (files_of before story.readings))
    pub faulty_reported : Decides faulty (Any (FaultMet es options) (files_of before story.readings))

module _ {es : List Expression} {options : Options} {many : Bool} where
  -- no source was read yet
  pub run_none : (given : List (Option Text) → Type 0) → given [] → (d : Devices) → RunSoFar es options many [] given d d false false
  run_none given none d = record {
    story = record {
      readings = [];
      are_readings = tt;
      failures = 0;
      are_failures = refl;
      counted = refl;
      left = [];
      are_left = refl;
      gave_back = none;
      steps = adds_none 0 0 d.steps;
    };
    output = [];
    is_output = nothing_written _;
    wrote = rw (after_nothing (form options) false) (TakesAll-nothing _);
    messages = [];
    are_reported = Reported-nothing es options;
    reported = TakesAll-nothing _;
    goes_on = Any-none (Stops es options);
    some_reported = decided_no (Any-none (HasSelected es options));
    faulty_reported = decided_no (Any-none (FaultMet es options));
  }
    where
      nothing_written : (shape : Form) → GroupedAs es options many shape [] []
      nothing_written nothing = refl
      nothing_written names = ([], refl, refl)
      nothing_written counts = refl
      nothing_written parts = refl
      nothing_written lines = refl
      nothing_written (around context) = refl

  -- what was returned before this source, in its search, and up to its end
  module _ {before : List Source} (source : Source) {given : List (Option Text) → Type 0} (own_given all_given : List (Option Text) → Type 0) (join : (a b : List (Option Text)) → given a → own_given b → all_given (a ++ b))
      {old mid : Devices} {some faulty : Bool} (s : RunSoFar es options many before given old mid some faulty) where
    abbrev due : Bool → List Text → List Text
    due = rows_after (form options)

    abbrev Grouped : List File → List Text → Type 0
    Grouped = GroupedAs es options many (form options)

    abbrev first : List File
    first = files_of before s.story.readings

    -- what was written for the first sources, and for this one
    wrote_both : (rows : List Text) → due false (s.output ++ rows) ≡ due false s.output ++ due some rows
    wrote_both rows = after_two es options many (form options) first s.output rows s.is_output s.some_reported

    takes_both : {new : Writer} (rows : List Text) → TakesAll mid.out new (due some rows) → TakesAll old.out new (due false (s.output ++ rows))
    takes_both {new} rows took = rw (wrote_both rows) (TakesAll-more old.out mid.out new (due false s.output) (due some rows) s.wrote took)

    module _ (after : List Source) (r : Reading) (is_reading : IsReadingOf source r) where
      -- what the sources after this one did is any that they may have done
      abbrev rest : (rs : List Reading) × AreReadings after rs
      rest = AreReadings-exist _

      abbrev readings : List Reading
      readings = s.story.readings ++ r ∷ rest.0

      abbrev file : File
      file = file_of source.name r

      abbrev following : List File
      following = files_of after rest.0

      abbrev all_sources : List Source
      all_sources = before ++ source ∷ after

      abbrev files : List File
      files = files_of all_sources readings

      abbrev Counts : Devices → Type 0
      Counts new = CountsSource es options many some source own_given r mid.source_failures new.source_failures

      abbrev Spends : Devices → Type 0
      Spends new = SearchesLines options (length es) file.lines mid.steps new.steps

      are_all : AreReadings all_sources readings
      are_all = AreReadings-append _ _ _ _ s.story.are_readings (is_reading, rest.1)

      all_files : files ≡ first ++ file ∷ following
      all_files = files_of-append _ _ _ _ s.story.are_readings

      regrouped : (first ++ file ∷ []) ++ following ≡ files
      regrouped = append_assoc first (file ∷ []) following ∙ sym all_files

      -- the steps for the first sources and this one are within the cost of all
      spent : (new : Devices) → Spends new → SearchesFiles options (length es) files old.steps new.steps
      spent new steps = rw all_files (searched_up_to options (length es) first file following s.story.steps steps)

      -- the first sources and this one
      up_to_here : take (suc (length before)) all_sources ≡ before ++ source ∷ []
      up_to_here =
          let these = before ++ source ∷ [] in
          let count : suc (length before) ≡ length these = omega (arith, length-append before (source ∷ [])) in
          ap (λ n. take n all_sources) count ∙ ap (take (length these)) (sym (append_assoc before (source ∷ []) after)) ∙ take-append_seam these after

      are_here : AreReadings (before ++ source ∷ []) (s.story.readings ++ r ∷ [])
      are_here = AreReadings-append _ _ _ _ s.story.are_readings (is_reading, tt)

      -- how often the devices failed in them
      met_here : (own : ℕ) → IfHolds (FaultMet es options file) (own ≡ failures_of r) (own ≡ 0) → FailuresMet es options (take (suc (length before)) all_sources) readings (s.story.failures + own)
      met_here own are_own =
          let here = FailuresMet-append es options before (source ∷ []) s.story.readings (r ∷ []) s.story.failures own s.story.are_readings s.goes_on s.story.are_failures (FailuresMet-one es options source r own are_own) in
          rw up_to_here
          (rw (append_assoc s.story.readings (r ∷ []) rest.0) at (FailuresMet-longer es options (before ++ source ∷ []) (s.story.readings ++ r ∷ []) rest.0 (s.story.failures + own) are_here here))

      -- and what their readers had left
      left_here : (own : List (Option Text)) → AreLeft source r own → LeftMet es options (take (suc (length before)) all_sources) readings (s.story.left ++ own)
      left_here own is_left =
          let here = LeftMet-append es options before (source ∷ []) s.story.readings (r ∷ []) s.story.left own s.story.are_readings s.goes_on s.story.are_left (LeftMet-one es options source r own is_left) in
          rw up_to_here
          (rw (append_assoc s.story.readings (r ∷ []) rest.0) at (LeftMet-longer es options (before ++ source ∷ []) (s.story.readings ++ r ∷ []) rest.0 (s.story.left ++ own) are_here here))

      counted_here : {new : ℕ} (own : ℕ) → new ≡ count_more mid.source_failures own → new ≡ count_more old.source_failures (s.story.failures + own)
      counted_here own counted = counted ∙ ap (λ n. count_more n own) s.story.counted ∙ sym (count_more-add old.source_failures s.story.failures own)

      -- what was done to them
      abbrev story_here : (new : Devices) → Counts new → Spends new → Story es options all_sources (take (suc (length before)) all_sources) all_given old new
      story_here new failed steps = record {
        readings = readings;
        are_readings = are_all;
        failures = s.story.failures + failed.own;
        are_failures = met_here _ failed.are_own;
        counted = counted_here _ failed.counted;
        left = s.story.left ++ failed.left;
        are_left = left_here _ failed.are_left;
        gave_back = join s.story.left failed.left s.story.gave_back failed.gave_back;
        steps = spent new steps;
      }

      module _ (is_many : many ≡ shows_names (length all_sources)) where
        all_many : many ≡ shows_names (length files)
        all_many = is_many ∙ ap shows_names (sym (length-files_of _ _ are_all))

        within : length before < length all_sources
        within = omega (arith, length-append before (source ∷ after))

        -- the first files are those of the first sources
        as_many : length first ≡ length before
        as_many = length-files_of _ _ s.story.are_readings

        front : take (length before) files ≡ first
        front = ap (λ k. take k files) (sym as_many) ∙ ap (take (length first)) all_files ∙ take-append_seam first (file ∷ following)

        -- what was reported of them
        reported_before : Messages es options (take (length before) files) s.messages
        reported_before = rw front (Messages-reached es options _ _ _ (Reached-all es options first s.goes_on) s.are_reported)

        -- the output for the first sources and this one is a beginning of the output
        out_front : (rows : List Text) → Grouped (file ∷ []) rows → (more : List Text) × Out es options files (due false s.output ++ (due some rows ++ more))
        out_front rows is =
            let both = GroupedAs-append es options many (form options) first (file ∷ []) s.output rows s.is_output is in
            let more = GroupedAs-front es options many (form options) (first ++ file ∷ []) following (s.output ++ rows) both in
            let all = grouped_out es options many (form options) ((first ++ file ∷ []) ++ following) ((s.output ++ rows) ++ more.0) more.1 in
            let longer = after_longer (form options) false (s.output ++ rows) more.0 in
            let with_parts = ap (λ l. l ++ longer.0) (wrote_both rows) ∙ append_assoc (due false s.output) (due some rows) longer.0 in
            (longer.0, rw (← all_many) (rw regrouped at (rw (longer.1 ∙ with_parts) at all)))

        -- a write failed within the output for this source, or within its message
        breaks_off : (new : Devices) (rows : List Text) {text : List Text} → Grouped (file ∷ []) rows → ((more : List Text) → TakesFront mid.out new.out (due some rows ++ more)) → Messages es options files text → TakesPast old.messages new.messages s.messages text
            → Counts new → Spends new → BreaksOff es options all_sources all_given old new
        breaks_off new rows {text} is front_here due_messages past failed steps =
            let out = out_front rows is in
            record {
              at = length before;
              in_sources = within;
              story = story_here new failed steps;
              wrote = record {
                first = due false s.output;
                due_first = rw (← all_many) (rw front (grouped_out es options many (form options) first s.output s.is_output));
                text = due false s.output ++ (due some rows ++ out.0);
                due = out.1;
                past = TakesPast-more _ _ s.wrote (front_here out.0);
              };
              reported = record { first = s.messages; due_first = reported_before; text = text; due = due_messages; past = past };
            }

        -- the messages about the first sources are a beginning of all messages
        says_more : (more : List Text) × Messages es options files (s.messages ++ more)
        says_more = let more = Messages-front es options first (file ∷ following) s.messages s.goes_on s.are_reported in (more.0, rw all_files more.1)

        -- and so are those about them and this one
        says_front : (messages : List Text) → Reported es options (file ∷ []) messages → (more : List Text) × Messages es options files (s.messages ++ (messages ++ more))
        says_front messages reported_too =
            elim (dec_stops es options file) [
              | yes here ↦ ([], rw all_files (rw (append-nil messages) (Messages-reached es options _ _ _ (Reached-stopped es options first following file s.goes_on here) both)))
              | no goes ↦ (let more = Messages-front es options (first ++ file ∷ []) following (s.messages ++ messages) (none_more (Stops es options) first file s.goes_on goes) both in
                  (more.0, rw (append_assoc s.messages messages more.0) at (rw regrouped at more.1)))
            ]
          where
            both : Reported es options (first ++ file ∷ []) (s.messages ++ messages)
            both = Reported-append es options _ _ _ _ s.are_reported reported_too

        -- out of memory after n of its lines
        stops : (new : Devices) (n : ℕ) (rows : List Text) {last : Option Text} → n ≤ length file.lines → HasRead source last (take n file.lines) → Grouped (begun (form options) n file) rows → TakesAll mid.out new.out (due some rows) → new.messages ≡ mid.messages
            → new.source_failures ≡ mid.source_failures → own_given (last ∷ []) → Spends new → StopsAfter es options all_sources all_given old new (length before) n
        stops new n rows {last} inside read are took same none_failed gives steps =
            let here =
            ap (file_at files) (sym as_many) ∙ ap (λ fs. file_at fs (length first)) all_files ∙ get_or-append_seam first file following (record { name = []; lines = []; ending = missing }) in
            record {
              in_sources = within;
              rest = last;
              story = record {
                readings = readings;
                are_readings = are_all;
                failures = s.story.failures;
                are_failures = rw (take-append_seam before (source ∷ after)) (FailuresMet-longer es options _ _ _ _ s.story.are_readings s.story.are_failures);
                counted = none_failed ∙ s.story.counted;
                left = s.story.left;
                are_left = rw (take-append_seam before (source ∷ after)) (LeftMet-longer es options _ _ _ _ s.story.are_readings s.story.are_left);
                gave_back = join s.story.left (last ∷ []) s.story.gave_back gives;
                steps = spent new steps;
              };
              in_file = rw here inside;
              read = rw (get_or-append_seam before source after (record { name = []; opens = None; bytes = None })) (rw here read);
              wrote = record {
                text = due false (s.output ++ rows);
                due = rw (← all_many) (rw front (rw here (grouped_out es options many (form options) (first ++ begun (form options) n file) (s.output ++ rows)
                    (GroupedAs-append es options many (form options) first (begun (form options) n file) s.output rows s.is_output are))));
                all = takes_both rows took;
              };
              reported = record { text = s.messages; due = reported_before; all = rw same s.reported };
            }

        -- under `-q` a line of this source is selected
        finishes_here : (new : Devices) (rows : List Text) {messages : List Text} → Stops es options file → Grouped (file ∷ []) rows → TakesAll mid.out new.out (due some rows) → Reported es options (file ∷ []) messages → TakesAll mid.messages new.messages messages
            → Counts new → Spends new → Finishes es options all_sources all_given old new selected
        finishes_here new rows {messages} here is took reported_too reported failed steps =
            let quiet_form : form options ≡ nothing = cond-true _ _ _ here.0 in
            let none_out : Grouped following [] = rw quiet_form refl in
            let grouped = GroupedAs-append es options many (form options) (first ++ file ∷ []) following (s.output ++ rows) [] (GroupedAs-append es options many (form options) first (file ∷ []) s.output rows s.is_output is) none_out in
            let output = grouped_out es options many (form options) ((first ++ file ∷ []) ++ following) (s.output ++ rows) (rw (append-nil (s.output ++ rows)) at grouped) in
            record {
              story = record {
                readings = readings;
                are_readings = are_all;
                failures = s.story.failures + failed.own;
                are_failures = FailuresMet-append es options _ _ _ _ _ _ s.story.are_readings s.goes_on s.story.are_failures (FailuresMet-stopped es options source after r rest.0 failed.own here failed.are_own);
                counted = counted_here _ failed.counted;
                left = s.story.left ++ failed.left;
                are_left = LeftMet-append es options _ _ _ _ _ _ s.story.are_readings s.goes_on s.story.are_left (LeftMet-stopped es options source after r rest.0 failed.left here failed.are_left);
                gave_back = join s.story.left failed.left s.story.gave_back failed.gave_back;
                steps = spent new steps;
              };
              wrote = record { text = due false (s.output ++ rows); due = rw (← all_many) (rw regrouped at output); all = takes_both rows took };
              reported = record {
                text = s.messages ++ messages;
                due = rw all_files (Messages-reached es options _ _ _ (Reached-stopped es options first following file s.goes_on here)
                    (Reported-append es options first (file ∷ []) s.messages messages s.are_reported reported_too));
                all = TakesAll-more old.messages mid.messages new.messages s.messages messages s.reported reported;
              };
              is_status = rw all_files (StatusOf-stopped es options _ _ _ here.0 here.1);
            }

    -- one more source, at which the run does not stop
    pub run_next : {new : Devices} {end : FileEnd} {found : ℕ} → FinishesSource es options many some source own_given mid new end found → (options.quiet && nat_lt 0 found) ≡ false → RunSoFar es options many (before ++ source ∷ []) all_given old new (some || nat_lt 0 found) (faulty || is_fault end)
    run_next {new} {found = found} f goes =
        let file = file_of source.name f.reading in
        let here = story_here [] f.reading f.is_reading new f.failures f.steps in
        let reached = up_to_here [] f.reading f.is_reading in
        let all = all_files [] f.reading f.is_reading in
        record {
          story = record {
            readings = here.readings;
            are_readings = here.are_readings;
            failures = here.failures;
            are_failures = rw reached at here.are_failures;
            counted = here.counted;
            left = here.left;
            are_left = rw reached at here.are_left;
            gave_back = here.gave_back;
            steps = here.steps;
          };
          output = s.output ++ f.rows;
          is_output = rw all (GroupedAs-append es options many (form options) first (file ∷ []) s.output f.rows s.is_output f.are_rows);
          wrote = takes_both _ f.wrote;
          messages = s.messages ++ f.messages;
          are_reported = rw all (Reported-append es options _ _ _ _ s.are_reported f.are_messages);
          reported = TakesAll-more old.messages mid.messages new.messages s.messages f.messages s.reported f.reported;
          goes_on = rw all (none_more (Stops es options) first file s.goes_on (not_both options.quiet (nat_lt 0 found) goes f.some));
          some_reported = rw all (any_decides (HasSelected es options) _ _ s.some_reported f.some);
          faulty_reported = rw all (any_decides (FaultMet es options) _ _ s.faulty_reported f.fault);
        }

    -- ---- the answers, for the sources as they are listed

    module _ {sources : List Source} (after : List Source) (cut : sources ≡ before ++ source ∷ after) (is_many : many ≡ shows_names (length sources)) (new : Devices) where
      many_here : many ≡ shows_names (length (before ++ source ∷ after))
      many_here = is_many ∙ ap (λ l. shows_names (length l)) cut

      pub run_stopped : {end : FileEnd} {found : ℕ} → FinishesSource es options many some source own_given mid new end found → (options.quiet && nat_lt 0 found) ≡ true → Finishes es options sources all_given old new selected
      run_stopped {found = found} f both =
          rw cut (finishes_here after f.reading f.is_reading many_here _ _ (both_hold _ _ both f.some) f.are_rows f.wrote f.are_messages f.reported f.failures f.steps)

      -- the search of the source was given up
      pub run_fault : {k : ℕ} (fault : RunFault) → k ≡ length before → SourceGives es options many some source own_given k mid new (Err fault) → RunGives es options sources all_given old new (Err fault)
      run_fault Write place (b, same) = (
        rw cut (let more = says_more after b.reading b.is_reading many_here in
            breaks_off after b.reading b.is_reading many_here _ _ {text = s.messages ++ more.0} b.are_rows (λ l. TakesFront-longer l b.wrote) more.1 (subst (λ m. TakesPast old.messages m s.messages (s.messages ++ more.0)) (sym same) (TakesPast-all _ s.reported)) b.failures b.steps),
        b.counted ∙ ap one_more s.wrote.none_failed,
        ap (λ (w : Writer). w.failures) same ∙ s.reported.none_failed,
      )
      run_fault MessageWrite place b = (
        rw cut (let more = says_front after b.reading b.is_reading many_here b.messages b.are_messages in
            breaks_off after b.reading b.is_reading many_here new b.rows b.are_rows (λ l. TakesFront-all l b.wrote) more.1 (TakesPast-more _ _ s.reported (TakesFront-longer _ b.reported)) b.failures b.steps),
        b.wrote.none_failed ∙ s.wrote.none_failed,
        b.counted ∙ ap one_more s.reported.none_failed,
      )
      run_fault (Memory at n) place (here, b, same) =
          rw (here ∙ place) (rw cut (stops after b.reading b.is_reading many_here new n b.rows b.in_file b.read b.are_rows b.wrote same b.none_failed b.gave_back b.steps))

  -- all sources were read
  pub run_all : {sources : List Source} (given : List (Option Text) → Type 0) {old new : Devices} {some faulty : Bool} → many ≡ shows_names (length sources) → RunSoFar es options many sources given old new some faulty → Finishes es options sources given old new (status_by some faulty)
  run_all {sources} given {some = some} {faulty = faulty} is_many s =
      let files = files_of sources s.story.readings in
      record {
        story = s.story;
        wrote = record {
          text = rows_after (form options) false s.output;
          due = rw (is_many ∙ ap shows_names (sym (length-files_of _ _ s.story.are_readings))) at (grouped_out es options many (form options) files s.output s.is_output);
          all = s.wrote;
        };
        reported = record { text = s.messages; due = Messages-reached es options _ _ _ (Reached-all es options _ s.goes_on) s.are_reported; all = s.reported };
        is_status = status some faulty s.some_reported s.faulty_reported;
      }
    where
      -- under `-q` the run would have stopped at a selected line
      none_quiet : IsTrue options.quiet → AnySelected es options (files_of sources s.story.readings) → ⊥
      none_quiet quiet any = s.goes_on (any.0, any.1, any.2, any.3, (quiet, any.4))

      status : (a b : Bool) → Decides a (AnySelected es options (files_of sources s.story.readings)) → Decides b (Any (FaultMet es options) (files_of sources s.story.readings)) → StatusOf es options (files_of sources s.story.readings) (status_by a b)
      status a true p q = StatusOf-error es options _ none_quiet (q.0 refl)
      status true false p q = StatusOf-selected es options _ (λ h. false≢true (q.1 h)) (p.0 refl)
      status false false p q = StatusOf-none es options _ (λ h. false≢true (q.1 h)) (λ h. false≢true (p.1 h))

  -- ---- sources by their places

  module _ (sources : List Source) (k : ℕ) (inside : k < length sources) {given : List (Option Text) → Type 0} (own_given all_given : List (Option Text) → Type 0) (join : (a b : List (Option Text)) → given a → own_given b → all_given (a ++ b))
      {old mid : Devices} (new : Devices) {some faulty : Bool} (s : RunSoFar es options many (take k sources) given old mid some faulty) where
    place : k ≡ length (take k sources)
    place = sym (length-take-le k sources (omega (arith, inside)))

    -- source k was searched, and the run continues
    pub run_further : {end : FileEnd} {found : ℕ} {here reported fault : Bool} → FinishesSource es options many some (source_at sources k) own_given mid new end found → here ≡ nat_lt 0 found → (options.quiet && here) ≡ false → reported ≡ nat_lt 0 found → fault ≡ is_fault end
        → RunSoFar es options many (take (k + 1) sources) all_given old new (some || reported) (faulty || fault)
    run_further f here_is goes reported_is fault_is =
        let one : k + 1 ≡ suc k = omega arith in
        let longer = ap (λ n. take n sources) one ∙ take-suc sources k (record { name = []; opens = None; bytes = None }) inside in
        rw (longer, reported_is, fault_is) (run_next _ own_given all_given join s f (rw here_is at goes))

    module _ {count : ℕ} (is_many : many ≡ shows_names count) (counted : count ≡ length sources) where
      -- under `-q` a line of it is selected
      pub run_ends_at : {end : FileEnd} {found : ℕ} {here : Bool} → FinishesSource es options many some (source_at sources k) own_given mid new end found → here ≡ nat_lt 0 found → (options.quiet && here) ≡ true → RunGives es options sources all_given old new (Ok selected)
      run_ends_at f here_is both =
          run_stopped _ own_given all_given join s (drop (suc k) sources) (cut_at _ k _ inside) (is_many ∙ ap shows_names counted) _ f (rw here_is at both)

      -- its search was given up
      pub run_given_up : (fault : RunFault) {ds : List Expression} {listed : List Source} → ds ≡ es → listed ≡ sources → SourceGives ds options many some (source_at listed k) own_given k mid new (Err fault) → RunGives es options sources all_given old new (Err fault)
      run_given_up fault {listed = listed} same_expressions same_sources h =
          let searched = subst (λ l. SourceGives es options many some (source_at l k) own_given k mid new (Err fault)) same_sources (subst (λ xs. SourceGives xs options many some (source_at listed k) own_given k mid new (Err fault)) same_expressions h) in
          run_fault _ own_given all_given join s (drop (suc k) sources) (cut_at _ k _ inside) (is_many ∙ ap shows_names counted) _ _ place searched

  -- all sources were searched
  pub run_ends : (sources : List Source) (given : List (Option Text) → Type 0) (k : ℕ) (old new : Devices) {some faulty : Bool} {count : ℕ} {status : Status} → many ≡ shows_names count → count ≡ length sources → length sources ≤ k → RunSoFar es options many (take k sources) given old new some faulty → status ≡ status_by some faulty
      → RunGives es options sources given old new (Ok status)
  run_ends sources given k old new is_many counted over s is =
      rw is (run_all given (is_many ∙ ap shows_names counted) (rw (take_all k sources over) at s))
