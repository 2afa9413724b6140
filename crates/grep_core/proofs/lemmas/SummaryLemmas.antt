-- One source is done: its summary and its message, after the rows of its lines.
use Rattle.{grep_core.{proofs.{Prelude.{◌≡◌, ℕ, Bool, true, false, Decides, IsTrue, List, [], ◌∷◌, ◌++◌, MatchBool, nat_le, length, refl, sym, ap, ◌∙◌, inl, inr, Option, Result, Ok, Err, false≢true, cases_Bool, cond-true, cond-false, Text, Expression, Options, FileEnd, Missing, Whole, Broken, Left, FileFound, RunFault, MessageWrite, SearchFault, one_more, EachGives, File, Ending, form, message, FaultMet, Message, Reported, Source, Reading, not_opened, fails_after, ends_after, most_lines, up_to_limit, file_of, Devices, Writer, TakesAll, TakesFront, rows_after, SearchGives, is_fault, ending_of, summary_as, reported_of, SearchesSource, FinishesSource, BreaksSource, BreaksMessage, EndsSource, SourceGives}, lemmas.{ChooseLaws.EachGives-one, GroupLaws.after_summary, WriterLaws.{TakesAll-more, TakesFront-more}}}, specs.declared.status.RunFault.TheVariants.{Write, Memory}}, re_search.specs.Meters.Steps}
use Rattle.grep_core.specs.declared.status.SearchFault.TheVariants as search_fault

limit_named : (name : Text) (ls : List Text) (ending : Ending) → (up_to_limit name ls ending).name ≡ name
limit_named name ls _ =
    elim (cases_Bool (nat_le (length ls) most_lines)) [ inl within ↦ ap (λ (f : File). f.name) (cond-true _ _ _ within) | inr over ↦ ap (λ (f : File). f.name) (cond-false _ _ _ over) ]

-- the file for which a source stands has its name
file_named : (name : Text) (r : Reading) → (file_of name r).name ≡ name
file_named _ not_opened = refl
file_named _ (fails_after bytes) = limit_named _ _ _
file_named _ (ends_after bytes) = limit_named _ _ _

module _ (es : List Expression) (options : Options) where
  -- the message about one file
  one_reported : (end : FileEnd) (file : File) {name : Text} → Decides (is_fault end) (FaultMet es options file) → (IsTrue (is_fault end) → file.ending ≡ ending_of end) → file.name ≡ name → Message es options file (message (ending_of end) name)
  one_reported Missing _ d e n = inl (d.0 refl, λ i. message (sym (e refl) i) (sym n i))
  one_reported Whole _ d e n = inr ((λ m. false≢true (d.1 m)), refl)
  one_reported Broken _ d e n = inl (d.0 refl, λ i. message (sym (e refl) i) (sym n i))
  one_reported Left _ d e n = inr ((λ m. false≢true (d.1 m)), refl)

  -- and nothing under `-s`
  file_reported : (end : FileEnd) (file : File) (name : Text) → Message es options file (message (ending_of end) name) → Reported es options (file ∷ []) (reported_of options.no_messages end name)
  file_reported end file name m = by_flag options.no_messages
    where
      by_flag : (silent : Bool) → MatchBool silent (reported_of silent end name ≡ []) (EachGives (Message es options) (file ∷ []) (reported_of silent end name))
      by_flag true = refl
      by_flag false = EachGives-one (Message es options) _ _ m

  module _ {many shown : Bool} {source : Source} (given : List (Option Text) → Type 0) {name : Text} (named : name ≡ source.name) {end : FileEnd} {found : ℕ} where
    -- the summary could not be written
    pub source_unwritten : {before after : ℕ} {old mid new : Writer} {began ended : Steps} → SearchesSource es options many shown source given before after old mid began ended end found → TakesFront mid new (summary_as (form options) many name end found) → new.failures ≡ one_more mid.failures
        → BreaksSource es options many shown source given before after old new began ended
    source_unwritten s front failed =
        let summary = summary_as (form options) many source.name end found in
        let front_here = rw named at front in
        record {
          reading = s.reading;
          is_reading = s.is_reading;
          failures = s.failures;
          rows = s.rows ++ summary;
          are_rows = s.are_rows;
          wrote = rw (after_summary _ _ _ _ _ _ _) (TakesFront-more s.wrote front_here);
          counted = failed ∙ ap one_more s.wrote.none_failed;
          steps = s.steps;
        }

    module _ (old new : Devices) {mid : Writer} (s : SearchesSource es options many shown source given old.source_failures new.source_failures old.out mid old.steps new.steps end found) (took : TakesAll mid new.out (summary_as (form options) many name end found)) where
      abbrev summary : List Text
      summary = summary_as (form options) many source.name end found

      all_out : TakesAll old.out new.out (rows_after (form options) shown (s.rows ++ summary))
      all_out =
          rw (after_summary _ _ _ _ _ _ _)
          (TakesAll-more old.out mid new.out (rows_after (form options) shown s.rows) summary s.wrote (rw named at took))

      reported_too : Reported es options (file_of source.name s.reading ∷ []) (reported_of options.no_messages end source.name)
      reported_too = file_reported _ _ _ (one_reported _ _ s.fault s.ends (file_named _ _))

      -- all was written
      pub source_done : TakesAll old.messages new.messages (reported_of options.no_messages end name) → FinishesSource es options many shown source given old new end found
      source_done reported = record {
        reading = s.reading;
        is_reading = s.is_reading;
        failures = s.failures;
        some = s.some;
        fault = s.fault;
        rows = s.rows ++ summary;
        are_rows = s.are_rows;
        wrote = all_out;
        messages = reported_of options.no_messages end source.name;
        are_messages = reported_too;
        reported = rw named at reported;
        steps = s.steps;
      }

      -- the message could not be written
      pub source_unreported : TakesFront old.messages new.messages (reported_of options.no_messages end name) → new.messages.failures ≡ one_more old.messages.failures → BreaksMessage es options many shown source given old new
      source_unreported reported failed = record {
        reading = s.reading;
        is_reading = s.is_reading;
        failures = s.failures;
        rows = s.rows ++ summary;
        are_rows = s.are_rows;
        wrote = all_out;
        messages = reported_of options.no_messages end source.name;
        are_messages = reported_too;
        reported = rw named at reported;
        counted = failed;
        steps = s.steps;
      }

module _ (es : List Expression) (options : Options) (many shown : Bool) (source : Source) (given : List (Option Text) → Type 0) {name : Text} (named : name ≡ source.name) (k : ℕ) (old new : Devices) (mid : Writer) where
  -- the source is done, by what its search gave and what was written after it
  source_ended : (found : Result FileFound SearchFault) (result : Result FileFound RunFault) → SearchGives es options many shown source given old.source_failures new.source_failures old.out mid old.steps new.steps found
      → EndsSource options many name k mid new.out old.messages new.messages found result → SourceGives es options many shown source given k old new result
  source_ended (Ok found) (Ok same) s e = rw e.0 (source_done es options given named _ _ s e.1 e.2)
  source_ended (Ok found) (Err Write) s e = (source_unwritten es options given named s e.0 e.1, e.2)
  source_ended (Ok found) (Err MessageWrite) s e = source_unreported es options given named _ _ s e.0 e.1 e.2
  source_ended (Ok found) (Err (Memory at n)) s e = absurd e
  source_ended (Err search_fault.Write) result s e =
      rw e.0 (rw e.1 s, e.2)
  source_ended (Err (search_fault.Memory n)) result s e =
      rw e.0 (refl, rw e.1 s, e.2)

  -- the same for the options of all sources, of which its own are a copy
  pub source_ended_as : {asked : Options} {all_many : Bool} → options ≡ asked → many ≡ all_many → (found : Result FileFound SearchFault) (result : Result FileFound RunFault)
      → SearchGives es options many shown source given old.source_failures new.source_failures old.out mid old.steps new.steps found → EndsSource options many name k mid new.out old.messages new.messages found result → SourceGives es asked all_many shown source given k old new result
  source_ended_as same_options same_many found result s e =
      rw same_options at (rw same_many at (source_ended _ _ s e))
