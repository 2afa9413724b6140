-- How a run of a script continues and ends.
use Rattle.{grep_cmd.{proofs.{Prelude.{◌≡◌, ◌⊎◌, ℕ, ◌+◌, ◌<◌, ◌≤◌, true, false, List, [], ◌∷◌, ◌++◌, length, Option, Result, Ok, Err, arith, inl, inr, refl, sym, ap, ◌∙◌, subst, append_assoc, append-nil, length-append, list_any, Text, HasNoNewline, lines_of, File, Ending, whole, broken, written, file_of, most_lines, GoesOut, StopsWithin, Numbered, HasHanded, StandsAs, AreHanded, IsOneLineAndFew, Stage, Open, Ended, Failed, ScriptState, ScriptFault, Read, Write, Memory, ScriptEnd, Clean, is_truncated, IsBegun, truncated, is_refusal, end_for, AnswersScript, ReadsScript, BeginsScript, GaveLines, AddsAtMost, Replies, ScriptGives, IsUpToReport, HasRead, ReadsNext, FlushesFor, FlushesAfter, DoesStep, WantsLines, AnswersLine, AnsweredSoFar}, lemmas.ScriptSteps.{done_push, done_steps, done_alone, replies_push, end_kept, end_refused, all_but_last, all_before}}, specs.declared.script.ScriptEnd.TheVariants.Refused}, re_syntax.proofs.lemmas.LinesLaws.lines_of-terminated, re_meter.proofs.lemmas.Adding.{adds_none, adds_both}, grep_core.proofs.lemmas.{HandedLemmas.begins_with, NumberedLemmas.has_handed_none, RowLemmas.{goes_nowhere, goes_on}, WriterLaws.written-append}, std.proofs.KnownBytes.Appends-trans}
use Rattle.grep_core.specs.Meters.{Steps as StepCounts}

abbrev script_of : List Text → Ending → File
script_of lines ending = record { name = []; lines = lines; ending = ending }

-- a command line and the lines that it takes, after others
line_then : (handed : List Text) (line : Text) (taken : List Text) → (handed ++ line ∷ []) ++ taken ≡ handed ++ line ∷ taken
line_then handed line taken = append_assoc handed (line ∷ []) taken

module _ {W : Type 0} {contents : W → Option Text} {failures : W → ℕ} where
  -- a write failed within the second part of some bytes
  stops_as : {a b c : W} {bytes xs ys : Text} → bytes ≡ xs ++ ys → GoesOut contents failures a b xs → StopsWithin contents failures b c ys → StopsWithin contents failures a c bytes
  stops_as {a} {b} {c} {xs = xs} is first second = record {
    front = xs ++ second.front;
    rest = second.rest;
    cut = cc (second.cut, append_assoc xs second.front second.rest);
    written = Appends-trans (contents a) (contents b) (contents c) xs second.front first.written second.written;
    counted = cc (second.counted, first.none_failed);
  }

  -- nothing more was written
  goes_same : {a b c : W} {bytes : Text} → GoesOut contents failures a b bytes → GoesOut contents failures b c [] → GoesOut contents failures a c bytes
  goes_same {a} {b} {c} {bytes} first second = rw (append-nil bytes) at (goes_on contents failures a b c bytes [] first second)

  goes_both : {a b c d : W} (xs ys : List Text) → GoesOut contents failures a b (written [] xs) → GoesOut contents failures b c [] → GoesOut contents failures c d (written [] ys) → GoesOut contents failures a d (written [] (xs ++ ys))
  goes_both {a} {c = c} {d = d} xs ys first flushed second =
      rw (written-append [] xs ys) (goes_on contents failures a c d (written [] xs) (written [] ys) (goes_same first flushed) second)

module _ {R : Type 0} (remaining : R → Option Text) (failures : R → ℕ) (reader : R) where
  -- the lines of a reader, with their ending, are a script
  reads : (now : Numbered R) (lines : List Text) (ending : Ending) → StandsAs remaining failures reader now lines ending
      → ReadsScript (remaining reader) (remaining now.lines.reader) (failures reader) (failures now.lines.reader) (script_of lines ending)
  reads now lines ending stands =
      let s = stands [] in
      record { reading = s.reading; is_reading = s.is_reading; is_left = s.is_left; is_file = sym s.file; counted = s.counted }

  -- the lines that it has handed out are the beginning of one
  begins : (now : Numbered R) (handed : List Text) → HasHanded remaining failures reader now handed
      → (file : File) × BeginsScript (remaining reader) (failures reader) (failures now.lines.reader) file × ((more : List Text) × (file.lines ≡ handed ++ more))
  begins now handed h =
      let b = begins_with remaining failures [] reader now.lines handed h.hands h.few in (
        file_of [] b.reading,
        record { reading = b.reading; is_reading = b.is_reading; is_file = refl; none_failed = h.hands.none_failed },
        (b.more, b.has_lines),
      )

module _ {R W : Type 0} {remaining : R → Option Text} {failures : R → ℕ} {contents : W → Option Text} {write_failures : W → ℕ} {reader : R} {start : ScriptState} {begun : StepCounts} {old : W} where
  -- no line was handed out
  pub so_far_none : {now : Numbered R} → HasHanded remaining failures reader now [] → AnsweredSoFar remaining failures contents write_failures reader start begun old now start begun old Clean
  so_far_none h = record {
    handed = [];
    has_handed = h;
    steps = [];
    are_done = refl;
    replies = [];
    most = 0;
    are_replies = (refl, refl, refl);
    few = adds_none 0 0 begun;
    goes = goes_nowhere contents write_failures old;
    ended = refl;
  }

  module _ {now : Numbered R} {inputs : ScriptState} {spent : StepCounts} {mid : W} {ending : ScriptEnd} (s : AnsweredSoFar remaining failures contents write_failures reader start begun old now inputs spent mid ending) where
    -- what a run gives that read so far, counted so many steps, and wrote so much
    abbrev Gives : Numbered R → ScriptState → StepCounts → W → Result ScriptEnd ScriptFault → Type 0
    Gives next left last new result =
        ScriptGives contents write_failures (HasRead remaining failures reader next) (remaining reader) (remaining next.lines.reader) (failures reader) (failures next.lines.reader) start left begun last old new result

    abbrev Does : Text → Numbered R → ScriptState → StepCounts → List Text → Type 0
    Does line next after last reply = DoesStep remaining failures reader (s.handed ++ line ∷ []) line next spent last inputs after reply

    abbrev Wants : Text → Numbered R → ScriptState → StepCounts → Type 0
    Wants line next after last = WantsLines remaining failures reader (s.handed ++ line ∷ []) line next spent last inputs after whole

    -- the steps so far, of a script that continues; then nothing is searched
    answers_so_far : {last : StepCounts} (file : File) (rest : List Text) → file.lines ≡ s.handed ++ rest → last ≡ spent → AnswersScript start file begun last s.replies rest inputs
    answers_so_far file rest is idle = record {
      steps = s.steps;
      are_steps = rw is (done_alone file.ending _ _ _ s.are_done);
      most = s.most;
      are_replies = s.are_replies;
      few = rw idle s.few;
    }

    -- ---- no further line was handed out

    module _ (next : Numbered R) (new : W) where
      -- they are all
      pub ends_here : StandsAs remaining failures reader next s.handed whole → GoesOut contents write_failures mid new []
          → Gives next inputs spent new (Ok ending)
      unfolding answers_so_far
      ends_here stands flushed = record {
        file = script_of s.handed whole;
        reads = reads remaining failures reader next s.handed whole stands;
        is_whole = refl;
        replies = s.replies;
        answers = answers_so_far (script_of s.handed whole) [] (sym (append-nil s.handed)) refl;
        goes = goes_same s.goes flushed;
        ended = s.ended;
      }

      -- a read failed
      pub cut_here : StandsAs remaining failures reader next s.handed broken → GoesOut contents write_failures mid new []
          → Gives next inputs spent new (Err Read)
      unfolding answers_so_far
      cut_here stands flushed = record {
        file = script_of s.handed broken;
        reads = reads remaining failures reader next s.handed broken stands;
        is_broken = refl;
        replies = s.replies;
        rest = [];
        answers = answers_so_far (script_of s.handed broken) [] (sym (append-nil s.handed)) refl;
        cut_short = inl refl;
        goes = goes_same s.goes flushed;
      }

      -- an allocation failed, with the next command or without it
      pub runs_out : (begin : List Text) → IsBegun begin → IsOneLineAndFew next.lines.ahead → HasHanded remaining failures reader next (s.handed ++ begin) → GoesOut contents write_failures mid new []
          → Gives next inputs spent new (Err Memory)
      unfolding answers_so_far
      runs_out begin is_begun few handed flushed =
          let b = begins remaining failures reader next (s.handed ++ begin) handed in
          let is = b.2.1 ∙ append_assoc s.handed begin b.2.0 in
          record {
            file = b.0;
            reads = b.1;
            replies = s.replies;
            done = s.handed;
            first = begin;
            others = b.2.0;
            is_file = is;
            answers = answers_so_far b.0 (begin ++ b.2.0) is refl;
            is_begun = is_begun;
            were_read = (handed, few);
            goes = goes_same s.goes flushed;
          }

      -- what was buffered could not be sent
      pub stops_sending : (others : List Text) → HasHanded remaining failures reader next (s.handed ++ others) → StopsWithin contents write_failures mid new []
          → Gives next inputs spent new (Err Write)
      unfolding answers_so_far stops_as
      stops_sending others handed stops =
          let b = begins remaining failures reader next (s.handed ++ others) handed in
          record {
            file = b.0;
            reads = inl b.1;
            replies = s.replies;
            rest = others ++ b.2.0;
            done = inputs;
            answers = answers_so_far b.0 (others ++ b.2.0) (b.2.1 ∙ append_assoc s.handed others b.2.0) refl;
            leaves = inl refl;
            stops = stops_as (sym (append-nil (written [] s.replies))) s.goes stops;
            broken = all_but_last s.steps start inputs s.replies s.most stops.front s.are_replies;
          }

    -- no further line was read
    pub next_fails : (next : Numbered R) (new : W) (f : ScriptFault) → IsOneLineAndFew next.lines.ahead → ReadsNext remaining failures reader s.handed next (Err f) → FlushesFor contents write_failures mid new f
        → Gives next inputs spent new (Err f)
    next_fails next new Read few stands sent = cut_here next new stands sent
    next_fails next new Memory few handed sent = runs_out next new [] tt few (rw (append-nil s.handed) handed) sent
    next_fails next new Write few handed stops = stops_sending next new [] (rw (append-nil s.handed) handed) stops

    -- ---- a command line was handed out

    -- more lines were handed out
    pub grows : {line : Text} {next : Numbered R} {after : ScriptState} {last : StepCounts} {reply : List Text} → Does line next after last reply → (now.number < next.number) × (next.number ≤ most_lines)
    grows {line} d =
        let h = d.has_handed in
        let longer = ap length (line_then s.handed line d.taken) ∙ length-append s.handed (line ∷ d.taken) in
        (omega (arith, longer, h.counted, s.has_handed.counted), omega (arith, h.counted, h.few))

    -- one more command was answered, with this cost
    done_too : {line : Text} {next : Numbered R} {after : ScriptState} {last : StepCounts} {reply : List Text} → (d : Does line next after last reply) → Replies (s.steps ++ d.step ∷ []) start (s.replies ++ reply) after (s.most + d.most) × AddsAtMost (s.most + d.most) begun last
    done_too {after = after} {reply = reply} d = (replies_push s.steps d.step start inputs after s.replies reply s.most d.most s.are_replies d.replies_to d.is_most, adds_both s.most d.most s.most d.most _ _ _ s.few d.few)

    -- fewer lines follow than it counts
    truncates : {line : Text} {next : Numbered R} {after : ScriptState} {last : StepCounts} (file : File) → (w : Wants line next after last) → file.lines ≡ s.handed ++ line ∷ w.taken → file.ending ≡ whole → AnswersScript start file begun last (s.replies ++ truncated ∷ []) [] inputs
    truncates {line} file w is ends =
        let none : s.most ≡ s.most + 0 = omega arith in
        record {
          steps = s.steps ++ is_truncated ∷ [];
          are_steps = rw is (done_steps file.ending s.handed (line ∷ w.taken) [] s.steps (is_truncated ∷ []) s.are_done (inr (ends, w.wants, refl, refl, refl)));
          most = s.most + 0;
          are_replies = replies_push s.steps is_truncated start inputs inputs s.replies (truncated ∷ []) s.most 0 s.are_replies (refl, refl) refl;
          few = subst (AddsAtMost (s.most + 0) begun) (sym w.idle) (subst (λ n. AddsAtMost n begun spent) none s.few);
        }

    -- where the command changed nothing
    as_left : {file : File} {last : StepCounts} {replies rest : List Text} {after : ScriptState} → after ≡ inputs → AnswersScript start file begun last replies rest inputs → AnswersScript start file begun last replies rest after
    as_left {file} {last} {replies} {rest} same answers = subst (AnswersScript start file begun last replies rest) (sym same) answers

    reads_all : (line : Text) (next : Numbered R) (taken : List Text) (kind : Ending) → StandsAs remaining failures reader next ((s.handed ++ line ∷ []) ++ taken) kind
        → ReadsScript (remaining reader) (remaining next.lines.reader) (failures reader) (failures next.lines.reader) (script_of (s.handed ++ line ∷ taken) kind)
    reads_all line next taken kind stands = reads remaining failures reader next (s.handed ++ line ∷ taken) kind (subst (λ lines. StandsAs remaining failures reader next lines kind) (line_then s.handed line taken) stands)

    module _ {line : Text} {sent : W} (flushed : GoesOut contents write_failures mid sent []) {next : Numbered R} {after : ScriptState} {last : StepCounts} {new : W} where
      -- it was answered
      answered : (reply : List Text) → Does line next after last reply → GoesOut contents write_failures sent new (written [] reply) → (end : ScriptEnd) → end ≡ end_for (s.replies ++ reply)
          → AnsweredSoFar remaining failures contents write_failures reader start begun old next after last new end
      answered reply d goes end is = record {
        handed = s.handed ++ line ∷ d.taken;
        has_handed = subst (HasHanded remaining failures reader next) (line_then s.handed line d.taken) d.has_handed;
        steps = s.steps ++ d.step ∷ [];
        are_done = done_push s.handed s.steps line d.taken d.step s.are_done d.is_step;
        replies = s.replies ++ reply;
        most = s.most + d.most;
        are_replies = (done_too d).0;
        few = (done_too d).1;
        goes = goes_both s.replies reply s.goes flushed goes;
        ended = is;
      }

      pub so_far_accepted : {reply : List Text} → Does line next after last reply → GoesOut contents write_failures sent new (written [] reply) → list_any is_refusal reply ≡ false
          → AnsweredSoFar remaining failures contents write_failures reader start begun old next after last new ending
      so_far_accepted {reply} d goes none = answered reply d goes ending (s.ended ∙ sym (end_kept s.replies reply none))

      pub so_far_refused : {reply : List Text} → Does line next after last reply → GoesOut contents write_failures sent new (written [] reply) → list_any is_refusal reply ≡ true
          → AnsweredSoFar remaining failures contents write_failures reader start begun old next after last new Refused
      so_far_refused {reply} d goes some = answered reply d goes Refused (sym (end_refused s.replies reply some))

      pub ends_truncated : Wants line next after last → GoesOut contents write_failures sent new (written [] (truncated ∷ []))
          → Gives next after last new (Ok Refused)
      unfolding truncates
      ends_truncated w goes = record {
        file = script_of (s.handed ++ line ∷ w.taken) whole;
        reads = reads_all line next w.taken whole w.stands;
        is_whole = refl;
        replies = s.replies ++ truncated ∷ [];
        answers = as_left w.same (truncates (script_of (s.handed ++ line ∷ w.taken) whole) w refl refl);
        goes = goes_both s.replies (truncated ∷ []) s.goes flushed goes;
        ended = sym (end_refused s.replies (truncated ∷ []) refl);
      }

      -- a read failed before all lines were read
      cut_within : WantsLines remaining failures reader (s.handed ++ line ∷ []) line next spent last inputs after broken → GoesOut contents write_failures sent new []
          → Gives next after last new (Err Read)
      unfolding answers_so_far
      cut_within l goes = record {
        file = script_of (s.handed ++ line ∷ l.taken) broken;
        reads = reads_all line next l.taken broken l.stands;
        is_broken = refl;
        replies = s.replies;
        rest = line ∷ l.taken;
        answers = as_left l.same (answers_so_far (script_of (s.handed ++ line ∷ l.taken) broken) (line ∷ l.taken) refl l.idle);
        cut_short = inr l.wants;
        goes = goes_same s.goes (goes_same flushed goes);
      }

      -- a write failed within the reply
      stops_replying : (then : ScriptState) (reply : List Text) → Does line next then last reply → IsUpToReport after then → StopsWithin contents write_failures sent new (written [] reply)
          → Gives next after last new (Err Write)
      unfolding stops_as
      stops_replying then reply d leaves stops =
          let handed = subst (HasHanded remaining failures reader next) (line_then s.handed line d.taken) d.has_handed in
          let b = begins remaining failures reader next (s.handed ++ line ∷ d.taken) handed in
          record {
            file = b.0;
            reads = inl b.1;
            replies = s.replies ++ reply;
            rest = b.2.0;
            done = then;
            answers = record {
              steps = s.steps ++ d.step ∷ [];
              are_steps = rw b.2.1 (done_alone b.0.ending (s.handed ++ line ∷ d.taken) b.2.0 (s.steps ++ d.step ∷ []) (done_push s.handed s.steps line d.taken d.step s.are_done d.is_step));
              most = s.most + d.most;
              are_replies = (done_too d).0;
              few = (done_too d).1;
            };
            leaves = leaves;
            stops = stops_as (written-append [] s.replies reply) (goes_same s.goes flushed) stops;
            broken = all_before s.steps d.step start inputs s.replies s.most stops.front s.are_replies;
          }

      stops_truncated : Wants line next after last → StopsWithin contents write_failures sent new (written [] (truncated ∷ []))
          → Gives next after last new (Err Write)
      unfolding truncates stops_as
      stops_truncated w stops = record {
        file = script_of (s.handed ++ line ∷ w.taken) whole;
        reads = inr (reads_all line next w.taken whole w.stands);
        replies = s.replies ++ truncated ∷ [];
        rest = [];
        done = inputs;
        answers = truncates (script_of (s.handed ++ line ∷ w.taken) whole) w refl refl;
        leaves = inl w.same;
        stops = stops_as (written-append [] s.replies (truncated ∷ [])) (goes_same s.goes flushed) stops;
        broken = all_before s.steps is_truncated start inputs s.replies s.most stops.front s.are_replies;
      }

    module _ (line : Text) {sent : W} (flushed : GoesOut contents write_failures mid sent []) (next : Numbered R) (after : ScriptState) (last : StepCounts) (new : W) where
      -- where the command changed nothing
      kept : after ≡ inputs → last ≡ spent → (result : Result ScriptEnd ScriptFault) → Gives next inputs spent new result → Gives next after last new result
      kept same idle result g = subst (λ (n : StepCounts). Gives next after n new result) (sym idle) (subst (λ (i : ScriptState). Gives next i spent new result) (sym same) g)

      -- the command wasn't answered
      pub answer_fails : (f : ScriptFault) → IsOneLineAndFew next.lines.ahead → AnswersLine remaining failures reader (s.handed ++ line ∷ []) line next spent last inputs after contents write_failures sent new (Err f)
          → Gives next after last new (Err f)
      answer_fails Read few h = cut_within flushed h.0 h.1
      answer_fails Memory few h =
          kept h.0.same h.0.idle (Err Memory) (runs_out next new (line ∷ h.0.taken) h.0.asks few (subst (HasHanded remaining failures reader next) (line_then s.handed line h.0.taken) h.0.has_handed) (goes_same flushed h.1))
      answer_fails Write few (inl h) =
          kept h.0.same h.0.idle (Err Write) (stops_sending next new (line ∷ h.0.taken) (subst (HasHanded remaining failures reader next) (line_then s.handed line h.0.taken) h.0.has_handed) (stops_as refl flushed h.1))
      answer_fails Write few (inr (inl h)) = stops_replying flushed h.0 h.1 h.2 h.3 h.4
      answer_fails Write few (inr (inr h)) = stops_truncated flushed h.0 h.1

-- ---- the end

module _ {W : Type 0} (contents : W → Option Text) (failures : W → ℕ) (has_read : List Text → Type 0) (known left : Option Text) (failed_before failed : ℕ) (start after : ScriptState) (begun spent : StepCounts) (old mid new : W) where
  abbrev Given : W → Result ScriptEnd ScriptFault → Type 0
  Given = ScriptGives contents failures has_read known left failed_before failed start after begun spent old

  -- what was buffered couldn't be sent
  stopped : {file : File} {replies rest : List Text} → BeginsScript known failed_before failed file ⊎ ReadsScript known left failed_before failed file → AnswersScript start file begun spent replies rest after
      → GoesOut contents failures old mid (written [] replies) → StopsWithin contents failures mid new [] → Given new (Err Write)
  unfolding stops_as
  stopped {file} {replies} {rest} reads answers goes stops = record {
    file = file;
    reads = reads;
    replies = replies;
    rest = rest;
    done = after;
    answers = answers;
    leaves = inl refl;
    stops = stops_as (sym (append-nil (written [] replies))) goes stops;
    broken = all_but_last answers.steps start after replies answers.most stops.front answers.are_replies;
  }

  -- what was buffered was sent after a run, or that failed
  pub sends_after : (ended result : Result ScriptEnd ScriptFault) → Given mid ended → FlushesAfter contents failures mid new ended result → Given new result
  sends_after (Ok end) result e (inl (sent, is)) =
      subst (Given new) (sym is) (record { file = e.file; reads = e.reads; is_whole = e.is_whole; replies = e.replies; answers = e.answers; goes = goes_same e.goes sent; ended = e.ended })
  sends_after (Ok end) result e (inr (stops, is)) = subst (Given new) (sym is) (stopped (inr e.reads) e.answers e.goes stops)
  sends_after (Err Read) result e (inl (sent, is)) =
      subst (Given new) (sym is)
      (record { file = e.file; reads = e.reads; is_broken = e.is_broken; replies = e.replies; rest = e.rest; answers = e.answers; cut_short = e.cut_short; goes = goes_same e.goes sent })
  sends_after (Err Read) result e (inr (stops, is)) = subst (Given new) (sym is) (stopped (inr e.reads) e.answers e.goes stops)
  sends_after (Err Memory) result e (inl (sent, is)) =
      subst (Given new) (sym is)
      (record { file = e.file; reads = e.reads; replies = e.replies; done = e.done; first = e.first; others = e.others; is_file = e.is_file; answers = e.answers; is_begun = e.is_begun; were_read = e.were_read; goes = goes_same e.goes sent })
  sends_after (Err Memory) result e (inr (stops, is)) = subst (Given new) (sym is) (stopped (inl e.reads) e.answers e.goes stops)
  sends_after (Err Write) result e (same, is) = subst (Given new) (sym is) (subst (λ w. Given w (Err Write)) (sym same) e)

-- ---- what the reader gave

none_in_nothing : HasNoNewline []
none_in_nothing i d below = absurd (omega arith)

-- the lines that were handed out are those of the bytes that the reader gave
lines_handed : (stage : Stage) (given : Text) (handed : List Text) → AreHanded stage given handed → lines_of given ≡ handed
lines_handed Open given handed h = ap lines_of h.0 ∙ lines_of-terminated handed h.1
lines_handed Ended given handed h = h
lines_handed Failed given handed h = absurd h

module _ {R W : Type 0} (remaining : R → Option Text) (failures : R → ℕ) (contents : W → Option Text) (write_failures : W → ℕ) (reader : R) (start after : ScriptState) where
  gave : (now : Numbered R) (handed : List Text) → HasRead remaining failures reader now handed → GaveLines (remaining reader) (remaining now.lines.reader) handed
  gave now handed (h, few) = record { given = h.hands.given; are_lines = lines_handed now.lines.stage h.hands.given handed h.hands.are_handed; ahead = now.lines.ahead; gave = h.hands.gave; few = few }

  -- a run that handed out some lines is one whose reader gave them
  pub gives_by_reader : (now : Numbered R) (begun spent : StepCounts) (old new : W) (result : Result ScriptEnd ScriptFault)
      → ScriptGives contents write_failures (HasRead remaining failures reader now) (remaining reader) (remaining now.lines.reader) (failures reader) (failures now.lines.reader) start after begun spent old new result
      → ScriptGives contents write_failures (GaveLines (remaining reader) (remaining now.lines.reader)) (remaining reader) (remaining now.lines.reader) (failures reader) (failures now.lines.reader) start after begun spent old new result
  gives_by_reader now begun spent old new (Ok end) e =
      record { file = e.file; reads = e.reads; is_whole = e.is_whole; replies = e.replies; answers = e.answers; goes = e.goes; ended = e.ended }
  gives_by_reader now begun spent old new (Err Read) e =
      record { file = e.file; reads = e.reads; is_broken = e.is_broken; replies = e.replies; rest = e.rest; answers = e.answers; cut_short = e.cut_short; goes = e.goes }
  gives_by_reader now begun spent old new (Err Memory) e =
      record { file = e.file; reads = e.reads; replies = e.replies; done = e.done; first = e.first; others = e.others; is_file = e.is_file; answers = e.answers; is_begun = e.is_begun; were_read = gave now (e.done ++ e.first) e.were_read; goes = e.goes }
  gives_by_reader now begun spent old new (Err Write) e =
      record { file = e.file; reads = e.reads; replies = e.replies; rest = e.rest; done = e.done; answers = e.answers; leaves = e.leaves; stops = e.stops; broken = e.broken }

-- no memory for a reader of lines
pub runs_out_at_once : {R W : Type 0} (remaining : R → Option Text) (failures : R → ℕ) (contents : W → Option Text) (write_failures : W → ℕ) (reader : R) (start : ScriptState) (steps : StepCounts) (out : W)
    → ScriptGives contents write_failures (GaveLines (remaining reader) (remaining reader)) (remaining reader) (remaining reader) (failures reader) (failures reader) start start steps steps out out (Err Memory)
unfolding so_far_none
runs_out_at_once {R} remaining failures contents write_failures reader start steps out =
    let now : Numbered R = record { lines = record { reader = reader; ahead = []; line = []; stage = Open }; number = 0 } in
    let none = has_handed_none remaining failures now refl refl refl in
    let s : AnsweredSoFar remaining failures contents write_failures reader start steps out now start steps out Clean = so_far_none none in
    gives_by_reader remaining failures contents write_failures reader start start now steps steps out out (Err Memory)
    (runs_out s now out [] tt none_in_nothing none (goes_nowhere contents write_failures out))
