-- A text of commands is read as a file of its lines, whatever the reader of a text gives at a time.
use Rattle.{gaxtrel.{proofs.Prelude.{◌≡◌, ◌∙◌, ℕ, ◌+◌, ◌≤◌, Bool, true, false, List, [], ◌∷◌, ◌++◌, Option, Some, Result, Ok, Err, IfOk, IfErr, ◌⊎◌, inl, inr, if◌then◌else◌, nat_eq, length, sym, ap, refl, subst, arith, append_assoc, append-nil, length-append, Text, ended_lines_of, lines_of, newline, put_before}, specs.Live.{AnswersText, LiveKept, commands_of, end_number}}, std.specs.Io.KnownBytes.Appends, re_syntax.proofs.lemmas.EndedLinesLaws.AreEndedLines-ended_lines_of, grep_core.specs.{Files.{File, broken, whole}, Output.written, Reading.{IsReadingOf, Reading, ends_after, failures_of, fails_after, file_of, most_lines, not_opened, open_source}, Run.count_more}, grep_io.proofs.lemmas.FileLaws.{lines_of-beyond, up_to_limit-few}, grep_cmd.{specs.{declared.script.{ScriptEnd.ScriptEnd, ScriptFault.{ScriptFault, TheVariants.{Memory, Read, Write}}}, Script.{Step, Steps}, Replies.{BeginsScript, HasAllButLast, ScriptGives, ReadsScript, ScriptState}}, proofs.lemmas.ScriptSteps.all_but_last}}
use Rattle.re_meter.specs.Meters.{Steps as StepCounts}

-- ---- the number of lines

either_few : (c : Bool) (x y : List Text) (n : ℕ) → length x ≤ n → length y ≤ n → length (if c then x else y) ≤ n
either_few true x y n a b = a
either_few false x y n a b = b

put_few : (b : ℕ) (ts : List Text) → length (put_before b ts) ≤ length ts + 1
put_few b [] = omega arith
put_few b (t ∷ ts) = omega arith

-- a text has no more lines than bytes
pub few_lines : (t : Text) → length (lines_of t) ≤ length t
unfolding lines_of
few_lines [] = omega arith
few_lines (b ∷ t) =
    let few = few_lines t in
    either_few (nat_eq b newline) ([] ∷ lines_of t) (put_before b (lines_of t)) (length (b ∷ t)) (omega arith) (omega (arith, put_few b (lines_of t)))

-- ---- the file that was read

module _ (text : Text) (few : length text ≤ most_lines) where
  all_lines : (bytes : Text) → text ≡ bytes → file_of [] (ends_after bytes) ≡ commands_of text
  all_lines bytes is =
      let fits : length (lines_of bytes) ≤ most_lines = let fewer = few_lines bytes in let long = ap length is in omega arith in
      up_to_limit-few [] (lines_of bytes) whole fits ∙ ap commands_of (sym is)

  -- the lines of a text that newlines end in its first bytes, and those after them
  ended_first : (bytes rest : Text) → text ≡ bytes ++ rest → (more : List Text) × (lines_of text ≡ ended_lines_of bytes ++ more)
  ended_first bytes rest is =
      let (none, (last, one, cut)) = AreEndedLines-ended_lines_of bytes in
      (lines_of (last ++ rest), ap lines_of (is ∙ ap (λ b. b ++ rest) cut ∙ append_assoc _ last rest) ∙ lines_of-beyond (ended_lines_of bytes) (last ++ rest) none)

  broken_lines : (bytes : Text) (more : List Text) → lines_of text ≡ ended_lines_of bytes ++ more → file_of [] (fails_after bytes) ≡ record { name = []; lines = ended_lines_of bytes; ending = broken }
  broken_lines bytes more is =
      let fits : length (ended_lines_of bytes) ≤ most_lines = let fewer = few_lines text in let long = ap length is ∙ length-append (ended_lines_of bytes) more in omega arith in
      up_to_limit-few [] (ended_lines_of bytes) broken fits

  -- a script that was read to its end is the text
  whole_text : (reading : Reading) (file : File) → IsReadingOf (open_source [] (Some text)) reading → file ≡ file_of [] reading → file.ending ≡ whole → file ≡ commands_of text
  whole_text not_opened file (cannot) is ends = absurd (cc cannot)
  whole_text (fails_after bytes) file (opens, (rest, cut)) is ends =
      let e = ended_first bytes rest cut in
      let same = is ∙ broken_lines bytes e.0 e.1 in
      absurd (cc (sym ends ∙ ap (λ (f : File). f.ending) same))
  whole_text (ends_after bytes) file (opens, all) is ends = is ∙ all_lines bytes all

  -- no read of it fails
  never_broken : (reading : Reading) (file : File) → IsReadingOf (open_source [] (Some text)) reading → file ≡ file_of [] reading → 0 ≡ count_more 0 (failures_of reading) → file.ending ≡ broken → ⊥
  never_broken not_opened file cannot is none ends = absurd (cc cannot)
  never_broken (fails_after bytes) file some is none ends = absurd (omega arith)
  never_broken (ends_after bytes) file (opens, all) is none ends =
      let same = is ∙ all_lines bytes all in
      absurd (cc (sym ends ∙ ap (λ (f : File). f.ending) same))

-- the first steps of lines are those of more lines
steps_beyond : (lines more : List Text) (steps : List Step) (rest : List Text) → Steps broken lines steps rest → Steps whole (lines ++ more) steps (rest ++ more)
steps_beyond lines more [] rest is = ap (λ ls. ls ++ more) is
steps_beyond lines more (step ∷ steps) rest (inl (line, taken, others, cut, is, next)) =
    inl (line, taken, others ++ more, ap (λ ls. ls ++ more) cut ∙ ap (λ ls. line ∷ ls) (append_assoc taken others more), is, steps_beyond others more steps rest next)
steps_beyond lines more (step ∷ steps) rest (inr e) = absurd (cc (e.0))

-- the first steps of a script that was read in part are those of the text
text_steps : (text : Text) → length text ≤ most_lines → (reading : Reading) (file : File) → IsReadingOf (open_source [] (Some text)) reading → file ≡ file_of [] reading
    → (steps : List Step) (rest : List Text) → Steps file.ending file.lines steps rest → (left : List Text) × Steps whole (lines_of text) steps left
text_steps text few not_opened file cannot is steps rest are = absurd (cc cannot)
text_steps text few (fails_after bytes) file (opens, (others, cut)) is steps rest are =
    let e = ended_first text few bytes others cut in
    let same = is ∙ broken_lines text few bytes e.0 e.1 in
    (rest ++ e.0, rw e.1 (steps_beyond (ended_lines_of bytes) e.0 steps rest (rw same at are)))
text_steps text few (ends_after bytes) file (opens, all) is steps rest are =
    (rest, rw (is ∙ all_lines text few bytes all) at are)

-- ---- how it was answered

module _ {W : Type 0} (contents : W → Option Text) (failures : W → ℕ) (has_read : List Text → Type 0) (text : Text) (left : Option Text) (before : ScriptState) (after : LiveKept) (begun spent : StepCounts) (old new : W)
    (few : length text ≤ most_lines) (none : contents old ≡ Some []) (all : contents new ≡ Some after.replies) where
  appended : (bytes : Text) → Appends (contents old) (contents new) bytes → after.replies ≡ bytes
  appended bytes a = rw none at (rw all at a)

  pub text_answered : (result : Result ScriptEnd ScriptFault) (answer : ℕ) → ScriptGives contents failures has_read (Some text) left 0 0 before after.state begun spent old new result
      → IfOk result (λ end. answer ≡ end_number end) → IfErr result (λ _. answer ≡ 2) → AnswersText before text begun after spent answer
  text_answered (Ok end) answer e number two =
      let same = whole_text text few e.reads.reading e.file e.reads.is_reading e.reads.is_file e.is_whole in
      inl (record {
        replies = e.replies;
        answers = record {
          steps = e.answers.steps;
          are_steps = rw same at e.answers.are_steps;
          most = e.answers.most;
          are_replies = e.answers.are_replies;
          few = e.answers.few;
        };
        are_written = appended _ e.goes.written;
        ended = number ∙ ap end_number e.ended;
      })
  text_answered (Err Read) answer e number two = absurd (never_broken text few e.reads.reading e.file e.reads.is_reading e.reads.is_file e.reads.counted e.is_broken)
  text_answered (Err Memory) answer e number two =
      let s = text_steps text few e.reads.reading e.file e.reads.is_reading e.reads.is_file e.answers.steps (e.first ++ e.others) e.answers.are_steps in
      inr (
        two,
        record {
          replies = e.replies;
          rest = s.0;
          done = after.state;
          answers = record { steps = e.answers.steps; are_steps = s.1; most = e.answers.most; are_replies = e.answers.are_replies; few = e.answers.few };
          leaves = inl refl;
          unwritten = [];
          are_begun = sym (append-nil after.replies ∙ appended (written [] e.replies) e.goes.written);
          broken = subst (HasAllButLast e.answers.steps before) (append-nil (written [] e.replies) ∙ sym (appended (written [] e.replies) e.goes.written)) (all_but_last e.answers.steps before after.state e.replies e.answers.most [] e.answers.are_replies);
        },
      )
  text_answered (Err Write) answer e number two =
      let s = began e.file e.reads e.answers.steps e.rest e.answers.are_steps in
      inr (
        two,
        record {
          replies = e.replies;
          rest = s.0;
          done = e.done;
          answers = record { steps = e.answers.steps; are_steps = s.1; most = e.answers.most; are_replies = e.answers.are_replies; few = e.answers.few };
          leaves = e.leaves;
          unwritten = e.stops.rest;
          are_begun = cc (e.stops.cut, appended e.stops.front e.stops.written);
          broken = rw (appended e.stops.front e.stops.written) e.broken;
        },
      )
    where
      began : (file : File) → BeginsScript (Some text) 0 0 file ⊎ ReadsScript (Some text) left 0 0 file → (steps : List Step) (rest : List Text) → Steps file.ending file.lines steps rest → (others : List Text) × Steps whole (lines_of text) steps others
      began file (inl b) steps rest are = text_steps text few b.reading file b.is_reading b.is_file steps rest are
      began file (inr b) steps rest are = text_steps text few b.reading file b.is_reading b.is_file steps rest are
