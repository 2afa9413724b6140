-- Walks by kept steps over the lines of a block, and the line that is searched where one stops.
use Rattle.{re_match.{proofs.{Prelude.{◌≡◌, ℕ, ◌+◌, ◌-◌, ◌≤◌, inl, inr, Bool, false, length, slice_range, refl, arith, Text, Expression, Steps, IsLineFrom, Cache, Searches, cache_of, Decided, StopsAt}, lemmas.{StepSums.adds_on, SweptLines.stops_saying}}, specs.Working.{CachedMatchers.IsTableFor, Sweeps.CountsSweep}}, re_runs.proofs.lemmas.Ranges.{joined_range, length_range, line_before, same_end}, re_steps.{specs.{declared.{table.{LineSearch.LineSearch, StepTable.StepTable}, walk.Lines.Lines}, Working.{Stages.{Stage, Finishes}, Walks.GoesOverLines, Rows.{IsRight, IsRightFor, ComesTo, expression_in, walked}}}, proofs.lemmas.{StageLaws.{searches_say, searches_steps}, WalkLaws.{walked_on, adds_walked}}}, re_auto.specs.declared.mode.Mode.TheVariants.Search}

-- a table with rows is right
pub right_of : {e : Expression} {most : ℕ} (t : StepTable) → IsTableFor e false most t → (length t.marks.items ≡ 0 → ⊥) → IsRight e Search t
right_of t is some = elim is.1 [
  | inl blank ↦ absurd (some (rw blank.marks))
  | inr right ↦ right
]

module _ {asked : LineSearch} {t : StepTable} {lines : Lines} {end : ℕ} (goes : GoesOverLines asked t lines) (rest : IsLineFrom asked.line.now lines.place end) where
  abbrev block : Text
  block = asked.line.now

  abbrev pub line : Text
  line = slice_range block lines.start end

  cut : IsLineFrom block lines.start end
  cut = line_before block lines.start lines.place end goes.low goes.free rest

  long : length line ≡ end - lines.start
  long = length_range block lines.start end (omega arith)

  pub within_line : lines.place - lines.start ≤ length line
  within_line = omega (arith, long)

  module _ (right : IsRightFor asked t) (search : asked.mode ≡ Search) (old : Steps) {after : Steps} {last : Cache} {answer : Bool}
      (finishes : (first : Stage) → ComesTo (expression_in asked) asked.mode line first (cache_of t) (walked lines.place old) (lines.place - lines.start) lines.row → Finishes (expression_in asked) asked.mode line first last after answer) where
    searched : Searches (expression_in asked) asked.mode line (cache_of t) last (walked lines.start old) after answer
    searched =
        let first : Stage = record { set = right.first.start; cache = cache_of t; steps = walked lines.start old } in
        record {
          first = first;
          stands = right.first.stands line;
          cache = inl refl;
          steps = refl;
          finishes = finishes first
              (rw (walked_on lines.start (lines.place - lines.start) lines.place old (omega arith)) at
              (rw (joined_range block lines.start lines.place end goes.low rest.0) at
              (goes.comes (slice_range block lines.place end) right.first.start (walked lines.start old) right.first.is_start)));
        }

    -- the line is decided
    pub walk_stops : StopsAt (expression_in asked) false block (record { start = lines.start; first = lines.start; reached = end + 1; stop = Decided answer })
    walk_stops = stops_saying _ _ _ _ _ _ (λ n. refl) (omega arith) (λ other there.
        (omega (arith, same_end block lines.start end other cut there), rw (same_end block lines.start end other cut there) at (searches_say false (rw search at searched))))

    pub walk_adds : CountsSweep (record { start = lines.start; first = lines.start; reached = end + 1; stop = Decided answer }) old after
    walk_adds =
        let passed = adds_walked lines.start old in let more = searches_steps searched in
        record { few = adds_on passed.few more (omega (arith, long, cut.0)) (omega arith); all = omega (arith, passed.all, more.built, more.reused) }
