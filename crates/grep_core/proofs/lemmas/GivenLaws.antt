-- A run keeps what it gives where more is said of what readers had left.
use Rattle.grep_core.{proofs.Prelude.{List, ◌∷◌, [], ◌++◌, Option, Result, Ok, Err, Text, Expression, Options, Status, RunFault, MessageWrite, Source, Devices, Story, BreaksOff, RunGives}, specs.declared.status.RunFault.TheVariants.{Write, Memory}}

module _ (es : List Expression) (options : Options) (sources : List Source) where
  abbrev Story-given : (reached : List Source) (given other : List (Option Text) → Type 0) → ((left : List (Option Text)) → given left → other left) → (old new : Devices) → Story es options sources reached given old new → Story es options sources reached other old new
  Story-given _ _ _ more _ _ s = record {
    readings = s.readings;
    are_readings = s.are_readings;
    failures = s.failures;
    are_failures = s.are_failures;
    counted = s.counted;
    left = s.left;
    are_left = s.are_left;
    gave_back = more s.left s.gave_back;
    steps = s.steps;
  }

  module _ (given other : List (Option Text) → Type 0) (more : (left : List (Option Text)) → given left → other left) (old new : Devices) where
    BreaksOff-given : BreaksOff es options sources given old new → BreaksOff es options sources other old new
    BreaksOff-given b = record { at = b.at; in_sources = b.in_sources; story = Story-given _ given other more old new b.story; wrote = b.wrote; reported = b.reported }

    pub RunGives-given : (result : Result Status RunFault) → RunGives es options sources given old new result → RunGives es options sources other old new result
    RunGives-given (Ok status) f = record { story = Story-given sources given other more old new f.story; wrote = f.wrote; reported = f.reported; is_status = f.is_status }
    RunGives-given (Err Write) b = (BreaksOff-given b.0, b.1, b.2)
    RunGives-given (Err MessageWrite) b = (BreaksOff-given b.0, b.1, b.2)
    RunGives-given (Err (Memory k n)) s = record {
      in_sources = s.in_sources;
      rest = s.rest;
      story = Story-given _ (λ left. given (left ++ s.rest ∷ [])) (λ left. other (left ++ s.rest ∷ [])) (λ left h. more (left ++ s.rest ∷ []) h) old new s.story;
      in_file = s.in_file;
      read = s.read;
      wrote = s.wrote;
      reported = s.reported;
    }
