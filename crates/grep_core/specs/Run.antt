-- What a run over sources writes, each source read once from front to back.
use Rattle.std.specs.Prelude.{◌∷◌, [], Result, ◌≤◌, Err, IsTrue, ◌<◌, suc, Ok, length, get_or, ◌++◌}
use Rattle.std.specs.{Prelude.{◌≡◌, take, List, ◌+◌, ℕ, Option}, Io.KnownBytes.Appends, List.AllZip}
use Rattle.{re_syntax.specs.{Expression.Expression, Bytes.Text}, re_search.specs.Meters.Steps}
use Rattle.grep_core.specs.Messages.{FaultMet, StatusOf, Messages}
use Rattle.grep_core.specs.declared.status.RunFault.TheVariants.{Write, MessageWrite, Memory}
use Rattle.grep_core.specs.declared.status.{RunFault.RunFault, Status.Status}
use Rattle.grep_core.specs.{declared.options.Options.Options, Choose.IfHolds, Sources.source_at}
use Rattle.grep_core.specs.{Cost.SearchesFiles, Files.{File, whole, missing, HasSelected}}
use Rattle.grep_core.specs.Output.{parts, Out, lines, Form, written, OutOf, form, around}
use Rattle.grep_io.specs.{Counted.one_more, Reading.{Source, Reading, IsReadingOf, file_of}}
use Rattle.grep_io.specs.Reading.{failures_of, AreLeft, HasRead}
pub use Rattle.grep_io.specs.Counted.{count_more}

-- ---- devices

-- a writer: the bytes that it holds, where they are known, and how many writes failed
pub record Writer : Type 0 where
  pub contents : Option Text
  pub failures : ℕ

abbrev pub writer : {W : Type 0} → (W → Option Text) → (W → ℕ) → W → Writer
writer contents failures w = record { contents = contents w; failures = failures w }

-- standard output, standard error, how often a source could not be opened or read, and the work
-- that was counted
pub record Devices : Type 0 where
  pub out : Writer
  pub messages : Writer
  pub source_failures : ℕ
  pub steps : Steps

abbrev pub devices : Writer → Writer → ℕ → Steps → Devices
devices out messages failures steps =
    record { out = out; messages = messages; source_failures = failures; steps = steps }

-- the lines were written and no write failed
pub record TakesAll (old new : Writer) (text : List Text) : Type 0 where
  pub written_all : Appends old.contents new.contents (written [] text)
  pub none_failed : new.failures ≡ old.failures

-- a beginning of the lines was written
pub record TakesFront (old new : Writer) (text : List Text) : Type 0 where
  pub front : Text
  pub rest : Text
  pub cut : written [] text ≡ front ++ rest
  pub written_front : Appends old.contents new.contents front

-- all of the first lines were written, and a beginning of those after them in the text
pub record TakesPast (old new : Writer) (first text : List Text) : Type 0 where
  pub front : Text
  pub rest : Text
  pub cut : written [] text ≡ (written [] first ++ front) ++ rest
  pub written_past : Appends old.contents new.contents (written [] first ++ front)

-- ---- sources

-- the files for which the sources stand, by what each of them did
abbrev pub files_of : List Source → List Reading → List File
files_of [] readings = []
files_of (source ∷ sources) [] = []
files_of (source ∷ sources) (r ∷ readings) = file_of source.name r ∷ files_of sources readings

abbrev pub AreReadings : List Source → List Reading → Type 0
AreReadings sources readings = AllZip IsReadingOf sources readings

module _ (es : List Expression) (options : Options) where
  -- n is how often the devices failed in a run that stops, under `-q`, at a selected line
  abbrev pub FailuresMet : List Source → List Reading → ℕ → Type 0
  FailuresMet [] readings n = n ≡ 0
  FailuresMet (source ∷ sources) [] n = n ≡ 0
  FailuresMet (source ∷ sources) (r ∷ readings) n =
      let file = file_of source.name r in
      (own : ℕ) × (rest : ℕ) × IfHolds (FaultMet es options file) (own ≡ failures_of r) (own ≡ 0)
      × IfHolds (IsTrue options.quiet × HasSelected es options file) (rest ≡ 0)
      (FailuresMet sources readings rest)
      × (n ≡ own + rest)

  -- what the readers of the sources had left when they were returned, up to where a run stops,
  -- under `-q`
  abbrev pub LeftMet : List Source → List Reading → List (Option Text) → Type 0
  LeftMet [] readings left = left ≡ []
  LeftMet (source ∷ sources) [] left = left ≡ []
  LeftMet (source ∷ sources) (r ∷ readings) left =
      (own : List (Option Text)) × (rest : List (Option Text)) × AreLeft source r own
      × IfHolds (IsTrue options.quiet × HasSelected es options (file_of source.name r)) (rest ≡ [])
      (LeftMet sources readings rest)
      × (left ≡ own ++ rest)

abbrev pub first_lines : ℕ → File → File
first_lines n file = record { name = file.name; lines = take n file.lines; ending = whole }

-- the file whose first n lines were searched, as far as rows show it; there are none yet under
-- `-c`, `-l` and `-q`
abbrev pub begun : Form → ℕ → File → List File
begun lines n file = first_lines n file ∷ []
begun parts n file = first_lines n file ∷ []
begun (around context) n file = first_lines n file ∷ []
begun _ n file = []

-- file k, which is there
abbrev pub file_at : List File → ℕ → File
file_at files k = get_or files k (record { name = []; lines = []; ending = missing })

-- ---- runs

-- the lines that are due were written
pub record WritesAll (Due : List Text → Type 0) (old new : Writer) : Type 0 where
  pub text : List Text
  pub due : Due text
  pub all : TakesAll old new text

-- the lines that were due first were written, and a beginning of those after them in all that are
-- due
pub record WritesPast (DueFirst Due : List Text → Type 0) (old new : Writer) : Type 0 where
  pub first : List Text
  pub due_first : DueFirst first
  pub text : List Text
  pub due : Due text
  pub past : TakesPast old new first text

module _ (es : List Expression) (options : Options) (sources : List Source) where
  -- what the sources did, and what that was to a run that reached these of them: how often their
  -- devices failed, and what they had left when they were returned (`returned_with` holds of it);
  -- the work of the run is no more than the search of all files costs
  pub record Story (reached : List Source) (returned_with : List (Option Text) → Type 0)
      (old new : Devices) : Type 0 where
    pub readings : List Reading
    pub are_readings : AreReadings sources readings
    pub failures : ℕ
    pub are_failures : FailuresMet es options reached readings failures
    pub counted : new.source_failures ≡ count_more old.source_failures failures
    pub left : List (Option Text)
    pub are_left : LeftMet es options reached readings left
    pub gave_back : returned_with left
    pub steps : SearchesFiles options (length es) (files_of sources readings) old.steps new.steps

  -- `returned_with l`: readers that had l left were returned in the run
  module _ (returned_with : List (Option Text) → Type 0) (old new : Devices) where
    -- a whole run: output, messages and status are those of the files for which the sources stand
    pub record Finishes (status : Status) : Type 0 where
      pub story : Story sources returned_with old new
      pub wrote : WritesAll (Out es options (files_of sources story.readings)) old.out new.out
      pub reported : WritesAll (Messages es options (files_of sources story.readings)) old.messages
          new.messages
      pub is_status : StatusOf es options (files_of sources story.readings) status

    -- a run that a failed write ended in source `at`: what is written of the sources before it was
    -- written, and a beginning of what follows; no source after it was opened
    pub record BreaksOff : Type 0 where
      pub at : ℕ
      pub in_sources : at < length sources
      pub story : Story (take (suc at) sources) returned_with old new
      pub wrote : WritesPast (OutOf es options (files_of sources story.readings)
          (take at (files_of sources story.readings)))
          (Out es options (files_of sources story.readings)) old.out new.out
      pub reported : WritesPast (Messages es options (take at (files_of sources story.readings)))
          (Messages es options (files_of sources story.readings)) old.messages new.messages

    -- a run that ran out of memory after the first n lines of source k, whatever is written of
    -- them: the output is that of the sources before it and of a source of these lines, the
    -- messages those of the sources before it; the reader of source k had `rest` left
    pub record StopsAfter (k n : ℕ) : Type 0 where
      pub in_sources : k < length sources
      pub rest : Option Text
      pub story : Story (take k sources) (λ left. returned_with (left ++ rest ∷ [])) old new
      pub in_file : n ≤ length (file_at (files_of sources story.readings) k).lines
      pub read : HasRead (source_at sources k) rest
          (take n (file_at (files_of sources story.readings) k).lines)
      pub wrote : WritesAll (OutOf es options (files_of sources story.readings)
          (take k (files_of sources story.readings)
          ++ begun (form options) n (file_at (files_of sources story.readings) k))) old.out new.out
      pub reported : WritesAll (Messages es options (take k (files_of sources story.readings)))
          old.messages new.messages

    -- what a run returns: a fault of a write exactly where a write failed
    abbrev pub RunGives : Result Status RunFault → Type 0
    RunGives (Ok status) = Finishes status
    RunGives (Err Write) =
        BreaksOff × (new.out.failures ≡ one_more old.out.failures) ×
        (new.messages.failures ≡ old.messages.failures)
    RunGives (Err MessageWrite) =
        BreaksOff × (new.out.failures ≡ old.out.failures) ×
        (new.messages.failures ≡ one_more old.messages.failures)
    RunGives (Err (Memory k n)) = StopsAfter k n
