-- The buffered patterns, with one more line of a file at a time.
use Rattle.{grep_utility.proofs.Prelude.{◌≡◌, ℕ, ◌-◌, ◌<◌, true, false, List, [], ◌∷◌, ◌++◌, All, Option, Ok, Err, sym, ap, ◌∙◌, append_assoc, append-nil, arith, length_push, All-append, Text, newline, terminated, HasNoNewline, Device, Stage, Open, Ended, Failed, most_lines, AreHanded, Bool, Result, ReadFault, Numbered, HasHanded, NextIs, Adds, AddsLines}, re_syntax.proofs.lemmas.LinesLaws.{terminated-append, AreLines-lines_of}, grep_core.proofs.lemmas.NumberedLemmas.has_handed_none}

-- some patterns were added, and then others
pub Adds-trans : (old mid new : Text) (ts us : List Text) → Adds old mid ts → Adds mid new us → Adds old new (ts ++ us)
Adds-trans old mid new ts us h k = record {
  bytes = cc (k.bytes, h.bytes, append_assoc old (terminated ts) (terminated us), terminated-append ts us);
  no_newlines = All-append HasNoNewline ts us h.no_newlines k.no_newlines;
}

-- no line that was handed out has a newline
free_lines : (stage : Stage) (given : Text) (handed : List Text) → AreHanded stage given handed → All HasNoNewline handed
free_lines Open given handed h = h.1
free_lines Ended given handed h = rw h at (AreLines-lines_of given).0
free_lines Failed given handed h = absurd h

module _ {R : Type 0} (remaining : R → Option Text) (failures : R → ℕ) where
  -- the lines of a reader that were handed out were added
  pub record LinesSoFar (reader : R) (now : Numbered R) (before after : Text) : Type 0 where
    pub lines : List Text
    pub handed : HasHanded remaining failures reader now lines
    pub bytes : after ≡ before ++ terminated lines

  -- none yet
  pub so_far_none : (now : Numbered R) (bytes : Text) → now.lines.ahead ≡ [] → now.lines.stage ≡ Open → now.number ≡ 0 → LinesSoFar now.lines.reader now bytes bytes
  so_far_none now bytes none is_open zero =
      record { lines = []; handed = has_handed_none remaining failures now none is_open zero; bytes = sym (append-nil bytes) }

  module _ (reader : R) (old new : Numbered R) (before mid : Text) (s : LinesSoFar reader old before mid) where
    added : Adds before mid s.lines
    added = record { bytes = s.bytes; no_newlines = free_lines old.lines.stage s.handed.hands.given s.lines s.handed.hands.are_handed }

    -- what the next call gives
    abbrev Gives : Result Bool ReadFault → Type 0
    Gives r = (reader : R) (lines : List Text) → HasHanded remaining failures reader old lines → NextIs remaining failures reader lines new r

    -- one more line
    pub so_far_line : (after line : Text) → Gives (Ok true) → line ≡ new.lines.line → after ≡ mid ++ (line ++ newline ∷ []) → LinesSoFar reader new before after
    so_far_line after line next is pushed =
        let beyond : after ≡ mid ++ terminated (new.lines.line ∷ []) = cc in
        record {
          lines = s.lines ++ new.lines.line ∷ [];
          handed = next reader s.lines s.handed;
          bytes =
              beyond ∙ ap (λ l. l ++ terminated (new.lines.line ∷ [])) s.bytes ∙ append_assoc before (terminated s.lines) (terminated (new.lines.line ∷ []))
              ∙ ap (λ l. before ++ l) (sym (terminated-append s.lines (new.lines.line ∷ [])));
        }

    -- no line is left
    pub all_added : Gives (Ok false) → AddsLines (remaining reader) (remaining new.lines.reader) (failures reader) (failures new.lines.reader) before mid true
    all_added next = record { texts = s.lines; adds = added; stands = next reader s.lines s.handed }

    -- a read failed, or there is one line more than can be numbered
    pub some_added : Gives (Err Device) → AddsLines (remaining reader) (remaining new.lines.reader) (failures reader) (failures new.lines.reader) before mid false
    some_added next = record { texts = s.lines; adds = added; stands = next reader s.lines s.handed }

    -- with each line there are fewer that can be numbered
    pub fewer_left : Gives (Ok true) → most_lines - new.number < most_lines - old.number
    fewer_left next =
        let handed = next reader s.lines s.handed in
        omega (arith, handed.few, handed.counted, length_push s.lines new.lines.line)
