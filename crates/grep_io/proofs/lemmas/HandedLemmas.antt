-- The lines that a reader of lines has handed out, one more at a time, and the file for which its
-- source stands.
use Rattle.{grep_io.proofs.{Prelude.{◌≡◌, ◌≢◌, ℕ, ◌<◌, ◌≤◌, List, [], ◌∷◌, ◌++◌, Option, None, Some, IfSome, length, All, inl, inr, refl, ap, ◌∙◌, arith, append_assoc, append-nil, Consumes-nil, Consumes-trans, Consumes-kept, prepend_known-nil, All-push, prepend_known, Consumes, IsAtEnd, Text, newline, lines_of, ended_lines_of, terminated, HasNoNewline, LineReader, to_come, IsLineOf, HandsOut, IsUsedUp, IsCutOff, RunsOutOfMemory, Stage, Open, Ended, Failed, whole, broken, fails_after, ends_after, most_lines, buffer_size, up_to_limit, file_of, open_source, IsOneLineAndFew, HasRead, AreHanded, HandsLines, StandsFor, BeginsWith}, lemmas.{WindowLemmas.one_line_and_few, FileLaws.{lines_of-beyond, up_to_limit-few, up_to_limit-over, up_to_limit-beyond}}}, re_trees.proofs.lemmas.{LinesLaws.{all_none, lines_of-last, lines_of-terminated, terminated-append}, EndedLinesLaws.ended_lines_of-unfinished}}

-- ---- texts

one_line : (t : Text) → HasNoNewline t → t ≢ [] → lines_of t ≡ t ∷ []
one_line [] h some = absurd (some refl)
one_line (b ∷ t) h some = lines_of-last b t h

-- ---- what was handed out

-- what a source has, by what it gave and has left
all_of : (known left : Option Text) (given : Text) → Consumes known left given → (rest : Text) × (IfSome known (λ all. all ≡ given ++ rest) × (IsAtEnd left → rest ≡ []))
all_of None left given h = ([], (tt, λ e. refl))
all_of (Some all) None given h = absurd h
all_of (Some all) (Some rest) given h = (rest, (h, λ e. e))

given_all : (known left : Option Text) (given : Text) → Consumes known left given → IsAtEnd left → IfSome known (λ all. all ≡ given)
given_all None left given h e = tt
given_all (Some all) None given h e = absurd h
given_all (Some all) (Some rest) given h e = cc (append-nil given)

with_rest : (known : Option Text) (given rest : Text) → IfSome known (λ all. all ≡ given ++ rest) → IfSome known (λ all. (others : Text) × (all ≡ given ++ others))
with_rest None given rest h = tt
with_rest (Some all) given rest h = (rest, h)

Consumes-front : (left : Option Text) (given : Text) → Consumes (prepend_known given left) left given
Consumes-front None given = tt
Consumes-front (Some rest) given = refl

-- what the lines of a source begin with
lines_front : (stage : Stage) (given : Text) (handed : List Text) (rest : Text) → AreHanded stage given handed → (stage ≡ Ended → rest ≡ []) → (more : List Text) × (lines_of (given ++ rest) ≡ handed ++ more)
lines_front Open given handed rest h end = (lines_of rest, cc (h.0, lines_of-beyond handed rest h.1))
lines_front Ended given handed rest h end = ([], cc (end refl, append-nil given, append-nil handed))
lines_front Failed given handed rest h end = absurd h

-- all that was given are these lines
lines_given : (stage : Stage) (given : Text) (handed : List Text) → AreHanded stage given handed → lines_of given ≡ handed
lines_given Open given handed h = cc (h.0, lines_of-terminated handed h.1)
lines_given Ended given handed h = h
lines_given Failed given handed h = absurd h

-- what a reader of lines has handed out was given by its source, and the rest of it is held
pub has_read : {R : Type 0} (remaining : R → Option Text) (failures : R → ℕ) (name : Text) (reader : R) (now : LineReader R) (handed : List Text) → HandsLines remaining failures reader now handed → IsOneLineAndFew now.ahead → HasRead (open_source name (remaining reader)) (remaining now.reader) handed
has_read remaining failures name reader now handed h few = record {
  given = h.given;
  are_given = lines_given now.stage h.given _ h.are_handed;
  held = now.ahead;
  few_held = few;
  read = Consumes-trans (remaining reader) (to_come remaining failures now) (remaining now.reader) h.given now.ahead h.gave (Consumes-front (remaining now.reader) now.ahead);
}

-- a reader of lines that is not at its end is still open
pub still_open : (stage : Stage) (given : Text) (handed : List Text) → AreHanded stage given handed → stage ≢ Ended → stage ≡ Open
still_open Open given handed h apart = refl
still_open Ended given handed h apart = absurd (apart refl)
still_open Failed given handed h apart = absurd h

module _ {R : Type 0} (remaining : R → Option Text) (failures : R → ℕ) where
  abbrev come : LineReader R → Option Text
  come = to_come remaining failures

  abbrev Hands : R → LineReader R → List Text → Type 0
  Hands = HandsLines remaining failures

  -- nothing was read yet
  pub HandsLines-none : (now : LineReader R) → now.ahead ≡ [] → now.stage ≡ Open → Hands now.reader now []
  HandsLines-none now none is_open = record {
    given = [];
    gave = rw none (rw prepend_known-nil (Consumes-nil (remaining now.reader)));
    are_handed = rw is_open (refl, all_none);
    all_given = λ e. absurd (cc (is_open, e));
    none_failed = refl;
  }

  further : (reader : R) (old new : LineReader R) {given : Text} (handed : List Text) (stage : Stage) → IsLineOf remaining failures old new stage → HasNoNewline new.line → given ≡ terminated handed → All HasNoNewline handed → Consumes (remaining reader) (come old) given → (more : Text) × (Consumes (remaining reader) (come new) more × (AreHanded stage more (handed ++ new.line ∷ []) × (stage ≡ Ended → IsAtEnd (come new))))
  further reader old new {given} handed Open taken free is all gave = (given ++ (new.line ++ newline ∷ []), (Consumes-trans _ (come old) _ given (new.line ++ newline ∷ []) gave taken, ((cc (terminated-append handed (new.line ∷ [])), All-push HasNoNewline handed new.line all free), λ e. absurd cc)))
  further reader old new {given} handed Ended taken free is all gave = (given ++ new.line, (Consumes-trans _ (come old) _ given new.line gave taken.0, (cc (lines_of-beyond handed new.line all, one_line new.line free taken.2), λ e. taken.1)))
  further reader old new handed Failed taken free is all gave = absurd taken

  -- one more line was handed out
  pub HandsLines-line : (reader : R) {old new : LineReader R} (handed : List Text) → Hands reader old handed → HandsOut remaining failures old new → Hands reader new (handed ++ new.line ∷ [])
  HandsLines-line reader {old} {new} handed s h =
      let lines = rw h.was_open at s.are_handed in
      let next = further reader old new handed new.stage h.taken h.no_newline lines.0 lines.1 s.gave in
      record { given = next.0; gave = next.1.0; are_handed = next.1.1.0; all_given = next.1.1.1; none_failed = h.none_failed ∙ s.none_failed }

  held_line : (old new : LineReader R) (stage : Stage) → IsLineOf remaining failures old new stage → HasNoNewline new.line → length new.ahead < buffer_size → (held : Text) × IsOneLineAndFew held × Consumes (come old) (remaining new.reader) held
  held_line old new Open taken free few = ((new.line ++ newline ∷ []) ++ new.ahead, rw (append_assoc new.line (newline ∷ []) new.ahead) (one_line_and_few new.line (newline ∷ new.ahead) free (omega arith)), Consumes-trans (come old) (come new) (remaining new.reader) (new.line ++ newline ∷ []) new.ahead taken (Consumes-front (remaining new.reader) new.ahead))
  held_line old new Ended taken free few = (new.line ++ new.ahead, one_line_and_few new.line new.ahead free (omega arith), Consumes-trans (come old) (come new) (remaining new.reader) new.line new.ahead taken.0 (Consumes-front (remaining new.reader) new.ahead))
  held_line old new Failed taken free few = absurd taken

  -- where a line was handed out, the lines before it were given, and it is held with what is ahead
  pub has_read_before : (name : Text) (reader : R) (old new : LineReader R) (handed : List Text) → Hands reader old handed → HandsOut remaining failures old new → HasRead (open_source name (remaining reader)) (remaining new.reader) handed
  has_read_before name reader old new handed s h =
      let (held, few, read) = held_line old new new.stage h.taken h.no_newline h.few_held in
      record { given = s.given; are_given = lines_given old.stage s.given _ s.are_handed; held = held; few_held = few; read = Consumes-trans (remaining reader) (come old) (remaining new.reader) s.given held s.gave read }

  -- a call that lost nothing
  pub HandsLines-stays : (reader : R) (old new : LineReader R) (handed : List Text) → Hands reader old handed → old.stage ≡ Open → RunsOutOfMemory remaining failures old new → Hands reader new handed
  HandsLines-stays reader old new handed s was_open h =
      let lines = rw was_open at s.are_handed in
      record {
        given = s.given;
        gave = Consumes-kept (remaining reader) (come old) (come new) s.given s.gave h.kept;
        are_handed = rw h.still_open lines;
        all_given = λ e. absurd (cc (h.still_open, e));
        none_failed = h.none_failed ∙ s.none_failed;
      }

  -- the source begins with the lines handed out
  pub begins_with : (name : Text) (reader : R) (now : LineReader R) (handed : List Text) → HandsLines remaining failures reader now handed → length handed ≤ most_lines → BeginsWith name (remaining reader) handed
  begins_with name reader now handed s few =
      let left = all_of (remaining reader) (come now) s.given s.gave in
      let front = lines_front now.stage s.given handed left.0 s.are_handed (λ e. left.1.1 (s.all_given e)) in
      let cut = up_to_limit-beyond name handed front.0 whole few in
      let same : file_of name (ends_after (s.given ++ left.0)) ≡ up_to_limit name (handed ++ front.0) whole = rw front.1 in
      record {
        reading = ends_after (s.given ++ left.0);
        is_reading = (refl, left.1.0);
        none_fails = refl;
        is_left = λ rest. (rest, refl);
        more = cut.0;
        named = rw (same ∙ cut.2);
        has_lines = rw (same ∙ cut.2);
        ends = elim cut.3 [ inl e ↦ inl (cc (same ∙ cut.2)) | inr e ↦ inr (cc (same ∙ cut.2)) ];
      }

  -- no line is left
  pub stands_whole : (name : Text) (reader : R) (old new : LineReader R) (handed : List Text) → Hands reader old handed → length handed ≤ most_lines → IsUsedUp remaining failures old new → StandsFor name (remaining reader) (remaining new.reader) (failures reader) (failures new.reader) handed whole
  stands_whole name reader old new handed s few h =
      let gave = Consumes-kept (remaining reader) (come old) (come new) s.given s.gave h.kept in
      record {
        reading = ends_after s.given;
        is_reading = (refl, given_all (remaining reader) _ s.given gave h.none_left);
        is_left = (remaining new.reader, refl);
        file = cc (lines_given old.stage s.given _ s.are_handed, up_to_limit-few name handed whole few);
        counted = h.none_failed ∙ s.none_failed;
      }

  -- a read failed after the lines
  pub stands_broken : (name : Text) (reader : R) (old new : LineReader R) (handed : List Text) → Hands reader old handed → length handed ≤ most_lines → old.stage ≡ Open → IsCutOff remaining failures old new → StandsFor name (remaining reader) (remaining new.reader) (failures reader) (failures new.reader) handed broken
  stands_broken name reader old new handed s few was_open h =
      let lines = rw was_open at s.are_handed in
      let kept = Consumes-kept (remaining reader) (come old) (come new) s.given s.gave h.kept in
      let gave = Consumes-trans (remaining reader) (come new) (remaining new.reader) s.given new.ahead kept (Consumes-front (remaining new.reader) new.ahead) in
      let rest = all_of (remaining reader) (remaining new.reader) (s.given ++ new.ahead) gave in
      record {
        reading = fails_after (s.given ++ new.ahead);
        is_reading = (refl, with_rest (remaining reader) (s.given ++ new.ahead) rest.0 rest.1.0);
        is_left = (remaining new.reader, refl, gave);
        file = cc (ap (λ l. ended_lines_of (l ++ new.ahead)) lines.0 ∙ ended_lines_of-unfinished handed new.ahead lines.1 h.unfinished, up_to_limit-few name handed broken few);
        counted = cc (h.counted was_open, s.none_failed);
      }

  -- a line more than the limit allows was handed out
  pub stands_cut : (name : Text) (reader : R) (now : LineReader R) (handed : List Text) (line : Text) → Hands reader now (handed ++ line ∷ []) → length handed ≡ most_lines → StandsFor name (remaining reader) (remaining now.reader) (failures reader) (failures now.reader) handed broken
  stands_cut name reader now handed line s many =
      let left = all_of (remaining reader) (come now) s.given s.gave in
      let front = lines_front now.stage s.given (handed ++ line ∷ []) left.0 s.are_handed (λ e. left.1.1 (s.all_given e)) in
      let all = front.1 ∙ append_assoc handed (line ∷ []) front.0 in
      record {
        reading = ends_after (s.given ++ left.0);
        is_reading = (refl, left.1.0);
        is_left = (remaining now.reader, refl);
        file = cc (up_to_limit-over name handed front.0 line whole many);
        counted = s.none_failed;
      }
