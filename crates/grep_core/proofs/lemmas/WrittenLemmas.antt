-- Bytes that were written, as output lines after a margin.
use Rattle.grep_core.proofs.{Prelude.{ℕ, [], ◌∷◌, ◌++◌, List, Option, Result, append_assoc, append-nil, Text, newline, output_line, written, writer, TakesAll, TakesFront, GoesOut, StopsWithin, Writes}, lemmas.RowLemmas.{goes_nowhere, stops_early, writes_last}}

module _ {W : Type 0} (contents : W → Option Text) (failures : W → ℕ) where
  -- no line was written
  pub writes_no_line : (a : W) → GoesOut contents failures a a []
  writes_no_line a = goes_nowhere contents failures a

  -- one line was written
  pub writes_one_line : {T E : Type 0} (a b : W) (margin text : Text) (r : Result T E) → Writes contents failures a b (output_line margin text) r → Writes contents failures a b (written margin (text ∷ [])) r
  writes_one_line a b margin text r w = rw (append-nil (output_line margin text)) w

  -- the margin, and then a line without one
  pub writes_after_margin : {T E : Type 0} (a b c : W) (margin text : Text) (r : Result T E) → GoesOut contents failures a b margin → Writes contents failures b c (output_line [] text) r → Writes contents failures a c (output_line margin text) r
  writes_after_margin a b c margin text r g w =
      rw (append_assoc margin text (newline ∷ [])) (writes_last contents failures a b c margin (output_line [] text) r g w)

  -- a write failed within the margin
  pub stops_in_margin : (a b : W) (margin text : Text) → StopsWithin contents failures a b margin → StopsWithin contents failures a b (output_line margin text)
  stops_in_margin a b margin text s =
      rw (append_assoc margin text (newline ∷ [])) (stops_early contents failures a b margin (text ++ newline ∷ []) s)

module _ {W : Type 0} {contents : W → Option Text} {failures : W → ℕ} where
  -- lines without a margin
  pub TakesAll-written : {a b : W} (text : List Text) → GoesOut contents failures a b (written [] text) → TakesAll (writer contents failures a) (writer contents failures b) text
  TakesAll-written _ g = record { written_all = g.written; none_failed = g.none_failed }

  pub TakesFront-written : {a b : W} (text : List Text) → StopsWithin contents failures a b (written [] text) → TakesFront (writer contents failures a) (writer contents failures b) text
  TakesFront-written _ s = record { front = s.front; rest = s.rest; cut = s.cut; written_front = s.written }

pub ruleset as_written = (writes_no_line, writes_one_line, writes_after_margin, stops_in_margin)
