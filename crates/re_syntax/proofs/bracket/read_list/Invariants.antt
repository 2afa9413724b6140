use Rattle.re_syntax.{proofs.{Prelude.{◌≡◌, length, left, members}, lemmas.BracketLists.GoesOn}, specs.Working.BracketSteps.from_place}
use Rattle.re_syntax.proofs.bracket.read_list.Given as goal

-- the elements up to the cursor were read, and the set has what they add
abbrev pub invariant-loop-place : goal.invariant-loop-place
invariant-loop-place l = record {
  same_text : l.cursor.text ≡ l.fn.cursor.text;
  goes_on : GoesOn (from_place l.fn.opening l.fn.cursor) (left l.fn.cursor) (left l.cursor) l.place (members l.set);
}

abbrev pub decreases-loop-place : goal.decreases-loop-place
decreases-loop-place l = length (left l.cursor)
