-- The work of a look over a line.
use Rattle.{re_match.proofs.{Prelude.{Bool, Option, min, inl, inr, length, arith, AddsUpTo, Text, Expression, LooksOver}}, re_meter.{specs.Meters.Steps, proofs.lemmas.Adding.{adds_none, only_passed}}, re_runs.{specs.Working.Runs.longest_of, proofs.lemmas.Looks.look_within}}

module _ (e : Expression) (line : Text) where
  -- no byte is passed twice
  pub looks_once : {said : Option Bool} (old new : Steps) → LooksOver e line said old new → AddsUpTo 0 (length line) old new
  looks_once old new (inl none) = rw none.1 (adds_none 0 (length line) old)
  looks_once old new (inr (inl l)) = only_passed (length line) _ old new (look_within line l.found) l.passed
  looks_once old new (inr (inr l)) = only_passed (length line) (min (longest_of l.runs) (length line)) old new (omega arith) l.passed
