-- What a prefilter has for an expression.
use Rattle.std.specs.Prelude.{◌≡◌, false}
use Rattle.re_trees.specs.Expression.{Expression}
use Rattle.re_needle.specs.Working.Needles.{HasNoBegin, IsNeedleFor}
use Rattle.re_match.specs.declared.prefilter.Prefilter.{Prefilter}

-- its needle is that of the expression, and it says so if that has a `^`
pub record IsPrefilterFor (e : Expression) (prefilter : Prefilter) : Type 0 where
  pub needle : IsNeedleFor e prefilter.needle
  pub begin : prefilter.has_begin ≡ false → HasNoBegin e
