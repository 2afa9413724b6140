use Rattle.re_needle.proofs.Prelude.{map, take, alt, cat, expression_of, HasNoBegin}
use Rattle.re_needle.proofs.anchors.+begin.Given as goal

abbrev pub invariant-some_has_begin-parts : goal.invariant-some_has_begin-parts
invariant-some_has_begin-parts l = record { all : HasNoBegin (cat (map expression_of (take l.i l.parts))); one : HasNoBegin (alt (map expression_of (take l.i l.parts))) }
