use Rattle.{re_match.proofs.{Prelude.{rules, []}, lemmas.SetMatches.line_decides}, std.proofs.lemmas.List.nil_from_length}
use Rattle.re_match.proofs.string_set.StringSet.is_line.Goals as goal

pub returns-then-is_empty : goal.returns-then-is_empty
returns-then-is_empty c = rw (← c.self.view_is, nil_from_length c.args.line.now (search rules)) (line_decides _ [] c.self.invariant.2)

pub returns : goal.returns
returns c = rw (← c.self.view_is) (line_decides _ _ (c.is_line.ensures _ c.self.invariant.1.1))
