use Rattle.{re_runs.proofs.{Prelude.{◌≤◌, ◌+◌, take, arith, length-take, StandsIn, HasNoNewline, lines_of, ⊤}, lemmas.{BlockLemmas.{passes_whole, passes_front, passed_within}, CountedBlocks.{stands_around, stands_nowhere}, Ranges.{line_around, none_around}, NextLines.{none_next, none_in_all, next_from, passed_without, free_lines}, Looks.look_in_line}}, std.proofs.lemmas.List.Elements.All-weaker, re_meter.proofs.lemmas.Adding.only_passed}
use Rattle.re_runs.proofs.block.next_line_with.Goals as goal

pub returns-in_default-clause-reported : goal.returns-in_default-clause-reported
returns-in_default-clause-reported c = none_in_all (StandsIn c.args.finder.now) _ c.requires (passed_without _ _ _ (passes_whole _ _ c.requires c.in_default.ensures.found))

pub returns-in_default-line_end-clause-reported : goal.returns-in_default-line_end-clause-reported
returns-in_default-line_end-clause-reported c =
    let block = c.args.block.now in let at = c.in-Some.at in let start = c.line_start-start.result in let begins = c.line_start-start.ensures in
    let high = c.in-Some.ensures.found.0.high in let low : start ≤ at = omega (arith, passed_within (λ _. ⊤) (take at block) start begins.lines, length-take at block) in
    none_next (StandsIn c.args.finder.now) block start c.requires (passed_without _ _ _ (passes_front _ _ _ _ c.in-Some.ensures.found begins.lines)) (none_around block start at low begins.last (omega arith) c.in_default-line_end.ensures)

pub returns-then-end-at-clause-reported : goal.returns-then-end-at-clause-reported
returns-then-end-at-clause-reported c = All-weaker HasNoNewline (λ line. ¬ StandsIn c.args.finder.now line) (stands_nowhere c.args.finder.now c.args.block.now c.in-Some.at c.in-Some.ensures.found.1 c.in-Some-line_end.end c.in-Some-line_end.ensures (omega (arith, rw c.needle.ensures at c.if-end-at.true))) (lines_of c.args.block.now) (free_lines _ c.requires)

pub returns-clause-reported : goal.returns-clause-reported
returns-clause-reported c =
    let text = c.args.finder.now in let block = c.args.block.now in let at = c.in-Some.at in let start = c.line_start-start.result in let begins = c.line_start-start.ensures in
    let low : start ≤ at = omega (arith, passed_within (λ _. ⊤) (take at block) start begins.lines, length-take at block) in
    let cut = line_around block start at low begins.last c.in-Some-line_end.end c.in-Some-line_end.ensures in
    next_from (StandsIn text) block start c.in-Some-line_end.end cut (passed_without _ _ _ (passes_front text block at start c.in-Some.ensures.found begins.lines))
    (stands_around text block at c.in-Some.ensures.found.1 start c.in-Some-line_end.end low (omega (arith, rw c.needle.ensures at c.if-end-at.false, c.in-Some-line_end.ensures.0)) cut)

pub returns-clause-steps : goal.returns-clause-steps
returns-clause-steps c =
    let block = c.args.block.now in let at = c.in-Some.at in let start = c.line_start-start.result in let begins = c.line_start-start.ensures in
    let high = c.in-Some.ensures.found.0.high in let low : start ≤ at = omega (arith, passed_within (λ _. ⊤) (take at block) start begins.lines, length-take at block) in
    only_passed (c.in-Some-line_end.end + 1) _ _ _ (look_in_line block start at c.in-Some-line_end.end (omega arith) begins.lines begins.last (line_around block start at low begins.last c.in-Some-line_end.end c.in-Some-line_end.ensures)) c.in-Some.ensures.counted
