use Rattle.re_syntax.{proofs.{Prelude.{[], sym, ◌∙◌, choice, err_from_is_err_and}, lemmas.{BuildingLaws.built_spelled, ShapeLaws.{reaches_start, at_end, positions-choice, positions-branches}}}, specs.Working.Builds.{branches_of, build_all, nothing_built}}
use Rattle.re_syntax.proofs.reading.count_positions.Goals as goal

pub tokens-init : goal.tokens-init
tokens-init c = ([], reaches_start _ _ c.at_start-shape.ensures.shows c.at_start-shape.ensures.counts)

pub returns-in_err-beyond-clause-refused : goal.returns-in_err-beyond-clause-refused
returns-in_err-beyond-clause-refused c =
    let q = err_from_is_err_and c.from_residual.result c.from_residual.ensures.1 in
    let (done, r) = c.tokens.invariant in
    rw (q.1, q.2) (c.in_err-beyond.ensures.refused done r)

pub returns-in_err-count-clause-refused : goal.returns-in_err-count-clause-refused
returns-in_err-count-clause-refused c =
    let q = err_from_is_err_and c.from_residual-in_err-count.result c.from_residual-in_err-count.ensures.1 in
    let (done, r) = c.tokens.invariant in
    rw (q.1, q.2) (c.in_err-count.ensures.refused.ends c.args.syntax c.args.text.now done (at_end r c.tokens-test.false))

pub returns-clause-counted : goal.returns-clause-counted
returns-clause-counted c =
    let (done, r) = c.tokens.invariant in
    let (cut, count) = c.in_ok-count.ensures.whole.ends c.args.syntax c.args.text.now done (at_end r c.tokens-test.false) in
    let level = (build_all done nothing_built).level in
    record {
      expression = choice (branches_of level);
      spelled = built_spelled cut;
      counted = cc (sym (positions-choice _ ∙ positions-branches level));
    }
