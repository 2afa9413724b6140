use Rattle.re_syntax.{proofs.{Prelude.{[], inr, sym, ap, ◌∙◌, up_to_word, err_from_is_err_and}, lemmas.{BuildingLaws.{builds_more, built_spelled}, ShapeLaws.{reaches_start, at_end, positions-choice, positions-branches}, SpelledUnique.spells_one}}, specs.Working.Builds.{build_all, nothing_built}}
use Rattle.re_syntax.proofs.reading.read.Goals as goal

pub tokens-init : goal.tokens-init
unfolding build_all
tokens-init c = ([], reaches_start _ _ c.at_start-shape.ensures.shows c.at_start-shape.ensures.counts, c.nothing-building.ensures)

pub returns-in_err-token-clause-refused : goal.returns-in_err-token-clause-refused
returns-in_err-token-clause-refused c =
    let q = err_from_is_err_and c.from_residual.result c.from_residual.ensures.1 in
    let (done, r, b) = c.tokens.invariant in
    rw (q.1, q.2) (inr (c.in_err-token.ensures.refused done r))

pub tokens-preserved : goal.tokens-preserved
tokens-preserved c =
    let (done, r, b) = c.tokens.invariant in
    (_, c.in_ok-token.ensures.read done r, builds_more done b c.in_ok-build.ensures.built)

pub returns-in_err-positions-clause-refused : goal.returns-in_err-positions-clause-refused
returns-in_err-positions-clause-refused c =
    let q = err_from_is_err_and c.from_residual-in_err-positions.result c.from_residual-in_err-positions.ensures.1 in
    let (done, r, b) = c.tokens.invariant in
    rw (q.1, q.2) (inr (c.in_err-positions.ensures.refused.ends c.args.syntax c.args.text.now done (at_end r c.tokens-test.false)))

pub returns-clause-read : goal.returns-clause-read
returns-clause-read c =
    let (done, r, b) = c.tokens.invariant in
    let cut = (c.in_ok-positions.ensures.whole.ends c.args.syntax c.args.text.now done (at_end r c.tokens-test.false)).0 in
    rw (c.in_ok-tree.ensures.made (build_all done nothing_built).level b.level) (built_spelled cut)

pub returns-clause-only : goal.returns-clause-only
returns-clause-only c other spelled = spells_one c.args.text.now c.args.syntax other _ spelled (returns-clause-read c)

pub returns-clause-counted : goal.returns-clause-counted
returns-clause-counted c =
    let (done, r, b) = c.tokens.invariant in
    let level = (build_all done nothing_built).level in
    (c.in_ok-positions.ensures.whole.ends c.args.syntax c.args.text.now done (at_end r c.tokens-test.false)).1
    ∙ ap up_to_word (sym (cc (c.in_ok-tree.ensures.made level b.level, positions-choice _, positions-branches _)))
