use Rattle.grep_core.proofs.{Prelude.{◌≡◌, ◌≢◌, ◌-◌, length, take, sym, ap, ◌∙◌, arith, length-take, lines_of, terminated}, lemmas.BlockLines.{begins_none, begins_all, begins_last, begins_before}}
use Rattle.grep_core.proofs.search.recent.last_lines.Goals as goal

pub loop-init : goal.loop-init
loop-init c = record { within = omega arith; recent = begins_none _ c.requires }

pub returns-then-start-eq0-clause-begin : goal.returns-then-start-eq0-clause-begin
returns-then-start-eq0-clause-begin c =
    let zero_start : c.loop.start ≡ 0 = omega arith in
    begins_all _ c.requires _ _ (sym zero_start ∙ c.loop.invariant.recent) (omega (arith, c.loop-test.true))

pub loop-preserved : goal.loop-preserved
loop-preserved c =
    let next = c.lines_end-start.ensures in
    let some : c.loop.start ≢ 0 = λ none. omega (arith, none) in
    record {
      within = omega (arith, next.within, length-take (c.loop.start - 1) c.args.block.now);
      recent = begins_before _ c.requires _ _ c.loop.invariant.recent some _ next.within next.ended next.cut_off;
    }

pub returns-clause-begin : goal.returns-clause-begin
returns-clause-begin c =
    let lines = lines_of c.args.block.now in
    let all : c.loop.counter ≡ c.args.most = omega (arith, c.loop-test.false, c.loop.auto.counter-end) in
    begins_last _ c.requires _ (c.loop.invariant.recent ∙ ap (λ k. length (terminated (take (length lines - k) lines))) all)
