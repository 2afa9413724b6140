use Rattle.{std.{proofs.Common.{◌∙◌, ◌+◌, [], ◌∷◌, length, take, ap, sym, subst, arith, length-append}, specs.Prelude.Some}, line_chunks.specs.Working.Chunks.FitColumns, line_tests.proofs.Fitting.fits_more}
use Rattle.line_tests.proofs.findings.columns_of.Goals as goal

pub loop-i-preserved : goal.loop-i-preserved
loop-i-preserved g c =
    let is = c.in_ok-push.ensures.items in (
      omega (
        arith,
        ap length is,
        length-append c.loop-i.columns.items (Some c.in_ok-found.found ∷ []),
        c.loop-i.invariant.0,
      ),
      subst (FitColumns (take (c.loop-i.i + 1) c.args.lines.now)) (sym is)
          (fits_more c.args.lines.now c.loop-i.columns.items c.loop-i.i c.in_ok-found.found
          (omega (arith, c.loop-i-test.true, c.chunk_count-i-end.ensures)) c.loop-i.invariant.0 c.loop-i.invariant.1
          (c.in_ok-found.ensures ∙ ap length c.chunk.ensures)),
    )
