use Rattle.grep_live.proofs.{Prelude.{◌<◌, length, arith, file_at}, lemmas.StatusLemmas.{bare_more, some_hit, no_hit}}
use Rattle.grep_live.proofs.status.any_hit.Goals as goal

pub returns-then-next-lines : goal.returns-then-next-lines
returns-then-next-lines c =
    let inside : c.loop-k.k < length c.args.session.now.inputs.files = omega (arith, c.loop-k-test.true, c.file_count-k-end.ensures) in
    let within : c.next_hit-next.result < length (file_at c.args.session.now.inputs.files c.loop-k.k).lines = omega (arith, c.if-next-lines.true, c.line_count-lines.ensures) in
    λ es meant. some_hit c.args.session.now.inputs c.loop-k.k c.next_hit-next.result inside within es meant (c.next_hit-next.ensures.hit es meant within)

pub loop-k-preserved : goal.loop-k-preserved
loop-k-preserved c = bare_more c.args.session.now.inputs c.loop-k.k c.next_hit-next.result c.loop-k.invariant c.next_hit-next.ensures.passed (omega (arith, c.line_count-lines.ensures, c.if-next-lines.false))

pub returns : goal.returns
returns c = no_hit c.args.session.now.inputs c.loop-k.k (omega (arith, c.loop-k-test.false, c.file_count-k-end.ensures)) c.loop-k.invariant
