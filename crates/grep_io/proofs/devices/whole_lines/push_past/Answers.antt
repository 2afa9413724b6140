use Rattle.grep_io.proofs.{Prelude.{arith, rules}, lemmas.WriteLemmas.written_further}
use Rattle.grep_io.proofs.devices.whole_lines.push_past.Goals as goal

pub loop-at-preserved : goal.loop-at-preserved
loop-at-preserved g c = record {
  within = omega (arith, c.in-Some.ensures.bound);
  written = written_further _ _ _ c.loop-at.at c.in-Some.count c.args.bytes.now (omega (arith, c.in-Some.ensures.bound)) c.loop-at.invariant.written c.in-Some.ensures.bytes;
  none_failed = search rules;
}
