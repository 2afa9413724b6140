use Rattle.line_chunks.proofs.{Prelude.{arith, ◌≡◌, ◌-◌}, lemmas.Pieces.{adds_none, piece_next}}
use Rattle.line_chunks.proofs.new_chunks.add_lines.Goals as goal

pub loop-at-init : goal.loop-at-init
loop-at-init c =
    let zero : c.args.from - c.args.from ≡ 0 = omega arith in
    record {
      more = omega arith;
      within = c.requires.in_order;
      lines = adds_none _ _ (rw zero);
    }

pub loop-at-preserved : goal.loop-at-preserved
loop-at-preserved c = record {
  more = omega (arith, c.in_ok-at.ensures.more);
  within = c.in_ok-at.ensures.within;
  lines = piece_next _ _ _ c.args.chunk.now c.args.from c.loop-at.at c.in_ok-at.at c.loop-at.invariant.more (omega (arith, c.in_ok-at.ensures.more)) c.loop-at.invariant.lines c.in_ok-at.ensures.lines;
}

pub returns : goal.returns
returns c =
    let last : c.loop-at.at ≡ c.args.to = omega arith in
    rw last at c.loop-at.invariant.lines
