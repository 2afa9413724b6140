use Rattle.grep_live.proofs.{Prelude.arith, lemmas.NumberLemmas.{none_below, all_suffice, fewer_here, suffices_here, place_found}}
use Rattle.grep_live.proofs.hits.place_after.Goals as goal

pub loop-low-init : goal.loop-low-init
loop-low-init c = record {
  within = omega (arith, c.line_count-high.ensures);
  fewer = none_below c.args.session.now.inputs c.args.k c.args.number;
  enough = all_suffice c.args.session.now.inputs c.args.k c.args.number c.line_count-high.result c.line_count-high.ensures c.requires;
}

pub loop-low-preserved-then-hits_before-number : goal.loop-low-preserved-then-hits_before-number
loop-low-preserved-then-hits_before-number c = record {
  within = c.loop-low.invariant.within;
  fewer = fewer_here c.args.session.now.inputs c.args.k c.args.number _ c.hits_before.result c.hits_before.ensures c.if-hits_before-number.true;
  enough = c.loop-low.invariant.enough;
}

pub loop-low-preserved : goal.loop-low-preserved
loop-low-preserved c = record {
  within = omega (arith, c.loop-low.invariant.within, c.loop-low-test.true);
  fewer = c.loop-low.invariant.fewer;
  enough = suffices_here c.args.session.now.inputs c.args.k c.args.number _ c.hits_before.result c.hits_before.ensures c.if-hits_before-number.false;
}

pub returns-clause-place : goal.returns-clause-place
returns-clause-place c = place_found c.args.session.now.inputs c.args.k c.args.number c.loop-low.low c.loop-low.high c.loop-low-test.false c.loop-low.invariant.fewer c.loop-low.invariant.enough
