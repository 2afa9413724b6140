use Rattle.line_chunks.proofs.{Prelude.arith, lemmas.NextLines.{passed_on, found_there, next_chunk, next_within, all_passed}}
use Rattle.line_chunks.proofs.entries.find_next.Goals as goal

pub overflow_add-place : goal.overflow_add-place
overflow_add-place c = omega (arith, next_within c.args.entries.now _ _ _ c.args.from c.next_line-next.result c.args.matched _ (omega (arith, c.loop-k-test.true)) c.index-entries-k.is c.loop-k.invariant.is c.next_line-next.ensures.after c.next_line-next.ensures.within)

pub returns-then-next-len-clause-within : goal.returns-then-next-len-clause-within
returns-then-next-len-clause-within c = next_within c.args.entries.now _ _ _ c.args.from c.next_line-next.result c.args.matched _ (omega arith) c.index-entries-k.is c.loop-k.invariant.is c.next_line-next.ensures.after c.next_line-next.ensures.within

pub returns-then-next-len-clause-passed : goal.returns-then-next-len-clause-passed
returns-then-next-len-clause-passed c = passed_on c.args.entries.now _ _ _ c.args.from c.next_line-next.result c.args.matched _ (omega arith) c.index-entries-k.is c.loop-k.invariant.is c.next_line-next.ensures.after c.next_line-next.ensures.within c.next_line-next.ensures.passed c.loop-k.invariant.passed

pub returns-then-next-len-clause-there : goal.returns-then-next-len-clause-there
returns-then-next-len-clause-there c =
    λ _. (let lt = c.if-next-len.true in
    found_there c.args.entries.now _ _ _ c.args.from c.next_line-next.result _ _ (omega arith) c.index-entries-k.is c.loop-k.invariant.is c.next_line-next.ensures.after c.next_line-next.ensures.within (omega arith) (c.next_line-next.ensures.there (omega arith)))

pub loop-k-preserved : goal.loop-k-preserved
loop-k-preserved c = record {
  is = next_chunk c.args.entries.now _ _ _ c.args.from c.next_line-next.result c.args.matched _ (omega arith) c.index-entries-k.is c.loop-k.invariant.is c.next_line-next.ensures.after c.next_line-next.ensures.within (omega arith);
  after = omega arith;
  passed = passed_on c.args.entries.now _ _ _ c.args.from c.next_line-next.result c.args.matched _ (omega arith) c.index-entries-k.is c.loop-k.invariant.is c.next_line-next.ensures.after c.next_line-next.ensures.within c.next_line-next.ensures.passed c.loop-k.invariant.passed;
}

pub returns-clause-within : goal.returns-clause-within
returns-clause-within c = omega (arith, all_passed c.args.entries.now c.loop-k.invariant.is (omega arith))

pub returns-clause-there : goal.returns-clause-there
returns-clause-there c = λ more. absurd (omega (arith, all_passed c.args.entries.now c.loop-k.invariant.is (omega arith)))
