use Rattle.re_steps.proofs.{Prelude.{add-one, expression_of}, lemmas.StageLaws.{goes_to, goes_built}}
use Rattle.re_steps.proofs.sets.SetPair.pass.Goals as goal

pub returns-then-not-begins-clause-goes : goal.returns-then-not-begins-clause-goes
returns-then-not-begins-clause-goes c = λ first cache none plain goes.
    goes_to (expression_of c.args.automaton.now) c.args.line.now first c.args.self.now.current cache c.args.place c.next_beginning.result c.args.meter.now c.next_beginning.new.meter
    c.next_beginning.ensures.within.0 (c.is_nowhere.ensures.0 c.if-is_nowhere.true) plain c.next_beginning.ensures.passed c.next_beginning.ensures.counted c.next_beginning.ensures.none goes

pub returns-clause-goes : goal.returns-clause-goes
returns-clause-goes c = λ first cache none plain goes.
    rw (add-one c.args.place) (goes_built _ _ _ _ _ _ _ _ _ _
    none plain c.advance.ensures.next c.advance.ensures.counted goes)
