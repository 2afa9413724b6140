use Rattle.re_strings.proofs.{Prelude.{arith}, lemmas.StepRowLaws.other_byte}
use Rattle.re_strings.proofs.step_rows.next_of.Goals as goal

pub returns-then-class-eq0-clause-right : goal.returns-then-class-eq0-clause-right
returns-then-class-eq0-clause-right c = λ all t are fails b lt is.
    other_byte all c.requires.trie t b (c.requires.classes.others b (let all = c.requires.steps.all in omega arith) (cc (is, c.if-class-eq0.true, c.len.ensures, c.len-width.ensures))) _
