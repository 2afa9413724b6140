use Rattle.grep_io.proofs.{Prelude.{◌+◌, refl}, lemmas.PassedLemmas.{all_ahead, none_at_end, passes_block, stage_stays}}
use Rattle.grep_io.proofs.input.lines.Lines.pass.Goals as goal

pub pass-requires : goal.pass-requires
pass-requires g c =
    let ready = rw (← c.self.view_is) at c.requires.2 in
    all_ahead g.R.CountedRead.remaining g.R.CountedRead.failures c.requires.1 ready

pub invariant_of-self : goal.invariant_of-self
invariant_of-self g c = stage_stays g.R.CountedRead.remaining g.R.CountedRead.failures g.R.CountedRead.may_be_read c.self.inside.stage c.pass.new.self.ahead c.self.inside.reader c.args.bytes c.self.invariant c.pass.ensures.ahead

pub returns-clause-passed : goal.returns-clause-passed
returns-clause-passed g c =
    let a = c.self.inside in
    let ready = rw (← c.self.view_is) at c.requires.2 in
    rw (← c.self.view_is) (passes_block g.R.CountedRead.remaining g.R.CountedRead.failures _ (record { lines = record { reader = a.reader; ahead = c.pass.new.self.ahead; line = c.pass.new.self.line; stage = a.stage }; number = a.number + c.args.count }) _ _ _ c.requires.1 ready (none_at_end g.R.CountedRead.remaining g.R.CountedRead.failures g.R.CountedRead.may_be_read a.stage a.window.ahead a.reader c.self.invariant) c.pass.ensures.ahead refl refl refl)
