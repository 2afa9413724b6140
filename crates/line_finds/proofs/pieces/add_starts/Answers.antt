use Rattle.line_finds.proofs.Prelude.{◌+◌, ◌-◌, ◌∙◌, ◌++◌, ap, append-nil, map, sym, take_all}
use Rattle.line_finds.proofs.pieces.add_starts.Goals as goal

pub loop-other-init : goal.loop-other-init
loop-other-init c = sym (append-nil c.args.starts.now.items)

pub returns-clause-ok : goal.returns-clause-ok
returns-clause-ok c = c.loop-other.invariant ∙ ap (λ some. c.args.starts.now.items ++ map (λ other. other - c.args.start + c.args.at) some) (take_all c.loop-other.other-index c.args.others.now c.loop-other-test.false)
