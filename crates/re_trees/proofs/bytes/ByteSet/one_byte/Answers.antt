use Rattle.re_trees.proofs.{Prelude.members, lemmas.SetBits.{not_empty, not_two, is_only}}
use Rattle.re_trees.proofs.bytes.ByteSet.one_byte.Goals as goal

pub returns-in_default : goal.returns-in_default
returns-in_default c = λ b h. not_empty (members c.args.self.now) b c.in_default.ensures.steps

pub returns-in-Some-next : goal.returns-in-Some-next
returns-in-Some-next c = λ b h.
    let (has, left) = c.in-Some.ensures.steps in
    not_two _ _ _ _ b has left c.in-Some-next.ensures.steps.0

pub returns-in-None : goal.returns-in-None
returns-in-None c = let (has, left) = c.in-Some.ensures.steps in is_only _ _ _ has left c.in-None.ensures.steps
