use Rattle.re_auto.proofs.Prelude.{◌∙◌, get_or_read}
use Rattle.re_auto.proofs.step.automaton.Automaton.taking.Goals as goal

pub row-requires : goal.row-requires
row-requires c =
    let known = rw c.self.view_is at c.self.invariant in
    rw (c.deref.ensures.value, (get_or_read c.self.inside.tables.class_of.items c.args.byte c.index-class.result.now (rw known.taken.classes c.ranges.byte.fits) c.index-class.ensures 0)) (known.taken.within c.args.byte c.ranges.byte.fits)

pub returns : goal.returns
returns c =
    let known = rw c.self.view_is at c.self.invariant in
    (c.row.ensures.len ∙ known.width, λ q. rw (c.row.ensures.is, c.deref.ensures.value, (get_or_read c.self.inside.tables.class_of.items c.args.byte c.index-class.result.now (rw known.taken.classes c.ranges.byte.fits) c.index-class.ensures 0)) (known.taken.takes c.args.byte q c.ranges.byte.fits))
