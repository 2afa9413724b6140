use Rattle.re_syntax.proofs.lemmas.ShapeLaws.{bar_taken, lead_taken, atom_taken}
use Rattle.re_syntax.proofs.shape.take.Goals as goal

pub returns-in-Bar-clause-read : goal.returns-in-Bar-clause-read
returns-in-Bar-clause-read c = rw c.in-Bar.is (bar_taken c.go_on.ensures)

pub returns-in-Lead-clause-read : goal.returns-in-Lead-clause-read
returns-in-Lead-clause-read c = rw c.in-Lead.is (lead_taken c.go_on-in-Lead.ensures)

pub returns-in-Atom-clause-read : goal.returns-in-Atom-clause-read
returns-in-Atom-clause-read c =
    rw c.in-Atom.is (atom_taken _ c.positions_of.ensures.counted c.positions_of.ensures.few c.go_on-in-Atom.ensures)
