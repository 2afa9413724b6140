use Rattle.line_finds.proofs.{Prelude.{◌≡◌, pairs_of}, lemmas.MarkLaws.marked_of_is}
use Rattle.line_finds.proofs.matches.Matches.add_marks_of.Goals as goal

pub returns-clause-marks : goal.returns-clause-marks
returns-clause-marks c =
    let is : pairs_of c.deref.result.now ≡ c.args.self.now = cc (c.deref.ensures.value, c.self.view_is) in
    λ k. cc (c.mark_lines_of.ensures.set, marked_of_is c.args.first c.args.count c.deref.result.now c.args.marks.now.items (rw is c.requires) k)
