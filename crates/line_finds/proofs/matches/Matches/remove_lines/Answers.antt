use Rattle.line_finds.proofs.lemmas.PairLaws.{left_before, left_after, left_below}
use Rattle.line_finds.proofs.matches.Matches.remove_lines.Goals as goal

pub returns-clause-before : goal.returns-clause-before
returns-clause-before c = λ k low. cc (c.remove_between.ensures, left_before c.args.from c.args.to c.requires k low c.self.inside.pairs.items, c.self.view_is)

pub returns-clause-after : goal.returns-clause-after
returns-clause-after c = λ k. cc (c.remove_between.ensures, left_after c.args.from c.args.to c.requires k c.self.inside.pairs.items, c.self.view_is)

pub returns-clause-within : goal.returns-clause-within
returns-clause-within c = λ size few h. rw c.remove_between.ensures (left_below c.args.from c.args.to c.requires size few c.self.inside.pairs.items (rw c.self.view_is h))
