use Rattle.{re_ends.{proofs.{Prelude.{arith, ◌+◌, ◌∙◌, ap, get_or, refl}, lemmas.KeptLaws.{cell_within, class_read}}, specs.Working.KeptSteps.no_step}, std.proofs.lemmas.List.get_or_read_under}
use Rattle.re_ends.proofs.kept.KeptSteps.step.Goals as goal

pub returns-clause-is : goal.returns-clause-is
returns-clause-is c =
    let right = c.requires.sound.1 in
    let class = class_read right c.index.result.now c.ranges.byte.fits c.index.ensures in
    let inside = cell_within right c.requires.row.2 c.args.byte c.ranges.byte.fits in
    get_or_read_under c.args.self.now.cells.items (c.args.row + c.index.result.now) _ c.index-2.result.now no_step c.index-2.ensures (omega (arith, inside, class)) refl ∙ ap (λ n. get_or c.args.self.now.cells.items (c.args.row + n) no_step) class

pub index-requires-2 : goal.index-requires-2
index-requires-2 c =
    let right = c.requires.sound.1 in
    let class = class_read right c.index.result.now c.ranges.byte.fits c.index.ensures in
    let inside = cell_within right c.requires.row.2 c.args.byte c.ranges.byte.fits in omega (arith, inside, class, c.args.self.now.cells.ok)
