use Rattle.re_ends.proofs.{Prelude.{arith, ◌∙◌}, lemmas.KeptLaws.{row_inside, row_read}}
use Rattle.re_ends.proofs.kept.KeptSteps.row.Goals as goal

pub index-requires : goal.index-requires
index-requires c = let inside = row_inside c.requires.sound.1 c.requires.row.2 in omega (arith, inside, c.args.self.now.rows.ok)

pub returns : goal.returns
returns c = λ end of row. c.deref.ensures.value ∙ row_read c.requires.sound.1 row c.index.result.now c.index.ensures
