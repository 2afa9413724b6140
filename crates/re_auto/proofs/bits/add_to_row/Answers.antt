use Rattle.re_auto.proofs.{Prelude.{◌∙◌, Has}, lemmas.BitLemmas.{row_added, row_long}}
use Rattle.re_auto.proofs.bits.add_to_row.Goals as goal

pub returns-clause-added : goal.returns-clause-added
returns-clause-added c = row_added c.args.table.now c.add_within.new.into c.args.width c.args.r c.requires.room (c.add_within.ensures.len ∙ row_long c.args.table.now c.args.width c.args.r c.requires.room) (Has c.args.row.now) c.add_within.ensures.added
