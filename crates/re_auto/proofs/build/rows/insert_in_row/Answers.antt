use Rattle.re_auto.proofs.{Prelude.{◌∙◌, ◌≡◌}, lemmas.BitLemmas.{row_added, row_long}}
use Rattle.re_auto.proofs.build.rows.insert_in_row.Goals as goal

pub returns-clause-added : goal.returns-clause-added
returns-clause-added c = row_added c.args.table.now c.insert.new.into c.args.width c.args.r c.requires.room (c.insert.ensures.len ∙ row_long c.args.table.now c.args.width c.args.r c.requires.room) (λ q. q ≡ c.args.e) c.insert.ensures.inserted
