use Rattle.grep_cmd.proofs.{Prelude.WriteFault, lemmas.ListingLaws.{shows_hits_front, shows_hits_whole}}
use Rattle.grep_cmd.proofs.reports.show_page.Goals as goal

pub returns-in_err-status : goal.returns-in_err-status
returns-in_err-status g c =
    shows_hits_front _ g.W.CountedWrite.contents g.W.CountedWrite.failures (Unit {0}) WriteFault WriteFault c.args.session.now.inputs _ _ _ _ _ _ c.from_residual.ensures.0 c.in_err-status.ensures

pub returns : goal.returns
returns g c =
    shows_hits_whole _ g.W.CountedWrite.contents g.W.CountedWrite.failures (Unit {0}) WriteFault WriteFault c.args.session.now.inputs _ _ _ _ _ _ _ c.in_ok-status.ensures c.write_status.ensures
