use Rattle.grep_cmd.proofs.lemmas.ShowLaws.{shows_front, shows_middle, shows_all, says_same}
use Rattle.grep_cmd.proofs.reports.show.Goals as goal

pub returns-in_err-status : goal.returns-in_err-status
returns-in_err-status g c =
    let r = c.in_err-status.ensures in
    shows_front g.W.CountedWrite.contents g.W.CountedWrite.failures c.args.session.now.inputs r.grep _ _ _ c.from_residual.ensures.0 r.wrote

pub returns-in_err-messages : goal.returns-in_err-messages
returns-in_err-messages g c =
    let r = c.in_ok-status.ensures in
    let m = says_same g.W.CountedWrite.contents g.W.CountedWrite.failures c.args.session.now.inputs r.grep c.report.new.out c.messages.new.out _ c.in_err-messages.ensures in
    shows_middle g.W.CountedWrite.contents g.W.CountedWrite.failures c.args.session.now.inputs r.grep _ _ r.wrote _ _ c.from_residual-in_err-messages.ensures.0 m

pub returns : goal.returns
returns g c =
    let r = c.in_ok-status.ensures in
    let m = says_same g.W.CountedWrite.contents g.W.CountedWrite.failures c.args.session.now.inputs r.grep c.report.new.out c.messages.new.out _ c.in_ok-messages.ensures in
    shows_all g.W.CountedWrite.contents g.W.CountedWrite.failures c.args.session.now.inputs r.grep c.args.out.now c.report.new.out r.wrote c.messages.new.out c.write_status.new.out c.write_status.result m
    (rw r.answered at c.write_status.ensures)
