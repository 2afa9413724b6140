use Rattle.grep_live.proofs.{Prelude.{refl, WriteFault}, lemmas.PageLemmas.shows_page}
use Rattle.grep_live.proofs.lists.page.Goals as goal

pub returns-in-Err : goal.returns-in-Err
returns-in-Err g c =
    shows_page _ g.W.CountedWrite.contents g.W.CountedWrite.failures _ _ _ _ _ _ _ WriteFault _ c.status-status.ensures c.in-Err.ensures tt

pub returns : goal.returns
returns g c =
    shows_page _ g.W.CountedWrite.contents g.W.CountedWrite.failures _ _ _ _ _ _ _ WriteFault _ c.status-status.ensures c.in-Ok.ensures refl
