use Rattle.re_search.proofs.{Prelude.sym, lemmas.ReadingLaws.positions_string}
use Rattle.re_search.proofs.pattern.Pattern.positions.Goals as goal

pub returns-in-String : goal.returns-in-String
returns-in-String c fold counted = rw c.in-String.is (sym (positions_string c.in-String.text.now))

pub returns-in-Tree : goal.returns-in-Tree
returns-in-Tree c fold counted = rw c.in-Tree.is ((rw c.in-Tree.is at counted).0)
