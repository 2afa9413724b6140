use Rattle.{grep_io.proofs.{Prelude.{[], ◌≤◌, ◌+◌, length, refl, sym, ap, ◌∙◌, arith, most_lines}, lemmas.PassedLemmas.count_block}, re_trees.proofs.lemmas.LinesLaws.{all_none, lines_of-terminated}}
use Rattle.grep_io.proofs.input.lines.Lines.ready_lines.Goals as goal

pub returns-then-count-self : goal.returns-then-count-self
returns-then-count-self g c =
    let few : c.args.self.now.number + 0 ≤ most_lines = rw (← c.self.view_is) (omega arith) in
    record { rest = c.args.self.now.lines.ahead; ahead = refl; whole = ([], all_none, refl); counted = ap length (sym (lines_of-terminated [] all_none)); few = few }

pub returns : goal.returns
returns g c =
    let few : c.args.self.now.number + c.count_newlines-count.result ≤ most_lines = rw (← c.self.view_is) (omega arith) in
    record { rest = c.ready-bytes.ensures.ahead.0; ahead = c.ready-bytes.ensures.ahead.1; whole = c.ready-bytes.ensures.block; counted = c.count_newlines-count.ensures ∙ count_block c.ready-bytes.result.now c.ready-bytes.ensures.block; few = few }
