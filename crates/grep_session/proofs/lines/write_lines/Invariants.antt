use Rattle.grep_session.proofs.{Prelude.{◌-◌, ◌≤◌, List, All, length, map, Expression, all_of, line_text, IsKept, SelectedFrom}, lemmas.PlaceLemmas.ShownTo}
use Rattle.grep_session.proofs.lines.write_lines.Given as goal

-- the rows of the lines before the next shown one were written
abbrev pub invariant-places : goal.invariant-places
invariant-places g l =
    let w = l.layout.request in
    let lines = all_of l.lines in
    record {
      shown : (es : List Expression) → All (IsKept es w.options) lines → ShownTo (record { contents = g.W.CountedWrite.contents; failures = g.W.CountedWrite.failures; margin = l.layout.margin.now; es = es; options = w.options; many = w.many }) w.name.now l.context (map line_text lines) l.fn.some l.fn.out l.out l.k l.begins l.some;
      near : SelectedFrom w.options lines (l.k - l.context.after) l.near;
      within : l.k ≤ length lines;
    }

abbrev pub decreases-places : goal.decreases-places
decreases-places g l = length (all_of l.lines) - l.k
