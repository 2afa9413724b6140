use Rattle.{grep_core.proofs.{Prelude.{rules, ◌≡◌, [], ◌∷◌, ◌++◌, ◌-◌, length, drop, sym, ap, ◌∙◌, append_assoc, append-nil, arith, length-drop, take_all, lines_of, terminated, LastLines, with_lines, last_of}, lemmas.{BlockLines.{holds_none, holds_more, holds_last, last_free}, RecentLinesLemmas.few_held}}, re_syntax.proofs.lemmas.LinesLaws.lines_of-terminated}
use Rattle.grep_core.proofs.search.recent.RecentLines.push_block.Goals as goal

pub loop-line-init : goal.loop-line-init
loop-line-init c =
    let i = c.self.inside in
    let few = few_held (λ line. line.items) i.held i.limit i.lines.items c.self.invariant.0 (omega (arith, c.self.invariant.0, c.self.invariant.1)) in
    let block = c.args.block.now in
    let start = c.last_lines-start.result in
    let rest = take_all (length block - start) (drop start block) (omega (arith, length-drop start block)) in
    (tt, tt, [], c.into_iter-line-iterator.ensures.into_iter_gives ∙ c.split_file-line-items.ensures ∙ ap lines_of rest, rw (← c.self.view_is) (holds_none _ few))

pub loop-line-preserved : goal.loop-line-preserved
loop-line-preserved c =
    let s = c.loop-line.invariant in
    let line = c.in-Some.line.now in
    let left = append_assoc s.2 (line ∷ []) c.next.new.self ∙ ap (λ l. s.2 ++ l) (sym c.in-Some.ensures.steps) ∙ s.3 in
    (tt, tt, s.2 ++ line ∷ [], left, holds_more c.args.self.now s.2 line s.4 c.in_ok-push.ensures.ok)

pub returns : goal.returns
returns c =
    let s = c.loop-line.invariant in
    let h = c.args.self.now in
    let block = c.args.block.now in
    let none : c.loop-line.line-iterator ≡ [] = search rules in
    let limit = ap (λ (x : LastLines). x.limit) c.self.view_is in
    let begin = c.last_lines-start.ensures.begin ∙ ap (λ n. terminated (last_of n (lines_of block))) limit in
    let all =
    sym (append-nil s.2) ∙ ap (λ l. s.2 ++ l) (sym none) ∙ s.3 ∙ ap lines_of begin ∙ lines_of-terminated (last_of h.limit (lines_of block)) (last_free block c.requires h.limit) in
    s.4 ∙ ap (with_lines h) all ∙ holds_last h (lines_of block)
