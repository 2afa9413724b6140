use Rattle.grep_core.proofs.{Prelude.{rules, arith, [], ◌∷◌, ◌≡◌, ◌∙◌, ◌<◌, ap, length, LastLines, with_lines}, lemmas.RecentLinesLemmas.pushed}
use Rattle.grep_core.proofs.search.recent.RecentLines.push.Goals as goal

pub returns-clause-ok : goal.returns-clause-ok
returns-clause-ok c =
    let i = c.self.inside in
    let is_line : c.replace-next.result.items ≡ c.args.line.now = search rules in
    let free : c.held_with-self-inside.result < length c.push_back.new.self.items = search rules in
    ap (λ ls. let r : LastLines = record { limit = i.limit; lines = ls } in r)
    (pushed (λ line. line.items) _ _ _ _
    c.self.invariant.0 (omega (arith, c.self.invariant.0, c.self.invariant.1)) c.held_with-self-inside.ensures c.in_ok-push_back.ensures.items is_line c.pop_front.ensures.rest free)
    ∙ ap (λ (h : LastLines). with_lines h (c.args.line.now ∷ [])) c.self.view_is
