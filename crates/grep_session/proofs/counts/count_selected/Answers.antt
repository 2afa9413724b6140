use Rattle.grep_session.proofs.{Prelude.{◌≡◌, ◌-◌, length, take, length-take, ◌∙◌, ap, sym, arith, all_of}, lemmas.CountLaws.{count_by_matched, matched_selected}}
use Rattle.grep_session.proofs.counts.count_selected.Goals as goal

pub overflow_sub-result : goal.overflow_sub-result
overflow_sub-result c =
    let lines = all_of c.args.lines.now in
    let few = (count_by_matched c.args.options.now (take c.args.place lines) c.hits_before-matched.result c.hits_before-matched.ensures c.if-options.true).0 in
    omega (arith, length-take c.args.place lines)

pub returns-then-options : goal.returns-then-options
returns-then-options c =
    let lines = all_of c.args.lines.now in
    let many : length (take c.args.place lines) ≡ c.args.place = omega (arith, length-take c.args.place lines) in
    ap (λ n. n - c.hits_before-matched.result) (sym many) ∙ (count_by_matched c.args.options.now (take c.args.place lines) c.hits_before-matched.result c.hits_before-matched.ensures c.if-options.true).1

pub returns : goal.returns
returns c = c.hits_before-matched.ensures ∙ sym (matched_selected c.args.options.now c.if-options.false (take c.args.place (all_of c.args.lines.now)))
