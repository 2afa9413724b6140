use Rattle.re_runs.proofs.{Prelude.{◌≡◌, ◌+◌, ◌-◌, map, only, sym, ◌∙◌, arith, false≢true, length-map, take_rest, one_run}, lemmas.RunLaws.{one_is, one_longest, run_rest, run_whole}}
use Rattle.re_runs.proofs.run_finder.text_end.Goals as goal

pub returns-then-not-begins_with : goal.returns-then-not-begins_with
returns-then-not-begins_with c =
    let place = c.args.place in let here : place - place ≡ 0 = omega arith in
    λ o. false≢true (sym c.if-not-begins_with.true ∙ (rw take_rest at c.begins_with.ensures).1 (rw here at (run_rest (one_run (map only c.args.text.now)) c.args.line.now place place (omega arith) o)))

pub returns : goal.returns
returns c =
    let place = c.args.place in let run = map only c.args.text.now in let here : place + 0 ≡ place = omega arith in
    one_longest _ _ _ _ (one_is run c.args.line.now place (rw here at (run_whole (one_run run) c.args.line.now place 0 c.requires ((rw take_rest at c.begins_with.ensures).0 c.if-not-begins_with.false)))) (omega (arith, length-map c.args.text.now only))
