use Rattle.{re_runs.proofs.Prelude.{rules, ◌≡◌, map, take, length, min, ap, ◌∙◌, sym, take_min, only, most_sets}, std.proofs.lemmas.List.take-map}
use Rattle.re_runs.proofs.run_finder.sets_of.Goals as goal

pub returns : goal.returns
returns c =
    let text = c.args.text.now in let ended : c.bytes.place ≡ min most_sets (length text) = search rules in
    c.bytes.invariant ∙ ap (λ n. map only (take n text)) ended ∙ ap (map only) (take_min most_sets text) ∙ sym (take-map only most_sets text)
