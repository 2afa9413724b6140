use Rattle.{re_runs.proofs.Prelude.{rules, ◌≡◌, map, take, ap, ◌∙◌, sym, take_min, members, most_sets}, std.proofs.lemmas.List.take-map}
use Rattle.re_runs.proofs.run_finder.first_sets.Goals as goal

pub returns : goal.returns
returns c =
    let items : c.extend_from_slice.new.self.items ≡ take c.min.result c.args.sets.now = search rules in
    ap (map members) (items ∙ rw c.min.ensures (take_min most_sets c.args.sets.now)) ∙ sym (take-map members most_sets c.args.sets.now)
