use Rattle.{re_needle.proofs.{Prelude.{◌≡◌, map, sym, ap, ◌∙◌, subst, alt, members, members_of, sets_of_each, branches_within, RunIsNeeded, RunBegins, RunSuffices, IsJustRun}, lemmas.{BranchLaws.{runs_needed, runs_begin, runs_just, runs_suffice}, NeedleLaws.within_needle}}, re_runs.proofs.lemmas.RunLaws.map-map}
use Rattle.re_needle.proofs.choice_needle.needle_around.Goals as goal

pub returns : goal.returns
returns c =
    let found = c.in-Some.field-0 in let es = branches_within c.args.before.now c.args.branches.now c.args.after.now in
    let choice = rw c.in-Some-2.is at c.in_ok-finder.ensures.runs in
    let same : members_of c.in-Some-2.finder ≡ sets_of_each found.runs.items = cc (map-map (map members) (λ run. run.items) found.runs.items) in
    let each = rw c.in-Some.is at c.in_ok-runs.ensures in
    within_needle _ _ _ _ (record {
      needed = rw same (runs_needed found.are_first found.are_all found.suffice _ es each);
      some = rw c.in-Some-2.is at c.in_ok-finder.ensures.some;
      first = λ reported. rw same (runs_begin _ found.are_all found.suffice _ es each reported);
      all = λ reported. rw same (runs_just found.are_first _ found.suffice _ es each reported);
      enough = λ reported. rw same (runs_suffice found.are_first found.are_all _ _ es each reported);
    })
