use Rattle.re_needle.proofs.{Prelude.{◌≡◌, ◌≤◌, ◌∷◌, [], IsTrue, length, map, nat_eq, sym, ap, ◌∙◌, arith, eqb-true, false≢true, take_rest, drop-map, length-map, members, members_of, shown}, lemmas.NeedleLaws.run_is_needle, needle.set_needle.Goals.{then-not-is_common, else-not-is_common}}
use Rattle.re_runs.specs.declared.run_finder.RunFinder.TheVariants as r
use Rattle.re_needle.proofs.needle.set_needle.Goals as goal

pub returns : goal.returns
returns c =
    let sets = c.in_ok-sets.sets.items in let marks = c.args.marks.now in
    let run = rw take_rest at (c.in_ok-sets.ensures) in let stands = drop-map shown c.args.start marks ∙ run.1 in
    let some : 1 ≤ length (map members sets) = omega (arith, length-map sets members) in
    let all : IsTrue c.if-not-is_common.is_all → length (map members sets) ≡ length marks = λ reported. elim c.if-not-is_common.branch [
      | then-not-is_common w ↦ omega (arith, eqb-true w.len-then-not-is_common.result (length marks) (sym w.is_all-is ∙ reported), length-map sets members)
      | else-not-is_common w ↦ absurd (false≢true (sym (rw w.if-not-is_common.false) ∙ sym w.is_all-is ∙ reported))
    ] in
    let finder = c.in-Some.finder in let choice = rw c.in-Some.is at c.in_ok-finder.ensures.runs in
    let items : c.push.new.self.items ≡ c.in_ok-sets.sets ∷ [] = cc (c.in_ok-push.ensures.items, c.new-runs.ensures.items) in
    let one = ap members_of (choice ∙ ap (map (λ run. run.items)) items) in
    run_is_needle marks (r.Sets finder) (nat_eq c.args.start 0) c.if-not-is_common.is_all c.are_others_optional-suffices.result c.args.is_common (map members sets) run.0 c.args.start one stands some (eqb-true c.args.start 0) all (λ reported. let (before, after) = c.are_others_optional-suffices.ensures reported in let same : length (map members sets) ≡ c.len-2.result = omega (arith, length-map sets members) in (before, rw same after))
