use Rattle.{re_needle.proofs.{Prelude.{◌≡◌, ◌++◌, [], ◌∷◌, ◌&&◌, IsTrue, AllZip, Bool, Expression, length, map, take, sym, ap, ◌∙◌, subst, arith, eqb-true, nat_eq, map-append, length-map, expression_of, members, sets_of_each, IsRunOf, branch_within, branches_within}, lemmas.{BranchLaws.{branch_more, front_of_branch}, NeededLaws.map_grown}}, re_runs.specs.Working.Runs.longest_of, std.proofs.lemmas.Bool.and_parts}
use Rattle.re_needle.proofs.choice_needle.branch_runs.Goals as goal

pub branches-preserved : goal.branches-preserved
branches-preserved c =
    let e = branch_within c.args.before.now (expression_of c.index-branches-place.result) c.args.after.now in
    let front = map members c.in_ok-run.run'.items in let its = rw c.deref.ensures.value at c.in_ok-needle.ensures in
    let (of, run, one) = rw c.in-Some.is at (its e c.in_ok-marks.ensures) in
    let is_whole = nat_eq c.len.result c.longest.result in
    let long : IsTrue is_whole → length front ≡ length run = λ reported. omega (arith, eqb-true c.len.result c.longest.result reported, length-map c.in_ok-run.run'.items members, ap longest_of one) in
    let of_flag : (flag : Bool) → IsTrue (flag && is_whole) → IsTrue flag × (length front ≡ length run) = λ flag reported. let (set, is) = and_parts flag is_whole reported in (set, long is) in
    let more =
    ap sets_of_each c.in_ok-push.ensures.items ∙ map-append (λ r. map members r.items) c.branches.found.runs.items (c.in_ok-run.run' ∷ []) in
    let each = branch_more c.branches.found.are_first c.branches.found.are_all c.branches.found.suffice (sets_of_each c.branches.found.runs.items) (branches_within c.args.before.now (take c.branches.place c.args.branches.now) c.args.after.now)
    c.branches.invariant (front_of_branch e _ _ _ _ of one (c.in_ok-run.ensures run one) (of_flag c.in-Some.needle.is_all) (of_flag c.in-Some.needle.suffices)) in
    rw (map_grown (λ b. branch_within c.args.before.now (expression_of b) c.args.after.now) c.args.branches.now c.branches.place c.branches-test.true c.index-branches-place.is) (rw more each)
