use Rattle.re_needle.proofs.{Prelude.{◌≡◌, ◌≤◌, IsTrue, length, map, nat_eq, refl, ◌∙◌, arith, eqb-true, take_rest, drop-map, length-map, only, shown}, lemmas.NeedleLaws.run_is_needle}
use Rattle.re_runs.specs.declared.run_finder.RunFinder.TheVariants as r
use Rattle.re_needle.proofs.needle.text_needle.Goals as goal

pub returns : goal.returns
returns c =
    let bytes = c.in_ok-bytes.bytes.items in let marks = c.args.marks.now in
    let run = rw take_rest at (c.in_ok-bytes.ensures) in let stands = drop-map shown c.args.start marks ∙ run.1 in
    let some : 1 ≤ length (map only bytes) = omega (arith, length-map bytes only) in
    let all : IsTrue (nat_eq c.len-2.result (length marks)) → length (map only bytes) ≡ length marks =
    λ reported. omega (arith, eqb-true c.len-2.result (length marks) reported, length-map bytes only) in
    rw (c.in_ok-finder.ensures, c.new.ensures, c.deref-2.ensures.value)
    (run_is_needle marks (r.Text bytes) (nat_eq c.args.start 0) (nat_eq c.len-2.result (length marks)) c.are_others_optional-suffices.result c.if-not-is_all.is_common (map only bytes) run.0 c.args.start refl stands some (eqb-true c.args.start 0) all (λ reported. let (before, after) = c.are_others_optional-suffices.ensures reported in let same : length (map only bytes) ≡ c.len-3.result = omega (arith, length-map bytes only) in (before, rw same after)))
