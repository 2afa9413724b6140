use Rattle.re_runs.proofs.{Prelude.{rules, ℕ, ◌+◌, ◌<◌, ◌≤◌, slice_index, arith, members_of, RunStandsAt}, lemmas.RunLaws.{marks_stand, nowhere_on, finds_none, finds_some, found_pass}}
use Rattle.re_runs.proofs.set_finder.SetFinder.find_by.Goals as goal

pub first_marked-requires-clause-marks : goal.first_marked-requires-clause-marks
first_marked-requires-clause-marks g c =
    let small : (x : ℕ) → slice_index c.args.line.now x < 256 = search rules in
    marks_stand _ _ _ _ _ _ _ (found_pass c.self.inside.runs.items _ c.self.view_is c.self.invariant.wide c.self.invariant.first c.requires c.args.line.now small) c.next_marks-at.ensures.each c.next_marks-at.ensures.within
    c.narrowed-left.ensures.each c.narrowed-left.ensures.within

pub returns-in-Some : goal.returns-in-Some
returns-in-Some g c =
    let runs = members_of c.args.self.now in let line = c.args.line.now in
    let small : (x : ℕ) → slice_index line x < 256 = search rules in let at = c.next_marks-at.result.0 in
    let low : c.min-from.result ≤ c.runs.start = omega arith in
    finds_some runs line at (at + 32) c.in-Some.place (omega arith) (nowhere_on (RunStandsAt line runs) c.min-from.result at (λ k zero lt o. c.runs.invariant.1 k zero (omega arith) o) (λ k low lt o. c.next_marks-at.ensures.passed k low lt ((found_pass c.self.inside.runs.items _ c.self.view_is c.self.invariant.wide c.self.invariant.first c.requires line small) k o))) c.in-Some.ensures

pub runs-preserved : goal.runs-preserved
runs-preserved g c =
    let runs = members_of c.args.self.now in let line = c.args.line.now in
    let small : (x : ℕ) → slice_index line x < 256 = search rules in let at = c.next_marks-at.result.0 in
    let low : c.min-from.result ≤ c.runs.start = omega arith in
    (c.next_marks-at.ensures.on.1, nowhere_on (RunStandsAt line runs) at (at + 32) (nowhere_on (RunStandsAt line runs) c.min-from.result at (λ k zero lt o. c.runs.invariant.1 k zero (omega arith) o) (λ k low lt o. c.next_marks-at.ensures.passed k low lt ((found_pass c.self.inside.runs.items _ c.self.view_is c.self.invariant.wide c.self.invariant.first c.requires line small) k o))) c.in_default.ensures)

pub returns-then-line-self : goal.returns-then-line-self
returns-then-line-self g c = finds_none _ _ _ c.self.view_is c.self.invariant.wide _ 0 (omega arith) (λ k low lt o. omega arith)

pub returns : goal.returns
returns g c = finds_none _ _ _ c.self.view_is c.self.invariant.wide _ _ (omega arith) c.runs.invariant.1
