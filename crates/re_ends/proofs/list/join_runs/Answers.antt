use Rattle.{std.proofs.Common.rules, re_ends.{proofs.{Prelude.{slice_index, ◌∙◌, arith, ap, get_or, refl, suc, ◌≡◌, ◌+◌, ◌-◌, ◌<◌, ◌≤◌, length}, lemmas.ListLaws.{joined_fits, joined_next, last_joined, no_runs, AreJoined}, list.join_runs.Goals.In-runs}, specs.declared.list.Run.Run}}
use Rattle.re_ends.proofs.list.join_runs.Goals as goal

abbrev none : Run
none = record { first = 0; more = 0 }

before : (c : In-runs) → (c.runs.k - 1 < length c.args.runs.now) × AreJoined c.args.runs.now c.args.buffer.now c.runs.buffer c.args.base c.runs.at (suc (c.runs.k - 1))
before c = (omega (arith, c.runs.invariant.some), rw (let one : c.runs.k ≡ suc (c.runs.k - 1) = omega (arith, c.runs-test.true) in one) at c.runs.invariant)

-- the run is below those that are joined, within the elements
fits : (c : In-runs) → ((get_or c.args.runs.now (c.runs.k - 1) none).first + ((get_or c.args.runs.now (c.runs.k - 1) none).more + 1) ≤ c.runs.at) × (c.args.base + c.runs.at ≤ length c.args.buffer.now)
fits c = let (lt, a) = before c in joined_fits c.args.runs.now none (c.runs.k - 1) lt c.requires.grow _ c.runs.buffer _ _ a

pub runs-init : goal.runs-init
runs-init c = last_joined _ none _ (omega (arith, c.if-count-eq0.false)) c.requires.grow _ _ (omega (arith, c.if-count-eq0.false)) c.requires.within

pub overflow_sub-at : goal.overflow_sub-at
overflow_sub-at c = let le = fits (goal.at.overflow_sub-at c).In-runs in omega (arith, le.0)

pub overflow_add-base : goal.overflow_add-base
overflow_add-base c = let le = fits (goal.at.overflow_add-base c).In-runs in search rules

pub copy_within-requires-clause-in_bounds : goal.copy_within-requires-clause-in_bounds
copy_within-requires-clause-in_bounds c = let le = fits (goal.at.copy_within-requires-clause-in_bounds c).In-runs in omega (arith, le.0, le.1, c.runs.invariant.len)

pub copy_within-requires-clause-dest_in_bounds : goal.copy_within-requires-clause-dest_in_bounds
copy_within-requires-clause-dest_in_bounds c = let le = fits (goal.at.copy_within-requires-clause-dest_in_bounds c).In-runs in omega (arith, le.0, le.1, c.runs.invariant.len)

pub runs-preserved : goal.runs-preserved
runs-preserved c =
    let (lt, a) = before (goal.at.runs-preserved c).In-runs in
    joined_next _ none _ lt c.requires.grow _ _ _ _ a _ _ (omega arith) c.copy_within.ensures.len c.copy_within.ensures.by_index

pub returns-then-count-eq0 : goal.returns-then-count-eq0
returns-then-count-eq0 c =
    let gone = ap length (no_runs _ c.if-count-eq0.true) in
    record { len = refl; within = omega (arith, gone, c.requires.base); joined = λ k lt. absurd (omega (arith, gone, lt)) }

pub returns : goal.returns
returns c =
    let a = rw (let none : c.runs.k ≡ 0 = omega (arith, c.runs-test.false) in none) at c.runs.invariant in
    record {
      len = a.len;
      within = omega (arith, a.within);
      joined = λ k lt. ap (λ m. slice_index c.runs.buffer (c.args.base + m + k)) (let same : c.runs.at ≡ c.runs.at - 0 = omega arith in same) ∙ a.joined k (omega arith) lt;
    }
