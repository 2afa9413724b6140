use Rattle.re_strings.proofs.{Prelude.{◌≡◌, ℕ, ◌+◌, ◌<◌, ◌≤◌, ◌++◌, ◌∷◌, [], inl, inr, take, length, map, slice_get, sym, ap, ◌∙◌, arith, append_assoc, get_or_default, All-push, cases_lt, Branch, IsBranch, branch_at, no_branch, text_at}, lemmas.SetBranches.{run_after, run_branch, run_text, child_more, found_still, found_last, run_found, row_done, longer}}
use Rattle.re_strings.proofs.growth.expand.Goals as goal

pub runs-preserved-in_ok-add_branch : goal.runs-preserved-in_ok-add_branch
runs-preserved-in_ok-add_branch c =
    let texts = map (λ s. s.now) c.args.strings.now in
    let br = branch_at c.args.branches.now.items c.args.node in
    let is = c.requires.are c.args.node no_branch c.requires.within in
    let read = c.index-branch.ensures ∙ get_or_default c.args.branches.now.items c.args.node c.index-branch.result.now no_branch c.requires.within in
    let high : c.index-branch.result.now.high ≡ br.high = rw read in
    let deep : c.index-branch.result.now.depth ≡ br.depth = rw read in
    let key : c.key_at-key.result ≡ slice_get (text_at texts c.runs.at) br.depth = cc c.key_at-key.ensures.reported in
    let here = sym key ∙ c.in-Some.is in
    let end : ℕ = c.run_end-end.result in
    let on : c.runs.at < end = c.run_end-end.ensures.within.0 in
    let top : end ≤ br.high = omega arith in
    let before = c.runs.invariant.before c.runs-test.true in
    let same : (i : ℕ) → c.runs.at < i → i < end → slice_get (text_at texts i) br.depth ≡ slice_get (text_at texts c.runs.at) br.depth =
    λ i a b. cc (c.run_end-end.ensures.same i a b) in
    let other : end < br.high → slice_get (text_at texts end) br.depth ≡ slice_get (text_at texts c.runs.at) br.depth → ⊥ =
    λ lt e. c.run_end-end.ensures.other (omega arith) (cc) in
    let nb : Branch = record { byte = c.in-Some.byte; depth = c.index-branch.result.now.depth + 1; low = c.runs.at; high = end } in
    let level : nb.depth ≡ br.depth + 1 = rw deep in
    let made : IsBranch texts nb = rw level
    (run_branch _ c.requires.ordered br is _ _ _ c.runs.invariant.low on top here before same other) in
    let grown : c.add_branch.new.branches.items ≡ c.runs.branches.items ++ nb ∷ [] = c.in_ok-add_branch.ensures in
    rw grown (record {
      low = omega arith;
      grown = (c.runs.invariant.grown.0 ++ nb ∷ [], ap (λ xs. xs ++ nb ∷ []) c.runs.invariant.grown.1 ∙ append_assoc c.args.branches.now.items c.runs.invariant.grown.0 (nb ∷ []));
      are = All-push (IsBranch texts) c.runs.branches.items nb c.runs.invariant.are made;
      before = λ lt. run_after texts c.requires.ordered br is c.runs.at end c.runs.invariant.low on before same other (omega arith);
      child = child_more texts br c.runs.branches.items nb (length c.args.branches.now.items) c.runs.invariant.child
          (ap (λ d. take d (text_at texts c.runs.at)) level
          ∙ run_text texts c.requires.ordered br is c.runs.at end c.in-Some.byte c.runs.invariant.low on top here before same other);
      covered = λ i b from to at_i.
          elim (cases_lt i c.runs.at) [
            | inl early ↦ found_still texts br _ nb _ b (c.runs.invariant.covered i b from early at_i)
            | inr late ↦ found_last texts br _ nb _ (longer _ _ c.runs.invariant.grown.1)
                (run_found _ _ _ _ _ here same i b late to at_i)
          ];
    })

pub returns-clause-row : goal.returns-clause-row
returns-clause-row c =
    let texts = map (λ s. s.now) c.args.strings.now in
    let br = branch_at c.args.branches.now.items c.args.node in
    let read = c.index-branch.ensures ∙ get_or_default c.args.branches.now.items c.args.node c.index-branch.result.now no_branch c.requires.within in
    let high : c.index-branch.result.now.high ≡ br.high = rw read in
    row_done _ br (c.requires.are c.args.node no_branch c.requires.within) _ _ _ (omega arith)
    c.runs.invariant.child c.runs.invariant.covered

pub returns-clause-grown : goal.returns-clause-grown
returns-clause-grown c = c.runs.invariant.grown

pub returns-clause-are : goal.returns-clause-are
returns-clause-are c = c.runs.invariant.are
