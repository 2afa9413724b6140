use Rattle.grep_live.proofs.{Prelude.{[], arith, get_or, length, ◌<◌, ◌≤◌}, lemmas.PageLemmas.{files_none, files_on, files_all, hits_at, view_long}}
use Rattle.grep_live.proofs.page_rows.count_all.Goals as goal

pub loop-k-init : goal.loop-k-init
loop-k-init c = λ es meant view are. files_none view

pub loop-k-preserved : goal.loop-k-preserved
loop-k-preserved c =
    let session = c.args.session.now.inputs in
    let k = c.loop-k.k in
    let there : k < length session.files = omega (arith, c.loop-k-test.true, c.file_count-k-end.ensures) in
    λ es meant view are.
    let inside : k < length view = omega (arith, view_long es session view are) in
    files_on view k c.loop-k.total c.count_file-count.result c.saturating_add-total.result inside (c.loop-k.invariant es meant view are) (c.count_file-count.ensures es meant (get_or view k []) (hits_at es session view k there are)) c.saturating_add-total.ensures

pub returns : goal.returns
returns c =
    let session = c.args.session.now.inputs in
    λ es meant view are.
    let past : length view ≤ c.loop-k.k = omega (arith, c.loop-k-test.false, c.file_count-k-end.ensures, view_long es session view are) in
    files_all view c.loop-k.k c.loop-k.total past (c.loop-k.invariant es meant view are)
