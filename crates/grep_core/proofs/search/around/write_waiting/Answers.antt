use Rattle.grep_core.proofs.{Prelude.{take_all, ◌≡◌, ◌+◌, ◌-◌, ◌<◌, ◌≤◌, [], length, get_or, arith, ◌∙◌, ap, sym, hyphen, rows_around, row_with}, lemmas.{RowLemmas.goes_nowhere, OneLineLemmas.is_err, WaitingRows.{length_rows, row_at, row_out, row_stops}}}
use Rattle.grep_core.proofs.search.around.write_waiting.Goals as goal

pub loop-k-init : goal.loop-k-init
loop-k-init g c = goes_nowhere _ _ _

pub returns-in_err-write_shown : goal.returns-in_err-write_shown
returns-in_err-write_shown g c =
    let w = c.args.request.now in
    let recent = c.args.recent.now.lines in
    let first = c.args.number - length recent in
    let inside : c.loop-k.k < length recent = omega (arith, c.loop-k-test.true, c.len-count.ensures) in
    let within : c.loop-k.k < length (rows_around w.options w.many w.name.now first recent) = omega (arith, inside, length_rows w.options w.many w.name.now first recent) in
    let place : first + c.loop-k.k ≡ c.args.number - (c.len-count.result - c.loop-k.k) = omega (arith, inside, c.len-count.ensures, c.requires) in
    let row = row_at w.options w.many w.name.now first recent c.loop-k.k inside ∙ ap (λ n. row_with w.options w.many w.name.now hyphen n (get_or recent c.loop-k.k [])) place
    ∙ ap (λ l. row_with w.options w.many w.name.now hyphen (c.args.number - (c.len-count.result - c.loop-k.k)) l) (sym c.line.ensures) in
    rw (is_err c.from_residual.result c.from_residual.ensures.1)
    (row_stops _ _ _ _ within row c.loop-k.invariant c.in_err-write_shown.ensures)

pub loop-k-preserved : goal.loop-k-preserved
loop-k-preserved g c =
    let w = c.args.request.now in
    let recent = c.args.recent.now.lines in
    let first = c.args.number - length recent in
    let inside : c.loop-k.k < length recent = omega (arith, c.loop-k-test.true, c.len-count.ensures) in
    let within : c.loop-k.k < length (rows_around w.options w.many w.name.now first recent) = omega (arith, inside, length_rows w.options w.many w.name.now first recent) in
    let place : first + c.loop-k.k ≡ c.args.number - (c.len-count.result - c.loop-k.k) = omega (arith, inside, c.len-count.ensures, c.requires) in
    let row = row_at w.options w.many w.name.now first recent c.loop-k.k inside ∙ ap (λ n. row_with w.options w.many w.name.now hyphen n (get_or recent c.loop-k.k [])) place
    ∙ ap (λ l. row_with w.options w.many w.name.now hyphen (c.args.number - (c.len-count.result - c.loop-k.k)) l) (sym c.line.ensures) in
    row_out _ _ _ _ within row c.loop-k.invariant c.in_ok-write_shown.ensures

pub returns : goal.returns
returns g c =
    let w = c.args.request.now in
    let recent = c.args.recent.now.lines in
    let first = c.args.number - length recent in
    let all : length (rows_around w.options w.many w.name.now first recent) ≤ c.loop-k.k = omega (arith, c.loop-k-test.false, c.len-count.ensures, length_rows w.options w.many w.name.now first recent) in
    rw (take_all c.loop-k.k (rows_around w.options w.many w.name.now first recent) all) at c.loop-k.invariant
