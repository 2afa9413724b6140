use Rattle.{grep_live.proofs.Prelude.{ℕ, ◌-◌, [], ◌∷◌, ◌++◌, codes, length, map, spaced, hit_row}, grep_session.proofs.lemmas.Writing.{writes_err, one_went, one_stopped, stops_before, writes_after}}
use Rattle.grep_live.proofs.change_rows.write_rows.Goals as goal

pub returns-in_err-write_number_row : goal.returns-in_err-write_number_row
returns-in_err-write_number_row g c =
    let margin = c.args.form.margin.now in
    let row = λ (n : ℕ). codes "h" ++ spaced (c.args.stretch.k ∷ c.args.stretch.from ∷ c.args.removed ∷ (c.args.stretch.to - c.args.stretch.from) ∷ n ∷ []) in
    λ es meant hits are.
    let stopped = rw (c.count_hits-count.ensures es meant hits are) at c.in_err-write_number_row.ensures in
    writes_err g.W.CountedWrite.contents g.W.CountedWrite.failures margin _ _ _ c.from_residual.result c.from_residual.ensures.0
    (stops_before g.W.CountedWrite.contents g.W.CountedWrite.failures margin c.args.out.now c.write_number_row.new.out (row (length hits) ∷ []) (map (hit_row c.args.form.has_text) hits)
    (one_stopped g.W.CountedWrite.contents g.W.CountedWrite.failures margin c.args.out.now c.write_number_row.new.out (row (length hits)) stopped))

pub returns : goal.returns
returns g c =
    let margin = c.args.form.margin.now in
    let row = λ (n : ℕ). codes "h" ++ spaced (c.args.stretch.k ∷ c.args.stretch.from ∷ c.args.removed ∷ (c.args.stretch.to - c.args.stretch.from) ∷ n ∷ []) in
    λ es meant hits are.
    let went = rw (c.count_hits-count.ensures es meant hits are) at c.in_ok-write_number_row.ensures in
    writes_after g.W.CountedWrite.contents g.W.CountedWrite.failures margin c.args.out.now c.write_number_row.new.out c.write_hits.new.out (row (length hits) ∷ []) (map (hit_row c.args.form.has_text) hits) c.write_hits.result
    (one_went g.W.CountedWrite.contents g.W.CountedWrite.failures margin c.args.out.now c.write_number_row.new.out (row (length hits)) went) (c.write_hits.ensures es meant hits are)
