use Rattle.{re_ends.proofs.{Prelude.{length, arith, sym, ◌∙◌, ◌≡◌, Bool, true, false, false≢true, refl}, lemmas.KeptLaws.row_at}, std.{proofs.{lemmas.Option.slice_get_read, Common.not}, specs.Cmp.Lexicographic.same_text}, re_auto.proofs.lemmas.RowLemmas.row_within}
use Rattle.re_ends.proofs.kept.KeptSteps.find.Goals as goal

not_false : (b : Bool) → false ≡ not b → true ≡ b
not_false true _ = refl
not_false false is = absurd (false≢true is)

pub overflow_mul-result : goal.overflow_mul-result
overflow_mul-result c =
    let right = c.requires.1 in
    let fits = row_within c.in-Some.known.now (length c.args.self.now.rows.items) c.args.self.now.width (omega (arith, c.if-number-len.false, c.len.ensures, c.args.self.now.rows.ok)) in omega (arith, fits, right.rows.small)

pub returns : goal.returns
returns c =
    row_at _ _ _ (omega (arith, c.if-number-eq0.false))
    (slice_get_read c.args.self.now.rows.items c.len.result c.in-Some.known.now c.index.result.now (omega (arith, c.len.ensures, c.args.self.now.rows.ok)) c.if-number-len.false c.index.ensures)
    (sym c.as_slice-2.ensures.value ∙ sym (same_text c.as_slice.result.now c.as_slice-2.result.now (not_false _ (sym c.if-ne.false ∙ c.ne.ensures))) ∙ c.as_slice.ensures.value)
