use Rattle.re_search.proofs.{Prelude.{◌∙◌, ◌<◌, ◌^◌, length, refl, sym, inl, inr, rules, true≢false, Fixed}, lemmas.ReadingLaws.{fixed_read, too_many, fixed_positions}}
use Rattle.re_search.proofs.pattern.read_fixed.Goals as goal

pub returns-clause-read : goal.returns-clause-read
returns-clause-read c = fixed_read c.args.fold c.args.text (λ on. elim c.else-fold.either [ inl few ↦ few.1 | inr off ↦ absurd (true≢false (sym on ∙ off)) ])

pub returns-then-text-gt-MOST_POSITIONS-clause-refused : goal.returns-then-text-gt-MOST_POSITIONS-clause-refused
returns-then-text-gt-MOST_POSITIONS-clause-refused c =
    let text = c.args.text.now in
    let small : length text < 2 ^ 64 = search rules in
    inr (too_many Fixed c.args.fold text (length text) c.fault_at_first.result c.if-fold.true (fixed_positions text (length text) refl small) c.if-text-gt-MOST_POSITIONS.true c.fault_at_first.ensures)
