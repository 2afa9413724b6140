use Rattle.{re_match.proofs.Prelude.{inl, inr, refl, false≢true, runs_of}, re_needle.proofs.lemmas.NeedleLaws.settled_lacks}
use Rattle.re_match.proofs.prefilter.Prefilter.settled.Goals as goal

pub returns-then-is_none-clause-settled : goal.returns-then-is_none-clause-settled
returns-then-is_none-clause-settled c = λ e is. (settled_lacks e c.in-Some.needle (rw c.in-Some.is at is.needle) c.args.line.now c.args.whole c.find.result c.find.ensures.found c.if-is_none.ensures)

pub returns-then-needle-clause-settled : goal.returns-then-needle-clause-settled
returns-then-needle-clause-settled c = λ e is.
    let needle = rw c.in-Some.is at is.needle in
    inr (inl (record { runs = runs_of c.in-Some.needle.finder; begins = needle.first c.if-needle.true; all = c.if-whole.true; absent = λ o. false≢true (c.if-begins.ensures.reported.1 o); no = refl }))

pub returns-then-needle-clause-looked : goal.returns-then-needle-clause-looked
returns-then-needle-clause-looked c = λ e is.
    let needle = rw c.in-Some.is at is.needle in
    inr (inr (record { runs = runs_of c.in-Some.needle.finder; begins = needle.first c.if-needle.true; passed = c.begins.ensures.counted }))
