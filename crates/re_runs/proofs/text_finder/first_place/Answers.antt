use Rattle.{re_runs.proofs.{Prelude.{take_rest, arith}, lemmas.NewlineLaws.{no_text_from, text_from}}, memchr.proofs.lemmas.FindLemmas.Nowhere-then}
use Rattle.re_runs.proofs.text_finder.first_place.Goals as goal

pub returns-in-Some : goal.returns-in-Some
returns-in-Some c =
    let (first, there) = rw c.needle-text.ensures at c.in-Some.ensures in let fits = there.fits in
    (record { low = omega arith; high = omega arith; before = Nowhere-then c.vectors.invariant.1 first.before }, there)

pub vectors-preserved : goal.vectors-preserved
vectors-preserved c = (omega (arith, c.if-text-line.true), Nowhere-then c.vectors.invariant.1 (rw c.needle-text.ensures at c.in_default.ensures))

pub returns-in_default-find : goal.returns-in_default-find
returns-in_default-find c = no_text_from c.args.line.now _ c.vectors.start c.vectors.invariant.0 c.vectors.invariant.1 (rw take_rest at c.in_default-find.ensures)

pub returns : goal.returns
returns c = text_from c.args.line.now _ c.vectors.start c.vectors.invariant.0 c.vectors.invariant.1 _ (rw take_rest at c.in-Some-find.ensures)
