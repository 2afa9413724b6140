use Rattle.re_strings.proofs.{Prelude.{◌≡◌, ◌+◌, ◌<◌}, lemmas.SetEnds.same_ends_added}
use Rattle.re_strings.proofs.occurrences.put_whole.Goals as goal

pub returns-then-length-whole : goal.returns-then-length-whole
returns-then-length-whole c =
    same_ends_added (λ i m. (i ≡ c.args.place) × (m < c.args.start + (c.args.place + c.args.length))) (λ i m. (i ≡ c.args.place) × (c.args.length ≡ c.args.whole) × (m < c.args.start + (c.args.place + c.args.length)))
    _ _ _ c.put_end.ensures (λ i m lt. ((λ p. (p.0, c.if-length-whole.true, p.1)), (λ p. (p.0, p.2))))
