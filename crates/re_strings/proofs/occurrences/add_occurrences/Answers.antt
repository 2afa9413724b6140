use Rattle.re_strings.proofs.{Prelude.{rules, ◌≡◌, ◌+◌, ◌<◌, length, arith, OccursAt}, lemmas.{SetEnds.{adds_more_ends, same_ends_added}, OverlapLaws.one_place_put}}
use Rattle.re_strings.proofs.occurrences.add_occurrences.Goals as goal

pub places-preserved : goal.places-preserved
places-preserved c =
    let text = c.args.text.now in
    let line = c.args.line.now in
    let start = c.args.start in
    let place = c.places.place in
    let n = c.common_length-length.result in
    let had = c.places.invariant.added in
    record {
      window = c.common_length-length.ensures.window;
      begun = search rules;
      added = adds_more_ends (λ i m. (i < place) × (m < start + (i + length text)) × OccursAt line text i) (λ i m. (i ≡ place) × (n ≡ length text) × (m < start + (place + n))) (λ i m. (i < place + 1) × (m < start + (i + length text)) × OccursAt line text i)
          _ _ _ _ _ had.0 had c.put_whole.ensures
          (λ i m lt. one_place_put start n c.common_length-length.ensures.right i m);
    }

pub returns-clause-added : goal.returns-clause-added
returns-clause-added c =
    let text = c.args.text.now in
    let line = c.args.line.now in
    let start = c.args.start in
    same_ends_added (λ i m. (i < c.places.place) × (m < start + (i + length text)) × OccursAt line text i) (λ i m. (m < start + (i + length text)) × OccursAt line text i) _ _ _ c.places.invariant.added
    (λ i m lt. ((λ p. (p.1, p.2)), (λ p. (omega (arith, c.places-test.false), p.0, p.1))))
