use Rattle.grep_session.specs.declared.hit.Hit.{Hit as SessionHit}
use Rattle.grep_live.proofs.lemmas.ListingLemmas.{none_first, one_first}
use Rattle.grep_live.proofs.hits.first_hit.Goals as goal

pub returns-then-place-stretch-clause-first : goal.returns-then-place-stretch-clause-first
returns-then-place-stretch-clause-first c =
    let s = c.args.stretch in
    λ es meant hits are.
    none_first es c.args.session.now.inputs s.k s.from s.to c.next_hit-place.result c.next_hit-place.ensures.after c.requires.within (c.next_hit-place.ensures.passed es meant) hits are c.if-place-stretch.true

pub returns-clause-first : goal.returns-clause-first
returns-clause-first c =
    let s = c.args.stretch in
    λ es meant hits are.
    one_first es c.args.session.now.inputs s.k s.from s.to c.next_hit-place.result c.next_hit-place.ensures.after c.requires.within (c.next_hit-place.ensures.passed es meant) hits are (λ (h : SessionHit). h.text.now) (λ (h : SessionHit). h.parts.now) c.hit.result c.in-Some.hit c.if-place-stretch.false
    (c.hit.ensures es meant) c.in-Some.is
