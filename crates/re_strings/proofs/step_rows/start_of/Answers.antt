use Rattle.re_strings.proofs.{Prelude.{◌≡◌, ◌∙◌, arith, get_or_default_zero}, lemmas.{SetSteps.{goes_on, nothing_left}, StepRowLaws.other_byte}}
use Rattle.re_strings.proofs.step_rows.start_of.Goals as goal

pub returns-then-class-eq0-clause-right : goal.returns-then-class-eq0-clause-right
returns-then-class-eq0-clause-right c = λ all t b lt is. other_byte all c.requires.trie t b (c.requires.classes.others b lt (is ∙ c.if-class-eq0.true)) 0

pub returns-in-Some-clause-right : goal.returns-in-Some-clause-right
returns-in-Some-clause-right c = λ all t b lt is w from s.
    let byte = c.requires.classes.own b lt (omega (arith, is, c.if-class-eq0.false)) in
    let own : c.index.result.now ≡ b = c.index.ensures ∙ get_or_default_zero _ _ _ c.requires.within ∙ (rw is at byte) in
    rw (c.in-Some.ensures.reported all t, own) (goes_on _ _ s)

pub returns-in-None-clause-right : goal.returns-in-None-clause-right
returns-in-None-clause-right c = λ all t b lt is w from s.
    let byte = c.requires.classes.own b lt (omega (arith, is, c.if-class-eq0.false)) in
    let own : c.index.result.now ≡ b = c.index.ensures ∙ get_or_default_zero _ _ _ c.requires.within ∙ (rw is at byte) in
    rw t.root
    (nothing_left _ _ w (rw t.root at s)
    (λ front. c.in-None.ensures.reported all t (rw (t.root, own) front)))
