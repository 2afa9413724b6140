use Rattle.re_syntax.{proofs.{Prelude.{refl, opens_interval}, lemmas.{ExtendedTokenReading.{none_at_end, sign_stands, none_without_brace, none_without_interval}, TokenReading.{closing_no_part, interval_stands, bad_interval}}}, specs.{declared.tokens.ItemPlace.TheVariants.Later, ExtendedTokens.{interval, ExtendedTokenFault, disallowed}}}
use Rattle.re_syntax.proofs.extended.read_duplication.Goals as goal

pub read_interval-requires-clause-closes : goal.read_interval-requires-clause-closes
read_interval-requires-clause-closes c = closing_no_part _ _ refl refl

pub returns-in-None-clause-read : goal.returns-in-None-clause-read
returns-in-None-clause-read c = none_at_end _ _ c.in-None.ensures

pub returns-in-Some-sign-clause-read : goal.returns-in-Some-sign-clause-read
returns-in-Some-sign-clause-read c = sign_stands c.in-Some.ensures c.in-Some-sign.ensures

pub returns-in-None-after-clause-read : goal.returns-in-None-after-clause-read
returns-in-None-after-clause-read c = none_without_brace c.args.text.now c.args.at c.in-Some.byte c.in-Some.ensures c.in_default.ensures c.in-None-after.ensures

pub returns-in-None-read_interval-clause-read : goal.returns-in-None-read_interval-clause-read
returns-in-None-read_interval-clause-read c = none_without_interval c.in-Some-after.ensures c.in-None-read_interval.ensures

pub returns-in-None-counts_fault-clause-read : goal.returns-in-None-counts_fault-clause-read
returns-in-None-counts_fault-clause-read c =
    let i = c.in-Some-read_interval.ensures in interval_stands c.in-Some-after.ensures i c.in-None-counts_fault.ensures (λ allowed. interval i.stands.form allowed)

pub returns-in-Some-counts_fault-clause-refused : goal.returns-in-Some-counts_fault-clause-refused
returns-in-Some-counts_fault-clause-refused c =
    let i = c.in-Some-read_interval.ensures in bad_interval c.in-Some-after.ensures i (ExtendedTokenFault Later) c.requires c.in-Some-counts_fault.ensures (λ bad. disallowed refl i.stands bad)

pub returns-in-Some-counts_fault-clause-opens : goal.returns-in-Some-counts_fault-clause-opens
returns-in-Some-counts_fault-clause-opens c = rw c.in-Some-after.ensures.front (opens_interval c.in-Some-read_interval.ensures.stands)
