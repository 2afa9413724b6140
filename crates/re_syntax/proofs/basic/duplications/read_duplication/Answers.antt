use Rattle.re_syntax.{proofs.{Prelude.{codes, refl}, lemmas.{BasicTokenReading.no_duplication_opens, TokenReading.{closing_no_part, interval_stands, bad_interval}}}, specs.{declared.tokens.ItemPlace.TheVariants.Later, BasicTokens.{interval, BasicTokenFault, no_form, disallowed}}}
use Rattle.re_syntax.proofs.basic.duplications.read_duplication.Goals as goal

pub read_interval-requires-clause-closes : goal.read_interval-requires-clause-closes
read_interval-requires-clause-closes c = closing_no_part 92 (codes "}") refl refl

pub returns-in-None-counts_fault-clause-read : goal.returns-in-None-counts_fault-clause-read
returns-in-None-counts_fault-clause-read c =
    let i = c.in-Some-read_interval.ensures in interval_stands c.in-Some-after.ensures i c.in-None-counts_fault.ensures (λ allowed. interval i.stands.form allowed)

pub returns-in-None-clause-read : goal.returns-in-None-clause-read
returns-in-None-clause-read c = no_duplication_opens c.in_default.ensures c.in-None.ensures

pub returns-in-None-read_interval-clause-refused : goal.returns-in-None-read_interval-clause-refused
returns-in-None-read_interval-clause-refused c g = record { within = c.requires; is_fault = rw c.in-Some-after.ensures.front (no_form refl c.in-None-read_interval.ensures) }

pub returns-in-Some-counts_fault-clause-refused : goal.returns-in-Some-counts_fault-clause-refused
returns-in-Some-counts_fault-clause-refused c g =
    let i = c.in-Some-read_interval.ensures in bad_interval c.in-Some-after.ensures i (BasicTokenFault g Later) c.requires c.in-Some-counts_fault.ensures (λ bad. disallowed refl i.stands bad)
