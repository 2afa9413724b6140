use Rattle.{re_runs.proofs.Prelude.{◌-◌, sym, ap, ◌∙◌, bit_and, bit_at}, memchr.proofs.lemmas.BitLemmas.{bit_at_low_kept, bit_at_low_only, shl_one}}
use Rattle.re_runs.proofs.lanes.bits_below.Goals as goal

pub returns-clause-kept : goal.returns-clause-kept
returns-clause-kept c k l = ap (λ x. bit_at (bit_and c.args.marks (x - 1)) k) (shl_one c.args.bit c.requires) ∙ bit_at_low_kept c.args.marks c.args.bit k l

pub returns-clause-no_more : goal.returns-clause-no_more
returns-clause-no_more c k h = bit_at_low_only c.args.marks c.args.bit k (sym (ap (λ x. bit_at (bit_and c.args.marks (x - 1)) k) (shl_one c.args.bit c.requires)) ∙ h)
