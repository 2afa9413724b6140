use Rattle.re_strings.proofs.Prelude.{◌-◌, length, AgreesUpTo}
use Rattle.re_strings.proofs.occurrences.agreement.Given as goal

abbrev pub invariant-bytes : goal.invariant-bytes
invariant-bytes l = AgreesUpTo l.text l.line l.place l.end

abbrev pub decreases-bytes : goal.decreases-bytes
decreases-bytes l = length l.line - l.end
