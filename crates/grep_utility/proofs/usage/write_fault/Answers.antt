use Rattle.grep_utility.proofs.Prelude.{append-nil, encode_utf8, fault_text}
use Rattle.grep_utility.proofs.usage.write_fault.Goals as goal

pub returns-in-TwoSyntaxes : goal.returns-in-TwoSyntaxes
unfolding fault_text
returns-in-TwoSyntaxes g c = rw c.in-TwoSyntaxes.is c.write_line.ensures

pub returns-in-NoPattern : goal.returns-in-NoPattern
unfolding fault_text
returns-in-NoPattern g c = rw c.in-NoPattern.is c.write_line-in-NoPattern.ensures

pub returns-in-UnknownOption : goal.returns-in-UnknownOption
unfolding fault_text
returns-in-UnknownOption g c = rw c.in-UnknownOption.is (rw (append-nil (encode_utf8 c.in-UnknownOption.letter)) at c.write_option.ensures)

pub returns-in-MissingArgument : goal.returns-in-MissingArgument
unfolding fault_text
returns-in-MissingArgument g c = rw c.in-MissingArgument.is c.write_option-in-MissingArgument.ensures

pub returns-in-BadNumber : goal.returns-in-BadNumber
unfolding fault_text
returns-in-BadNumber g c = rw c.in-BadNumber.is c.write_option-in-BadNumber.ensures
