use Rattle.{grep_utility.{proofs.{Prelude.{[], err_from_is_err_and, output_line, written, usage, fault_text, usage_after}, lemmas.UsageLemmas.usage_after-other}, specs.declared.words.UsageFault.TheVariants.Memory}, grep_core.proofs.lemmas.RowLemmas.{stops_early, writes_last, goes_on, goes_nowhere}}
use Rattle.grep_utility.proofs.usage.write_usage_fault.Goals as goal

pub returns-in_err-write_fault : goal.returns-in_err-write_fault
returns-in_err-write_fault g c =
    let p = err_from_is_err_and c.from_residual.result c.from_residual.ensures.1 in
    rw p.1 (stops_early g.M.CountedWrite.contents g.M.CountedWrite.failures c.args.messages.now c.write_fault.new.messages
    (output_line [] (fault_text c.args.fault)) (written [] (usage_after c.args.fault)) c.in_err-write_fault.ensures)

pub returns-in-Memory : goal.returns-in-Memory
returns-in-Memory g c =
    let mid = c.write_fault.new.messages in
    rw c.in-Memory.is (goes_on g.M.CountedWrite.contents g.M.CountedWrite.failures c.args.messages.now mid mid (output_line [] (fault_text Memory)) [] (rw c.in-Memory.is at c.in_ok-write_fault.ensures) (goes_nowhere g.M.CountedWrite.contents g.M.CountedWrite.failures mid))

pub returns-in_default : goal.returns-in_default
unfolding usage
returns-in_default g c =
    writes_last g.M.CountedWrite.contents g.M.CountedWrite.failures c.args.messages.now c.write_fault.new.messages c.write_line.new.out
    (output_line [] (fault_text c.args.fault)) (written [] (usage_after c.args.fault)) c.write_line.result c.in_ok-write_fault.ensures (rw (usage_after-other c.args.fault c.in_default.not-Memory) c.write_line.ensures)
