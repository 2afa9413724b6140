use Rattle.{grep_utility.proofs.{Prelude.{refl, Returns, asked}, lemmas.{CommandLemmas.{words_refused, is_numbered, ends_before, ends_after}, ReportingLemmas.{gives_up, reports_line, reports_lines}}}, grep_core.proofs.lemmas.SourceLaws.gives_both}
use Rattle.grep_utility.proofs.command.run_grep.Goals as goal

pub returns-in-Ok-prepare : goal.returns-in-Ok-prepare
returns-in-Ok-prepare g c =
    let back = c.in-Ok-prepare.ensures.back in
    let join = gives_both g.F.Files.returned_readers c.args.files.now c.prepare.new.files c.search_request.new.files back.0 in
    let ends = rw c.in-Ok-prepare.ensures.none_failed at c.search_request.ensures in
    ends_after _ (Returns g.F.Files.returned_readers c.args.files.now c.search_request.new.files) _ _ c.in-Ok.ensures _ _ c.in-Ok-prepare.ensures.ok _ (λ left h. (back.0, back.1, join left back.2 h)) _ _ _ ends

pub write_command_fault-requires : goal.write_command_fault-requires
write_command_fault-requires g c = is_numbered (asked c.in-Ok.request) _ _ _ c.in-Err-prepare.fault c.in-Err-prepare.ensures.err

pub returns : goal.returns
returns g c = ends_before _ (Returns g.F.Files.returned_readers c.args.files.now c.prepare.new.files) _ (asked c.in-Ok.request) c.in-Ok.ensures _ _ _ _ _ _ c.in-Err-prepare.fault c.in-Err-prepare.ensures.err (reports_line g.M.CountedWrite.contents g.M.CountedWrite.failures _ _ _ c.write_command_fault.result c.write_command_fault.ensures)

pub returns-in-Err : goal.returns-in-Err
returns-in-Err g c = words_refused _ (Returns g.F.Files.returned_readers c.args.files.now c.args.files.now) _ _ _ _ c.in-Err.fault c.in-Err.ensures (gives_up _ _ _ _ _ _ _ refl (reports_lines g.M.CountedWrite.contents g.M.CountedWrite.failures _ _ _ c.write_usage_fault.result c.write_usage_fault.ensures))
