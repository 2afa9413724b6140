use Rattle.{memory_files.proofs.Prelude.{◌≡◌, true, false, ◌∙◌, ap, codes, Some, Returns, writer, folder_of, bytes_of, returned_by, row_text}, grep_utility.proofs.lemmas.WorkedLemmas.row_given}
use Rattle.memory_files.proofs.worked.run_row.Goals as goal

pub returns : goal.returns
returns c c' same counts =
    let m = c'.new-files.result in
    let folder = folder_of m.files.now m.input in
    let opens : folder.opens (codes "h") ≡ Some true = ap (λ n. (folder_of n.files.now n.input).opens (codes "h")) c'.new-files.ensures in
    let bytes : folder.bytes (codes "h") ≡ Some row_text = ap (λ n. (folder_of n.files.now n.input).bytes (codes "h")) c'.new-files.ensures ∙ ap bytes_of c'.new.ensures in
    let none : folder.opens (codes "missing") ≡ Some false = ap (λ n. (folder_of n.files.now n.input).opens (codes "missing")) c'.new-files.ensures in
    row_given folder opens bytes none (Returns returned_by m c'.run_grep-status.new.files) (writer c.W.CountedWrite.contents c.W.CountedWrite.failures c'.args.out.now) (writer c.M.CountedWrite.contents c.M.CountedWrite.failures c'.args.messages.now)
    (writer c.W.CountedWrite.contents c.W.CountedWrite.failures c'.run_grep-status.new.out) (writer c.M.CountedWrite.contents c.M.CountedWrite.failures c'.run_grep-status.new.messages)
    m.failed c'.run_grep-status.new.files.failed c'.failures.result c'.args.meter.now c'.run_grep-status.new.meter c'.run_grep-status.result _ (ap (λ n. n.failed) c'.new-files.ensures) c'.failures.ensures same c'.run_grep-status.ensures counts
