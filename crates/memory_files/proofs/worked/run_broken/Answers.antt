use Rattle.{memory_files.proofs.Prelude.{◌≡◌, true, List, [], ap, subst, codes, Option, Some, inl, Text, Returns, writer, HasReturned, folder_of, returned_by, broken_text}, grep_utility.proofs.lemmas.BrokenLemmas.broken_given}
use Rattle.memory_files.proofs.worked.run_broken.Goals as goal

pub returns : goal.returns
returns c c' same once broken counts =
    let m = c'.new-files.result in
    let after = c'.run_grep-status.new.files in
    let folder = folder_of m.files.now m.input in
    let opens : folder.opens (codes "f") ≡ Some true = ap (λ n. (folder_of n.files.now n.input).opens (codes "f")) c'.new-files.ensures in
    let bytes : folder.bytes (codes "f") ≡ Some broken_text = ap (λ n. (folder_of n.files.now n.input).bytes (codes "f")) c'.new-files.ensures in
    let none_before : returned_by m [] = (ap (λ n. n.returned) c'.new-files.ensures, inl (ap (λ n. n.broken) c'.new-files.ensures)) in
    let reported_too : (left : List (Option Text)) → Returns returned_by m after left → HasReturned 1 1 left =
    λ left back. subst (λ n. HasReturned 1 n left) broken (subst (λ n. HasReturned n after.broken left) once (back [] none_before)) in
    broken_given folder opens bytes (Returns returned_by m after) reported_too (writer c.W.CountedWrite.contents c.W.CountedWrite.failures c'.args.out.now) (writer c.M.CountedWrite.contents c.M.CountedWrite.failures c'.args.messages.now)
    (writer c.W.CountedWrite.contents c.W.CountedWrite.failures c'.run_grep-status.new.out) (writer c.M.CountedWrite.contents c.M.CountedWrite.failures c'.run_grep-status.new.messages)
    m.failed after.failed c'.args.meter.now c'.run_grep-status.new.meter c'.run_grep-status.result _ (ap (λ n. n.failed) c'.new-files.ensures) same c'.run_grep-status.ensures counts
