use Rattle.memory_files.proofs.{Prelude.{length, drop, take_rest}, lemmas.MemoryLemmas.pulled}
use Rattle.memory_files.proofs.files.MemoryReaderCountedRead.pull.Goals as goal

pub returns-clause-bytes : goal.returns-clause-bytes
returns-clause-bytes c =
    let r = c.args.self.now in
    pulled (length c.args.into.now) c.next_count-n.result (drop c.next_count-n.result c.args.into.now) c.copy_from_slice.new.self c.requires.some r.step r.left r.failures r.rest.now _
    c.if-self-gt0.false c.if-self-eq0.false c.next_count-n.ensures (take_rest r.rest.now c.next_count-n.result) c.copy_from_slice.ensures.after
