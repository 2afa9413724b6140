use Rattle.memory_files.proofs.lemmas.MemoryLemmas.{returned_readers}
use Rattle.memory_files.proofs.files.MemoryFilesSources.close.Goals as goal

pub returns-clause-back : goal.returns-clause-back
returns-clause-back c = returned_readers c.args.self.now c.count_failures.new.self c.args.reader c.count_failures.ensures.returned c.count_failures.ensures.broken
