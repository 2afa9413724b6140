use Rattle.{std.proofs.Common.rules, grep.proofs.lemmas.CountLemmas.count_more-sum}
use Rattle.grep.proofs.disk.DiskFilesFiles.close.Goals as goal

pub returns-clause-counted : goal.returns-clause-counted
returns-clause-counted c = search (rules, count_more-sum)
