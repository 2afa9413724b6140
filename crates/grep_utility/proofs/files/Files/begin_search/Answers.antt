use Rattle.grep_core.proofs.lemmas.SourceLaws.{gives_none}
use Rattle.grep_utility.proofs.files.Files.begin_search.Goals as goal

pub returns-clause-none_back : goal.returns-clause-none_back
returns-clause-none_back g c = gives_none g.Self.Files.returned_readers c.args.self.now
