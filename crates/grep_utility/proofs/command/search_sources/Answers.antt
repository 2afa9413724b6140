use Rattle.grep_utility.proofs.Prelude.{rules, writer}
use Rattle.grep_utility.proofs.command.search_sources.Goals as goal

pub search_all-found-requires-clause-alike : goal.search_all-found-requires-clause-alike
search_all-found-requires-clause-alike g c = rw c.lend.ensures c.requires.alike

pub returns-clause-ends : goal.returns-clause-ends
returns-clause-ends g c =
    let after = c.search_all-found.new in
    let out = writer g.W.CountedWrite.contents g.W.CountedWrite.failures after.out in
    let failures = g.S.Sources.failures after.sources in
    let run = rw c.lend.ensures at c.search_all-found.ensures.run in
    record {
      found = c.search_all-found.result;
      between = record {
        out = out;
        messages = writer g.N.CountedWrite.contents g.N.CountedWrite.failures after.messages;
        source_failures = failures;
        steps = after.meter;
      };
      runs = search (rules, run);
      ends = search (rules, c.end_search.ensures out failures after.meter);
    }
