use Rattle.grep_core.proofs.{Prelude.{◌≡◌, ◌≤◌, length, take, AreSame, writer, Returns, expressions_of}, lemmas.RunLaws.RunSoFar}
use Rattle.grep_core.proofs.search.run.search_all.Given as goal

-- the first k sources were run
abbrev pub invariant-loop-k : goal.invariant-loop-k
invariant-loop-k g l = record {
  so_far : RunSoFar (expressions_of l.fn.matchers) l.request.options l.many (take l.k (g.S.Sources.listed l.fn.sources)) (Returns g.S.Sources.returned_readers l.fn.sources l.sources)
      (record {
        out = writer g.W.CountedWrite.contents g.W.CountedWrite.failures l.fn.out;
        messages = writer g.N.CountedWrite.contents g.N.CountedWrite.failures l.fn.messages;
        source_failures = g.S.Sources.failures l.fn.sources;
        steps = l.fn.meter;
      })
      (record {
        out = writer g.W.CountedWrite.contents g.W.CountedWrite.failures l.out;
        messages = writer g.N.CountedWrite.contents g.N.CountedWrite.failures l.messages;
        source_failures = g.S.Sources.failures l.sources;
        steps = l.meter;
      }) l.some l.faulty;
  listed : g.S.Sources.listed l.sources ≡ g.S.Sources.listed l.fn.sources;
  within : l.k ≤ length (g.S.Sources.listed l.fn.sources);
  in_order : g.S.Sources.stands_at l.sources l.k;
  same_loan : g.S.Sources.loan l.sources ≡ g.S.Sources.loan l.fn.sources;
  same : AreSame l.fn.matchers l.matchers;
}
