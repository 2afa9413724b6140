use Rattle.grep_utility.{proofs.{Prelude.{◌≡◌, List, Option, drop, ◌++◌, map, Text, Returns, given_source}, lemmas.SourceLemmas.SourcesSoFar}, specs.Patterns.OneReaderEach}
use Rattle.grep_utility.proofs.patterns.read_patterns.Given as goal

-- the sources before this one were read, and nothing failed
abbrev pub invariant-loop-source : goal.invariant-loop-source
invariant-loop-source g l = record {
  so_far : SourcesSoFar (g.F.Files.folder l.fn.files) (map given_source l.fn.sources) (g.F.Files.folder l.files) (map given_source (drop l.source-index l.sources)) l.texts.items;
  none_failed : g.F.Files.failures l.files ≡ g.F.Files.failures l.fn.files;
  back : (left : List (Option Text)) × ((more : List (Option Text)) → OneReaderEach (map given_source (drop l.source-index l.sources)) more → OneReaderEach (map given_source l.fn.sources) (left ++ more)) × Returns g.F.Files.returned_readers l.fn.files l.files left;
}
