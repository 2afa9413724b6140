use Rattle.{re_syntax.specs.Working.Trees.expression_of, re_auto.specs.Working.StateSets.IsMadeFor}
use Rattle.examples.proofs.automata.is_whole.Given as goal

abbrev pub invariant-loop-byte : goal.invariant-loop-byte
invariant-loop-byte l = record {
  now : IsMadeFor (expression_of l.automaton) l.now;
  next : IsMadeFor (expression_of l.automaton) l.next;
}
