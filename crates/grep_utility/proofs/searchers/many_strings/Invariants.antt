use Rattle.{re_syntax.specs.Lines.lines_of, grep_utility.proofs.lemmas.ServingLemmas.StringsSoFar}
use Rattle.grep_utility.proofs.searchers.many_strings.Given as goal

abbrev pub invariant-loop-text : goal.invariant-loop-text
invariant-loop-text l =
    (goal.iterator-loop-text).can_next l.text-iterator × (goal.iterator-loop-text).is_finite l.text-iterator
    × StringsSoFar l.syntax l.options.ignore_case l.text-iterator (lines_of l.texts) l.strings.items
