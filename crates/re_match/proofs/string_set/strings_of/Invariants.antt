use Rattle.re_match.proofs.Prelude.{◌≡◌, ◌++◌, map, lines_of}
use Rattle.re_match.proofs.string_set.strings_of.Given as goal

abbrev pub invariant-lines : goal.invariant-lines
invariant-lines l = (goal.iterator-lines).can_next l.text-iterator × (goal.iterator-lines).is_finite l.text-iterator
    × (map (λ s. s.now) l.strings.items ++ l.text-iterator ≡ lines_of l.texts)
