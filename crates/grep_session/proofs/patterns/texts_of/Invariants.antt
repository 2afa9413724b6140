use Rattle.grep_session.proofs.Prelude.{◌≡◌, ◌++◌, map, list_of}
use Rattle.grep_session.proofs.patterns.texts_of.Given as goal

-- the first texts were taken, and the others are left
abbrev pub invariant-loop-part : goal.invariant-loop-part
invariant-loop-part l =
    (goal.iterator-loop-part).can_next l.part-iterator × (goal.iterator-loop-part).is_finite l.part-iterator
    × (map (λ text. text.items) l.texts.items ++ l.part-iterator ≡ list_of l.list)
