use Rattle.re_syntax.proofs.Prelude.{◌≡◌, ℕ, ◌++◌, ◌<◌, codes, get_or, Upper, Begins, class_name, left}
use Rattle.re_syntax.proofs.bracket.take_class.Given as goal

-- the cursor has not moved, and no name of a class that was tried comes next
abbrev pub invariant-loop-class : goal.invariant-loop-class
invariant-loop-class l =
    (l.cursor ≡ l.fn.cursor) × ((k : ℕ) → k < l.class-index → ¬ Begins (class_name (get_or l.class-items k Upper) ++ codes ":]") (left l.fn.cursor))
