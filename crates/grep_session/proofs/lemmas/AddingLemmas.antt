-- The elements of a list, as they are lent and returned.
use Rattle.grep_session.proofs.Prelude.{◌≡◌, ℕ, List, ◌++◌, length, take, drop, sym, ◌∙◌, take-append_seam}

-- all elements were lent, and the same number was returned
pub all_back : {X : Type 0} (many : ℕ) (old new : List X) → many ≡ length old → length new ≡ length old → take many (new ++ drop (length new) old) ≡ new
all_back many old new as_many same = cc (as_many ∙ sym same, take-append_seam new (drop (length new) old))
