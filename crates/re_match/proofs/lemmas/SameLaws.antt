-- Matchers that a search left as they were.
use Rattle.re_match.proofs.Prelude.{ℕ, Bool, ◌∙◌, Expression, SameMatcher}

module _ {M : Type 0} {expression : M → Expression} {whole : M → Bool} {room : M → ℕ} where
  -- so it is over two searches
  pub same_twice : {old middle new : M} → SameMatcher expression whole room middle new → SameMatcher expression whole room old middle → SameMatcher expression whole room old new
  same_twice later first = record { same_expression = later.same_expression ∙ first.same_expression; same_whole = later.same_whole ∙ first.same_whole; same_room = later.same_room ∙ first.same_room }
