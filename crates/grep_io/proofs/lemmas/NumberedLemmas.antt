-- A reader of numbered lines of which nothing was read.
use Rattle.grep_io.proofs.{Prelude.{◌≡◌, ℕ, [], Option, sym, arith, Text, Open, Numbered, HasHanded}, lemmas.HandedLemmas.HandsLines-none}

module _ {R : Type 0} (remaining : R → Option Text) (failures : R → ℕ) where
  -- nothing was read yet
  pub has_handed_none : (now : Numbered R) → now.lines.ahead ≡ [] → now.lines.stage ≡ Open → now.number ≡ 0 → HasHanded remaining failures now.lines.reader now []
  has_handed_none now none is_open zero = record { hands = HandsLines-none _ _ now.lines none is_open; counted = sym zero; few = omega arith }
