-- What a refill of the window does.
use Rattle.std.specs.{Prelude.{[], ◌≡◌, Option, ◌<◌}, Io.KnownBytes.{prepend_known, Keeps, IsAtEnd}}
use Rattle.std.specs.Prelude.{ℕ, length}
use Rattle.{re_trees.specs.Bytes.Text, grep_io.specs.{Counted.one_more, Working.Held.Held}}
use Rattle.grep_io.specs.declared.input.window.Refill.{TheVariants.{More, Ended, Failed}, Refill}

module _ {R : Type 0} (remaining : R → Option Text) (failures : R → ℕ) where
  -- more bytes are ahead, or all that were ahead are the last line, or a read failed
  abbrev pub Refilled : Held → Held → R → R → Refill → Type 0
  Refilled held new reader next More =
      Keeps (prepend_known held.ahead (remaining reader)) (prepend_known new.ahead (remaining next))
      × (failures next ≡ failures reader) × (new.line ≡ []) × (length held.ahead < length new.ahead)
  Refilled held new reader next Ended =
      (new.ahead ≡ []) × (new.line ≡ held.ahead) × IsAtEnd (remaining reader) ×
      IsAtEnd (remaining next)
      × Keeps (remaining reader) (remaining next) × (failures next ≡ failures reader)
  Refilled held new reader next Failed =
      (new.ahead ≡ held.ahead) × (new.line ≡ []) × Keeps (remaining reader) (remaining next)
      × (failures next ≡ one_more (failures reader))
