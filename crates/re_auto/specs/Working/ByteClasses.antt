-- Classes of bytes with equal rows.
use Rattle.std.specs.Prelude.{◌≡◌, ◌≢◌, ℕ, ◌+◌, ◌*◌, ◌<◌, ◌≤◌, max, List, length, slice_index}
use Rattle.re_auto.specs.{declared.build.classes.Classes.Classes, Working.Bits.row_of}

-- the row of each byte is that of its class, and bytes with the same row have the same class
pub record AreClasses (rows : List ℕ) (width : ℕ) (classes : Classes) : Type 0 where
  pub bytes : length classes.class_of.items ≡ 256
  pub within : (c : ℕ) → c < 256 →
      slice_index classes.class_of.items c * width + width ≤ length classes.takes.items
  pub same : (c : ℕ) → c < 256 →
      row_of classes.takes.items width (slice_index classes.class_of.items c) ≡ row_of rows width c
  pub shared : (c d : ℕ) → c < 256 → d < 256 → row_of rows width c ≡ row_of rows width d →
      slice_index classes.class_of.items c ≡ slice_index classes.class_of.items d

-- the row has this class, which is a new one after the old ones if none of these has the row
pub record IsClassed (count width : ℕ) (row old new : List ℕ) (class : ℕ) : Type 0 where
  pub known : class ≤ count
  pub longer : length new ≡ max count (class + 1) * width
  pub kept : (k : ℕ) → k < count → row_of new width k ≡ row_of old width k
  pub same : row_of new width class ≡ row
  pub first : (k : ℕ) → k < class → row_of old width k ≢ row
