-- A file as its lines.
use Rattle.std.specs.Prelude.{List}
use Rattle.re_trees.specs.Bytes.{Text}

-- how a file ended: read to its end, not opened, or left where a read failed
pub data Ending : Type 0 where
  whole : Ending
  missing : Ending
  broken : Ending

pub record File : Type 0 where
  pub name : Text
  pub lines : List Text
  pub ending : Ending
