-- The texts that a splitter has not returned yet.
use Rattle.std.specs.{Prelude.{List, [], Option, Some, None}, Borrow.Bor}
use Rattle.re_trees.specs.{Bytes.Text, Lines.list_of}

abbrev pub texts_of_rest : Option (Bor Text) → List Text
texts_of_rest None = []
texts_of_rest (Some rest) = list_of rest.now
