-- The output for more files begins with that for fewer, where each group of lines is after a
-- separator.
use Rattle.grep_core.proofs.{Prelude.{Bool, false, List, ◌++◌, refl, sym, ◌∙◌, map-append, Text, Expression, Options, File, Form, nothing, names, counts, parts, lines, around, OutAs, GroupedAs, rows_after}, lemmas.{ChooseLaws.EachGives-append, Exist.{OutAs-exist, groups_exist}}}

module _ (es : List Expression) (options : Options) (many : Bool) where
  -- the output for some files, and that for others after it
  pub GroupedAs-append : (shape : Form) (xs ys : List File) (us vs : List Text) → GroupedAs es options many shape xs us → GroupedAs es options many shape ys vs → GroupedAs es options many shape (xs ++ ys) (us ++ vs)
  GroupedAs-append nothing _ _ _ _ a b = λ i. a i ++ b i
  GroupedAs-append names xs ys _ _ a b = (a.0 ++ b.0, EachGives-append _ xs ys a.0 b.0 a.1 b.1, (λ i. a.2 i ++ b.2 i) ∙ sym (map-append (λ file. file.name) a.0 b.0))
  GroupedAs-append counts xs ys us vs a b = EachGives-append _ xs ys us vs a b
  GroupedAs-append parts xs ys us vs a b = EachGives-append _ xs ys us vs a b
  GroupedAs-append lines xs ys us vs a b = EachGives-append _ xs ys us vs a b
  GroupedAs-append (around context) xs ys us vs a b = EachGives-append _ xs ys us vs a b

  -- files have an output of this kind in each form
  pub GroupedAs-exist : (shape : Form) (files : List File) → (rows : List Text) × GroupedAs es options many shape files rows
  GroupedAs-exist nothing files = OutAs-exist es options many nothing files
  GroupedAs-exist names files = OutAs-exist es options many names files
  GroupedAs-exist counts files = OutAs-exist es options many counts files
  GroupedAs-exist parts files = OutAs-exist es options many parts files
  GroupedAs-exist lines files = OutAs-exist es options many lines files
  GroupedAs-exist (around context) files = groups_exist es options many context files

  -- the output for some files is a beginning of the output for them and others
  pub GroupedAs-front : (shape : Form) (xs rest : List File) (us : List Text) → GroupedAs es options many shape xs us → (vs : List Text) × GroupedAs es options many shape (xs ++ rest) (us ++ vs)
  GroupedAs-front shape xs rest us a = let more = GroupedAs-exist shape rest in (more.0, GroupedAs-append shape xs rest us more.0 a more.1)

  -- without the first separator it is the output
  pub grouped_out : (shape : Form) (files : List File) (rows : List Text) → GroupedAs es options many shape files rows → OutAs es options many shape files (rows_after shape false rows)
  grouped_out nothing _ _ h = h
  grouped_out names _ _ h = h
  grouped_out counts _ _ h = h
  grouped_out parts _ _ h = h
  grouped_out lines _ _ h = h
  grouped_out (around context) _ rows h = (rows, h, refl)
