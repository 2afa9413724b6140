-- What one more line of a file adds to its selected lines, its rows and the rows of its parts.
use Rattle.{grep_core.proofs.{Prelude.{◌≡◌, ℕ, ◌+◌, Bool, List, [], ◌∷◌, ◌++◌, sym, ap, ◌∙◌, length, map, arith, enumerate_from, Text, Expression, Options, Ending, Selected, head_of, numbered, SelectedLines, RowsOf, PartsOfLine, PartRowsOf, map-append}, lemmas.{ChooseLaws.{EachGives-append, EachGives-end, EachGives-exist, Chosen-end, Chosen-passed, Chosen-exist}, Decided.dec_selected, Exist.PartsOfLine-exist}}, grep_io.proofs.lemmas.FileLaws.file_with}

-- the numbers continue after a list
pub enumerate_from-append : {A : Type 0} (n : ℕ) (xs ys : List A) → enumerate_from n (xs ++ ys) ≡ enumerate_from n xs ++ enumerate_from (n + length xs) ys
enumerate_from-append n [] ys = let e : n ≡ n + 0 = omega arith in ap (λ m. enumerate_from m ys) e
enumerate_from-append n (x ∷ xs) ys =
    let e : (n + 1) + length xs ≡ n + length (x ∷ xs) = omega arith in
    ap (λ zs. (n, x) ∷ zs) (enumerate_from-append (n + 1) xs ys ∙ ap (λ m. enumerate_from (n + 1) xs ++ enumerate_from m ys) e)

-- the number of the next line is one more than there are lines before it
pub numbered-end : (xs : List Text) (line : Text) → numbered (xs ++ line ∷ []) ≡ numbered xs ++ (length xs + 1, line) ∷ []
numbered-end xs line = let e : 1 + length xs ≡ length xs + 1 = omega arith in enumerate_from-append 1 xs _ ∙ ap (λ m. numbered xs ++ (m, line) ∷ []) e

module _ (es : List Expression) (options : Options) (many : Bool) (name : Text) (ending : Ending) where
  -- one more line, which is selected
  pub SelectedLines-end : (xs : List Text) (line : Text) (ls : List (ℕ × Text)) → SelectedLines es options many (file_with name xs ending) ls → Selected es options line →
      SelectedLines es options many (file_with name (xs ++ line ∷ []) ending) (ls ++ (length xs + 1, line) ∷ [])
  SelectedLines-end xs line ls h selected =
      rw (numbered-end xs line)
      (Chosen-end (λ l. Selected es options l.1) (numbered xs) (length xs + 1, line) ls h selected)

  -- one more line, which is not selected
  pub SelectedLines-passed : (xs : List Text) (line : Text) (ls : List (ℕ × Text)) → SelectedLines es options many (file_with name xs ending) ls → (Selected es options line → ⊥) →
      SelectedLines es options many (file_with name (xs ++ line ∷ []) ending) ls
  SelectedLines-passed xs line ls h passed =
      rw (numbered-end xs line) (Chosen-passed (λ l. Selected es options l.1) (numbered xs) (length xs + 1, line) ls h passed)

  -- the selected lines of more lines begin with those of fewer
  pub SelectedLines-front : (xs more : List Text) (ls : List (ℕ × Text)) → SelectedLines es options many (file_with name xs ending) ls →
      (ms : List (ℕ × Text)) × SelectedLines es options many (file_with name (xs ++ more) ending) (ls ++ ms)
  SelectedLines-front xs more ls h =
      let rest = Chosen-exist (λ l. Selected es options l.1) (λ l. dec_selected es options l.1) (enumerate_from (1 + length xs) more) in
      let both = EachGives-append _ (numbered xs) (enumerate_from (1 + length xs) more) ls rest.0 h rest.1 in
      (rest.0, rw (enumerate_from-append 1 xs more) both)

  -- the row of one more line, which is selected
  pub RowsOf-end : (xs : List Text) (line : Text) (out : List Text) → RowsOf es options many (file_with name xs ending) out → Selected es options line →
      RowsOf es options many (file_with name (xs ++ line ∷ []) ending) (out ++ (head_of es options many (file_with name xs ending) (length xs + 1) ++ line) ∷ [])
  RowsOf-end xs line _ h selected =
      let row : ℕ × Text → Text = λ l. head_of es options many (file_with name xs ending) l.0 ++ l.1 in
      (h.0 ++ (length xs + 1, line) ∷ [], SelectedLines-end xs _ _ h.1 selected, ap (λ t. t ++ row (length xs + 1, line) ∷ []) h.2 ∙ sym (map-append row h.0 ((length xs + 1, line) ∷ [])))

  -- one more line, which is not selected
  pub RowsOf-passed : (xs : List Text) (line : Text) (out : List Text) → RowsOf es options many (file_with name xs ending) out → (Selected es options line → ⊥) →
      RowsOf es options many (file_with name (xs ++ line ∷ []) ending) out
  RowsOf-passed xs line _ h passed = (h.0, SelectedLines-passed xs _ _ h.1 passed, h.2)

  -- the rows of more lines begin with those of fewer
  pub RowsOf-front : (xs more : List Text) (out : List Text) → RowsOf es options many (file_with name xs ending) out → (rest : List Text) × RowsOf es options many (file_with name (xs ++ more) ending) (out ++ rest)
  RowsOf-front xs more _ h =
      let row : ℕ × Text → Text = λ l. head_of es options many (file_with name xs ending) l.0 ++ l.1 in
      let ls = SelectedLines-front xs more h.0 h.1 in
      (map row ls.0, (h.0 ++ ls.0, ls.1, ap (λ t. t ++ map row ls.0) h.2 ∙ sym (map-append row h.0 ls.0)))

  -- the rows of the parts of one more line, which is selected
  pub PartRowsOf-end : (xs : List Text) (line : Text) (out rows : List Text) → PartRowsOf es options many (file_with name xs ending) out → Selected es options line →
      PartsOfLine es options many (file_with name xs ending) (length xs + 1, line) rows → PartRowsOf es options many (file_with name (xs ++ line ∷ []) ending) (out ++ rows)
  PartRowsOf-end xs line out rows h selected parts =
      (h.0 ++ (length xs + 1, line) ∷ [], SelectedLines-end xs _ _ h.1 selected, EachGives-end _ _ _ _ _ h.2 parts)

  -- one more line, which is not selected
  pub PartRowsOf-passed : (xs : List Text) (line : Text) (out : List Text) → PartRowsOf es options many (file_with name xs ending) out → (Selected es options line → ⊥) →
      PartRowsOf es options many (file_with name (xs ++ line ∷ []) ending) out
  PartRowsOf-passed xs line _ h passed = (h.0, SelectedLines-passed xs _ _ h.1 passed, h.2)

  -- the rows of the parts of more lines begin with those of fewer
  pub PartRowsOf-front : (xs more : List Text) (out : List Text) → PartRowsOf es options many (file_with name xs ending) out → (rest : List Text) × PartRowsOf es options many (file_with name (xs ++ more) ending) (out ++ rest)
  PartRowsOf-front xs more out h =
      let ls = SelectedLines-front xs more h.0 h.1 in
      let rows = EachGives-exist _ (PartsOfLine-exist es options many (file_with name xs ending)) ls.0 in
      (rows.0, (h.0 ++ ls.0, ls.1, EachGives-append _ h.0 ls.0 out rows.0 h.2 rows.1))
