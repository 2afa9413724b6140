-- The output for one file, by the rows of its lines and how many are selected.
use Rattle.{grep_core.proofs.{Prelude.{◌≡◌, ℕ, ◌+◌, nat_lt, ◌<◌, ◌⊎◌, Bool, true, false, Decides, List, [], ◌∷◌, ◌++◌, length, Any, refl, ap, ◌∙◌, inl, inr, arith, append-nil, if◌then◌else◌, enumerate_from, Text, Expression, Options, FileEnd, Missing, Whole, Broken, Left, IfHolds, Chosen, File, whole, Selected, HasSelected, Form, nothing, names, counts, parts, lines, around, OutAs, CountOf, RowsOf, PartRowsOf, GroupsOf, SelectedLines, begun, first_lines, file_so_far, GroupedAs, rows_after, IsPlain, LineRowsOf, RowsOfSelected, ending_of, count_line, summary_as, false≢true, lt-ltb, ltb-true, length_push}, lemmas.{ChooseLaws.EachGives-one, Exist.OutAs-exist, MoreLines.{SelectedLines-end, SelectedLines-passed, RowsOf-end, RowsOf-passed, RowsOf-front, PartRowsOf-end, PartRowsOf-passed, PartRowsOf-front}, Verdicts.picked}}, re_syntax.proofs.lemmas.Decisions.{Any-none, Any-first, Any-later, Any-cases}, grep_io.proofs.lemmas.FileLaws.file_with}

-- a number that is greater than 0
pub positive : (n : ℕ) → 0 < n → nat_lt 0 n ≡ true
positive n h = lt-ltb 0 n h

-- a verdict on whether a number is greater than 0
decides_some : {P : Type 0} (n : ℕ) → (0 < n → P) → (P → 0 < n) → Decides (nat_lt 0 n) P
decides_some n f g = ((λ e. f (ltb-true 0 n e)), (λ p. positive n (g p)))

-- one more was chosen, where the verdict is true
pub chosen_count : {A : Type 0} (chosen : List A) (x : A) (selected : ℕ) (found : Bool) → length chosen ≡ selected → length (chosen ++ picked found x) ≡ (if found then selected + 1 else selected)
chosen_count chosen x _ true e = length_push chosen x ∙ ap (λ n. n + 1) e
chosen_count chosen x _ false e = ap length (append-nil chosen) ∙ e

-- a file by its name and its lines
pub file_is : (file : File) {name : Text} {ls : List Text} → file.name ≡ name → file.lines ≡ ls → file ≡ file_with name ls file.ending
file_is file {name} named has = λ i. record { name = named i; lines = has i; ending = file.ending }

module _ (es : List Expression) (options : Options) (many : Bool) where
  -- where a line was chosen, one is selected
  some_chosen : (n : ℕ) (xs : List Text) (chosen : List (ℕ × Text)) → Chosen (λ l. Selected es options l.1) (enumerate_from n xs) chosen → 0 < length chosen → Any (Selected es options) xs
  some_chosen n [] chosen h some = absurd (omega (arith, ap length h))
  some_chosen n (x ∷ xs) chosen h some =
      elim h.2 [
        | inl here ↦ Any-first (Selected es options) x xs here.0
        | inr not_here ↦ (let same = h.4 ∙ ap (λ f. f ++ h.1) not_here.1 in
            Any-later (Selected es options) x xs (some_chosen (n + 1) xs h.1 h.3 (omega (arith, ap length same))))
      ]

  -- where a line is selected, one was chosen
  chosen_some : (n : ℕ) (xs : List Text) (chosen : List (ℕ × Text)) → Chosen (λ l. Selected es options l.1) (enumerate_from n xs) chosen → Any (Selected es options) xs → 0 < length chosen
  chosen_some n [] _ h some = absurd (Any-none (Selected es options) some)
  chosen_some n (x ∷ xs) chosen h some =
      elim h.2 [
        | inl here ↦ (let same = h.4 ∙ ap (λ f. f ++ h.1) here.1 in omega (arith, ap length same))
        | inr not_here ↦ (let same = h.4 ∙ ap (λ f. f ++ h.1) not_here.1 in
            elim (Any-cases (Selected es options) x xs some) [
              | inl s ↦ absurd (not_here.0 s)
              | inr later ↦ (let rest = chosen_some (n + 1) xs h.1 h.3 later in omega (arith, ap length same, rest))
            ])
      ]

  -- the number of chosen lines says whether one is selected
  pub chosen_decides : (name : Text) (xs : List Text) (chosen : List (ℕ × Text)) → SelectedLines es options many (file_so_far name xs) chosen → Decides (nat_lt 0 (length chosen)) (Any (Selected es options) xs)
  chosen_decides _ xs chosen h = decides_some _ (some_chosen 1 xs chosen h) (chosen_some 1 xs chosen h)

  -- ---- one more line

  pub rows_none : (name : Text) (shape : Form) → LineRowsOf es options many shape (file_so_far name []) []
  rows_none _ nothing = refl
  rows_none _ names = refl
  rows_none _ counts = refl
  rows_none _ parts = ([], refl, refl)
  rows_none _ lines = ([], refl, refl)
  rows_none _ (around context) = refl

  none_written : {rows : List Text} (out : List Text) {P : Type 0} → rows ≡ [] → IfHolds P (out ≡ []) (out ≡ []) → rows ++ out ≡ []
  none_written _ h (inl (p, e)) = λ i. h i ++ e i
  none_written _ h (inr (p, e)) = λ i. h i ++ e i

  -- the rows of one more line follow those of the lines before it
  pub rows_line : (name : Text) (shape : Form) → IsPlain shape → (xs : List Text) (line : Text) (rows out : List Text) → LineRowsOf es options many shape (file_so_far name xs) rows
      → IfHolds (Selected es options line) (RowsOfSelected es options many shape name (length xs + 1) line out) (out ≡ []) → LineRowsOf es options many shape (file_so_far name (xs ++ line ∷ [])) (rows ++ out)
  rows_line _ nothing _ _ _ _ out h k = none_written out h k
  rows_line _ names _ _ _ _ out h k = none_written out h k
  rows_line _ counts _ _ _ _ out h k = none_written out h k
  rows_line name parts _ xs line rows out h (inl (s, e)) = PartRowsOf-end es options many name whole xs line rows out h s e
  rows_line name parts plain xs line rows out h (inr (n, e)) =
      rw (ap (λ o. rows ++ o) e ∙ append-nil rows) (PartRowsOf-passed es options many name whole xs line rows h n)
  rows_line name lines plain xs line rows out h (inl (s, e)) =
      rw e (RowsOf-end es options many name whole xs line rows h s)
  rows_line name lines plain xs line rows out h (inr (n, e)) =
      rw (ap (λ o. rows ++ o) e ∙ append-nil rows) (RowsOf-passed es options many name whole xs line rows h n)
  rows_line _ (around context) plain _ _ _ _ h k = absurd plain

  -- the selected lines of one more line, with its verdict
  pub chosen_line : (name : Text) (xs : List Text) (line : Text) (chosen : List (ℕ × Text)) (found : Bool) → SelectedLines es options many (file_so_far name xs) chosen → Decides found (Selected es options line)
      → SelectedLines es options many (file_so_far name (xs ++ line ∷ [])) (chosen ++ picked found (length xs + 1, line))
  chosen_line name xs line chosen true h d = SelectedLines-end es options many name whole xs line chosen h (d.0 refl)
  chosen_line name xs line chosen false h d =
      rw (append-nil chosen) (SelectedLines-passed es options many name whole xs line chosen h (λ s. false≢true (d.1 s)))

  -- ---- the output for one file

  -- the name of the file, where a line is selected
  named_out : (file : File) (some : Bool) → Decides some (HasSelected es options file) → OutAs es options many names (file ∷ []) (if some then file.name ∷ [] else [])
  named_out file true d = (file ∷ [], EachGives-one (λ x zs. IfHolds (HasSelected es options x) (zs ≡ x ∷ []) (zs ≡ [])) _ _ (inl (d.0 refl, refl)), refl)
  named_out file false d = ([], EachGives-one (λ x zs. IfHolds (HasSelected es options x) (zs ≡ x ∷ []) (zs ≡ [])) file [] (inr ((λ s. false≢true (d.1 s)), refl)), refl)

  -- the count of a file that was read to its end
  count_out : (name : Text) (ls : List Text) (end : FileEnd) (chosen : List (ℕ × Text)) → SelectedLines es options many (file_so_far name ls) chosen
      → CountOf es options many (ending_of end) (file_with name ls (ending_of end)) (count_line many name end (length chosen))
  count_out _ _ Missing _ h = refl
  count_out _ _ Whole chosen h = (chosen, h, refl)
  count_out _ _ Broken chosen h = (chosen, h, refl)
  count_out _ _ Left chosen h = (chosen, h, refl)

  -- after the rows of all lines the summary completes the output
  pub output_all : (name : Text) (ls : List Text) (end : FileEnd) (shape : Form) (rows : List Text) (chosen : List (ℕ × Text)) → LineRowsOf es options many shape (file_so_far name ls) rows → SelectedLines es options many (file_so_far name ls) chosen
      → GroupedAs es options many shape (file_with name ls (ending_of end) ∷ []) (rows ++ summary_as shape many name end (length chosen))
  output_all _ _ _ nothing _ _ h c = λ i. h i ++ []
  output_all name ls end names rows chosen h c =
      let file = file_with name ls (ending_of end) in
      rw h (named_out file (nat_lt 0 (length chosen)) (chosen_decides name ls chosen c))
  output_all name ls end counts rows chosen h c =
      let file = file_with name ls (ending_of end) in
      rw h (EachGives-one (λ f out. CountOf es options many f.ending f out) file (count_line many name end (length chosen)) (count_out name ls end chosen c))
  output_all name ls end parts rows chosen h c =
      rw (append-nil rows) (EachGives-one (PartRowsOf es options many) (file_with name ls (ending_of end)) rows h)
  output_all name ls end lines rows chosen h c =
      rw (append-nil rows) (EachGives-one (RowsOf es options many) (file_with name ls (ending_of end)) rows h)
  output_all name ls end (around context) rows chosen h c =
      rw (append-nil rows) (EachGives-one (GroupsOf es options many context) (file_with name ls (ending_of end)) rows h)

  -- of a file that was left at a selected line only its name is written, if that
  pub output_left : (file : File) {name : Text} (ls : List Text) (shape : Form) (rows : List Text) (selected : ℕ) → file.name ≡ name → (shape ≡ nothing) ⊎ (shape ≡ names) → LineRowsOf es options many shape (file_so_far name ls) rows
      → Decides (nat_lt 0 selected) (HasSelected es options file) → GroupedAs es options many shape (file ∷ []) (rows ++ summary_as shape many name Left selected)
  output_left _ _ nothing _ _ _ _ h d = λ i. h i ++ []
  output_left file ls names rows selected named early h d =
      rw h
      (rw (← named) (named_out _ _ d))
  output_left file ls counts rows selected named early h d = absurd (elim early [ inl e ↦ (cc) | inr e ↦ (cc) ])
  output_left file ls parts rows selected named early h d = absurd (elim early [ inl e ↦ (cc) | inr e ↦ (cc) ])
  output_left file ls lines rows selected named early h d = absurd (elim early [ inl e ↦ (cc) | inr e ↦ (cc) ])
  output_left file ls (around context) rows selected named early h d = absurd (elim early [ inl e ↦ (cc) | inr e ↦ (cc) ])

  -- the rows of a file's first lines are a beginning of its output
  pub output_front : (file : File) {name : Text} (ls more : List Text) (shape : Form) → IsPlain shape → (rows : List Text) → file.name ≡ name → file.lines ≡ ls ++ more → LineRowsOf es options many shape (file_so_far name ls) rows
      → (rest : List Text) × GroupedAs es options many shape (file ∷ []) (rows ++ rest)
  output_front file ls more nothing plain rows named has h = let all = OutAs-exist es options many nothing (file ∷ []) in (all.0, rw h all.1)
  output_front file ls more names plain rows named has h = let all = OutAs-exist es options many names (file ∷ []) in (all.0, rw h all.1)
  output_front file ls more counts plain rows named has h = let all = OutAs-exist es options many counts (file ∷ []) in (all.0, rw h all.1)
  output_front file {name} ls more parts plain rows named has h =
      let all = PartRowsOf-front es options many name whole ls more rows h in
      (all.0, rw (file_is file named has) (EachGives-one (PartRowsOf es options many) (file_with name (ls ++ more) file.ending) (rows ++ all.0) all.1))
  output_front file {name} ls more lines plain rows named has h =
      let all = RowsOf-front es options many name whole ls more rows h in
      (all.0, rw (file_is file named has) (EachGives-one (RowsOf es options many) (file_with name (ls ++ more) file.ending) (rows ++ all.0) all.1))
  output_front _ _ _ (around context) plain _ _ _ h = absurd plain

  -- the rows of a file's first lines are what is begun with them
  pub rows_begun : (shape : Form) (n : ℕ) (file : File) (rows : List Text) → LineRowsOf es options many shape (first_lines n file) rows → GroupedAs es options many shape (begun shape n file) rows
  rows_begun nothing n _ _ h = h
  rows_begun names n _ _ h = ([], refl, h)
  rows_begun counts n _ _ h = h
  rows_begun parts n file rows h = EachGives-one (PartRowsOf es options many) (first_lines n file) rows h
  rows_begun lines n file rows h = EachGives-one (RowsOf es options many) (first_lines n file) rows h
  rows_begun (around context) n file rows h = EachGives-one (GroupsOf es options many context) (first_lines n file) rows h

-- where no lines are shown around selected ones, no separator is left out
pub plain_rows : (shape : Form) → IsPlain shape → (shown : Bool) (rows : List Text) → rows_after shape shown rows ≡ rows
plain_rows nothing _ _ _ = refl
plain_rows names _ _ _ = refl
plain_rows counts _ _ _ = refl
plain_rows parts _ _ _ = refl
plain_rows lines _ _ _ = refl
plain_rows (around context) plain _ _ = absurd plain
