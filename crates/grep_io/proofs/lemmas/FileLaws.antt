-- The file for which a source stands, from the lines that were read of it.
use Rattle.{grep_io.proofs.Prelude.{◌≡◌, ◌+◌, ◌-◌, ◌≤◌, ◌⊎◌, inl, inr, nat_le, List, [], ◌∷◌, ◌++◌, All, refl, ap, ◌∙◌, length, length-append, take, append_assoc, arith, take-append-add, take-append_seam, cases_Bool, cond-true, cond-false, le-leb, lt-leb, Text, newline, lines_of, HasNoNewline, terminated, File, Ending, broken, most_lines, up_to_limit}, re_trees.proofs.lemmas.LinesLaws.{lines_of-line, all_head, all_tail}}

-- a file of this name with these lines
abbrev pub file_with : Text → List Text → Ending → File
file_with name lines ending = record { name = name; lines = lines; ending = ending }

-- after lines that a newline ends the lines of the rest follow
pub lines_of-beyond : (ts : List Text) (rest : Text) → All HasNoNewline ts → lines_of (terminated ts ++ rest) ≡ ts ++ lines_of rest
lines_of-beyond [] rest h = refl
lines_of-beyond (t ∷ ts) rest h = cc (append_assoc t (newline ∷ terminated ts) rest, lines_of-line t (terminated ts ++ rest) (all_head t ts h), lines_of-beyond ts rest (all_tail t ts h))

-- no more lines than can be counted are all lines of the file
pub up_to_limit-few : (name : Text) (lines : List Text) (ending : Ending) → length lines ≤ most_lines → up_to_limit name lines ending ≡ file_with name lines ending
up_to_limit-few name lines ending few = cond-true _ _ _ (le-leb (length lines) most_lines few)

-- where one more line begins, that is a read error after those that can be counted
pub up_to_limit-over : (name : Text) (lines more : List Text) (line : Text) (ending : Ending) → length lines ≡ most_lines → up_to_limit name (lines ++ line ∷ more) ending ≡ file_with name lines broken
up_to_limit-over name lines more line ending full =
    let over : most_lines + 1 ≤ length (lines ++ line ∷ more) = rw (length-append lines (line ∷ more)) (omega arith) in
    let kept : take most_lines (lines ++ line ∷ more) ≡ lines = cc (take-append_seam lines (line ∷ more)) in
    cond-false _ _ _ (lt-leb (length (lines ++ line ∷ more)) most_lines (omega arith)) ∙ ap (λ ls. file_with name ls broken) kept

-- a file some of whose lines were read begins with them, and a failed read is the only other ending
-- that it can have
pub up_to_limit-beyond : (name : Text) (lines more : List Text) (ending : Ending) → length lines ≤ most_lines → (kept : List Text) × (end : Ending) × (up_to_limit name (lines ++ more) ending ≡ file_with name (lines ++ kept) end) × ((end ≡ ending) ⊎ (end ≡ broken))
up_to_limit-beyond name lines more ending few =
    elim (cases_Bool (nat_le (length (lines ++ more)) most_lines)) [
      | inl within ↦ (more, ending, cond-true _ _ _ within, inl refl)
      | inr over ↦ (take (most_lines - length lines) more, broken, cond-false _ _ _ over ∙ ap (λ ls. file_with name ls broken) kept, inr refl)
    ]
  where
    kept : take most_lines (lines ++ more) ≡ lines ++ take (most_lines - length lines) more
    kept =
        let sum : most_lines ≡ length lines + (most_lines - length lines) = omega arith in
        cc (take-append-add lines more (most_lines - length lines))
