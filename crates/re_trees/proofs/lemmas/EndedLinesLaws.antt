-- `ended_lines_of` gives the one list of lines that newlines end in an input.
use Rattle.re_trees.proofs.{Prelude.{◌≡◌, ℕ, ◌⊎◌, inl, inr, nat_eq, ◌≢◌, List, [], ◌∷◌, ◌++◌, All, if◌then◌else◌, refl, sym, ap, ◌∙◌, append_assoc, ne_eqb, cases_eq, Text, newline, put_before_first, ended_lines_of, HasNoNewline, terminated, AreEndedLines}, lemmas.LinesLaws.{first_differs, rest_has_none, none_before, none_in_empty, all_cons, byte_before, all_head, all_tail, all_none}}

-- what the first line is, and what follows it
pub ended_lines_of-line : (t rest : Text) → HasNoNewline t → ended_lines_of (t ++ newline ∷ rest) ≡ t ∷ ended_lines_of rest
unfolding ended_lines_of
ended_lines_of-line [] rest h = refl
ended_lines_of-line (b ∷ t) rest h = rw (first_differs b t h, ended_lines_of-line t rest (rest_has_none b t h))

-- a text without newline has no line that is ended
pub ended_lines_of-last : (t : Text) → HasNoNewline t → ended_lines_of t ≡ []
unfolding ended_lines_of
ended_lines_of-last [] h = refl
ended_lines_of-last (b ∷ t) h = rw (first_differs b t h, ended_lines_of-last t (rest_has_none b t h))

-- the lines of texts that are each followed by a newline are those texts, with any unfinished line
-- after them
pub ended_lines_of-unfinished : (ts : List Text) (rest : Text) → All HasNoNewline ts → HasNoNewline rest → ended_lines_of (terminated ts ++ rest) ≡ ts
ended_lines_of-unfinished [] rest h k = ended_lines_of-last rest k
ended_lines_of-unfinished (t ∷ ts) rest h k =
    ap ended_lines_of (append_assoc t (newline ∷ terminated ts) rest) ∙ ended_lines_of-line t (terminated ts ++ rest) (all_head t ts h)
    ∙ ap (λ us. t ∷ us) (ended_lines_of-unfinished ts rest (all_tail t ts h) k)

-- an input has no other list of lines that are ended
pub ended_lines_of-unique : (bytes : Text) (ts : List Text) → AreEndedLines bytes ts → ts ≡ ended_lines_of bytes
ended_lines_of-unique bytes ts (none, (rest, k, whole)) = sym (cc (ended_lines_of-unfinished ts rest none k))

-- a newline in front adds an empty first line
after_newline : (t : Text) (ts : List Text) → AreEndedLines t ts → AreEndedLines (newline ∷ t) ([] ∷ ts)
after_newline t ts (none, (rest, k, whole)) = (all_cons [] ts none_in_empty none, (rest, k, rw whole))

-- a byte in front belongs to the first line, or to the unfinished one
after_byte : (b : ℕ) → b ≢ newline → (t : Text) (ts : List Text) → AreEndedLines t ts → AreEndedLines (b ∷ t) (put_before_first b ts)
after_byte b n t [] (none, (rest, k, whole)) = (all_none, (b ∷ rest, none_before b rest n k, rw whole))
after_byte b n t (line ∷ ts) (none, (rest, k, whole)) = (byte_before b line ts n none, (rest, k, rw whole))

-- the lines that newlines end are those of the definition
pub AreEndedLines-ended_lines_of : (bytes : Text) → AreEndedLines bytes (ended_lines_of bytes)
unfolding ended_lines_of
AreEndedLines-ended_lines_of [] = (all_none, ([], none_in_empty, refl))
AreEndedLines-ended_lines_of (b ∷ t) = go (cases_eq b newline) (AreEndedLines-ended_lines_of t)
  where
    go : (b ≡ newline) ⊎ (b ≡ newline → ⊥) → AreEndedLines t (ended_lines_of t) →
        AreEndedLines (b ∷ t) (if nat_eq b newline then [] ∷ ended_lines_of t else put_before_first b (ended_lines_of t))
    go (inl e) h = rw e (after_newline t _ h)
    go (inr n) h = rw (ne_eqb b newline n) (after_byte b n t _ h)
