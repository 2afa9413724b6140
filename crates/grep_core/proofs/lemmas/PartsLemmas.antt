-- The parts of a line that were written, one more part at a time.
use Rattle.{grep_core.proofs.{Prelude.{◌≡◌, ℕ, ◌≤◌, Bool, List, [], ◌∷◌, ◌++◌, length, map, slice_range, refl, sym, ap, ◌∙◌, append_assoc, append-nil, map-append, Text, Expression, IsFound, IsPart, ArePartsFrom, AreParts, Options, one_more, parts, form, head_of, Writer, TakesAll, TakesFront, file_so_far, RowsOfSelected, WritesSelected, BreaksSelected}, lemmas.WriterLaws.{TakesAll-nothing, TakesAll-more, TakesFront-more, TakesFront-longer}}, re_syntax.proofs.lemmas.{PartsLaws.IsPart-unique, PartsExist.AreParts-exist}}

module _ (es : List Expression) (options : Options) (many : Bool) (name : Text) (number : ℕ) (line : Text) where
  -- the row of a part
  abbrev pub part_row : ℕ × ℕ → Text
  part_row p = head_of es options many (file_so_far name []) number ++ slice_range line p.0 p.1

  -- the rows of the parts before a place were written, and these are the parts from there on
  pub record PartsSoFar (from : ℕ) (old now : Writer) : Type 0 where
    pub done : List (ℕ × ℕ)
    pub left : List (ℕ × ℕ)
    pub are_parts : AreParts es line options.line_regexp (done ++ left)
    pub are_left : ArePartsFrom es line options.line_regexp from left
    pub on_line : from ≤ length line
    pub wrote : TakesAll old now (map part_row done)

  pub parts_none : (w : Writer) → 0 ≤ length line → PartsSoFar 0 w w
  parts_none w on =
      let all = AreParts-exist es line options.line_regexp in
      record { done = []; left = all.0; are_parts = all.1; are_left = all.1; on_line = on; wrote = TakesAll-nothing w }

  -- the next part is the first of those that are left
  next_left : {from : ℕ} (i j : ℕ) (left : List (ℕ × ℕ)) → ArePartsFrom es line options.line_regexp from left → IsPart es line options.line_regexp from i j
      → (rest : List (ℕ × ℕ)) × (left ≡ (i, j) ∷ rest) × ArePartsFrom es line options.line_regexp j rest
  next_left i j [] none p = absurd (none i j p.found)
  next_left {from} i j ((k, l) ∷ rest) are p =
      let same = IsPart-unique es line options.line_regexp from k l i j are.0 p in
      (rest, (λ n. (same.0 n, same.1 n) ∷ rest), rw same.1 at are.1)

  none_left : (from : ℕ) (left : List (ℕ × ℕ)) → ArePartsFrom es line options.line_regexp from left → ((i j : ℕ) → IsFound es line options.line_regexp from i j → ⊥) → left ≡ []
  none_left _ [] _ none = refl
  none_left _ ((k, l) ∷ rest) are none = absurd (none k l are.0.found)

  module _ (asked : form options ≡ parts) where
    -- the rows of all parts are the rows of the line
    are_rows : (ps : List (ℕ × ℕ)) → AreParts es line options.line_regexp ps → RowsOfSelected es options many (form options) name number line (map part_row ps)
    are_rows ps are = rw asked (ps, are, refl)

    -- no part is left
    pub parts_done : {from : ℕ} {old now : Writer} → PartsSoFar from old now → ((i j : ℕ) → IsFound es line options.line_regexp from i j → ⊥) → WritesSelected es options many name number line old now
    parts_done {from} s none = record {
      rows = map part_row s.done;
      are_rows = are_rows _ (rw (ap (λ l. s.done ++ l) (none_left _ _ s.are_left none) ∙ append-nil s.done) at s.are_parts);
      wrote = s.wrote;
    }

    -- a write failed within the row of the next part
    pub parts_broken : {from i j : ℕ} (old mid now : Writer) → PartsSoFar from old mid → IsPart es line options.line_regexp from i j → TakesFront mid now (part_row (i, j) ∷ []) → now.failures ≡ one_more mid.failures
        → BreaksSelected es options many name number line old now
    parts_broken {i = i} {j = j} old mid now s p front failed =
        let next = next_left i j s.left s.are_left p in
        let all = s.done ++ s.left in
        let rows_are =
        ap (λ l. map part_row (s.done ++ l)) next.1 ∙ map-append part_row s.done ((i, j) ∷ next.0) ∙ sym (append_assoc (map part_row s.done) (part_row (i, j) ∷ []) (map part_row next.0)) in
        record {
          rows = map part_row all;
          are_rows = are_rows all s.are_parts;
          wrote = rw rows_are (TakesFront-longer _ (TakesFront-more s.wrote front));
          counted = failed ∙ ap one_more s.wrote.none_failed;
        }

  -- the row of the next part was written
  pub parts_next : {from i j : ℕ} (old mid now : Writer) → PartsSoFar from old mid → IsPart es line options.line_regexp from i j → TakesAll mid now (part_row (i, j) ∷ []) → PartsSoFar j old now
  parts_next {i = i} {j = j} old mid now s p took =
      let next = next_left i j s.left s.are_left p in
      record {
        done = s.done ++ (i, j) ∷ [];
        left = next.0;
        are_parts = rw (ap (λ l. s.done ++ l) next.1 ∙ sym (append_assoc s.done ((i, j) ∷ []) next.0)) at s.are_parts;
        are_left = next.2;
        on_line = p.found.on_line;
        wrote = rw (map-append part_row s.done ((i, j) ∷ [])) (TakesAll-more old mid now (map part_row s.done) (part_row (i, j) ∷ []) s.wrote took);
      }
