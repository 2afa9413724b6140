-- What is written of output in which each group of lines is after a separator, for some files and
-- for others after them.
use Rattle.{grep_core.proofs.{Prelude.{◌≡◌, ℕ, Bool, true, false, Decides, List, [], ◌∷◌, ◌++◌, drop, inl, inr, refl, sym, ap, ◌∙◌, append-nil, false≢true, Text, Expression, Context, Options, FileEnd, EachGives, File, HasSelected, AnySelected, Form, nothing, names, counts, parts, lines, around, shown_name, shown_number, GroupsOf, GroupedAs, rows_after, summary_as}, lemmas.AroundLaws.{first_empty, second_empty, groups_none, groups_some}}, re_syntax.proofs.lemmas.Decisions.{Any-none, Any-first, Any-later, Any-cases}}

-- ---- what is written of such output

-- what is written of some output is a beginning of what is written of that and more
pub after_longer : (shape : Form) (shown : Bool) (rows more : List Text) → (rest : List Text) × (rows_after shape shown (rows ++ more) ≡ rows_after shape shown rows ++ rest)
after_longer nothing _ _ more = (more, refl)
after_longer names _ _ more = (more, refl)
after_longer counts _ _ more = (more, refl)
after_longer parts _ _ more = (more, refl)
after_longer lines _ _ more = (more, refl)
after_longer (around context) true _ more = (more, refl)
after_longer (around context) false [] more = (drop 1 more, refl)
after_longer (around context) false (row ∷ rows) more = (more, refl)

-- no row was written
pub after_nothing : (shape : Form) (shown : Bool) → rows_after shape shown [] ≡ []
after_nothing nothing _ = refl
after_nothing names _ = refl
after_nothing counts _ = refl
after_nothing parts _ = refl
after_nothing lines _ = refl
after_nothing (around context) true = refl
after_nothing (around context) false = refl

-- a summary is written as it is
pub after_summary : (shape : Form) (shown many : Bool) (name : Text) (end : FileEnd) (selected : ℕ) (rows : List Text)
    → rows_after shape shown (rows ++ summary_as shape many name end selected) ≡ rows_after shape shown rows ++ summary_as shape many name end selected
after_summary nothing _ _ _ _ _ _ = refl
after_summary names _ _ _ _ _ _ = refl
after_summary counts _ _ _ _ _ _ = refl
after_summary parts _ _ _ _ _ _ = refl
after_summary lines _ _ _ _ _ _ = refl
after_summary (around context) shown _ _ _ _ rows =
    ap (rows_after (around context) shown) (append-nil rows) ∙ sym (append-nil (rows_after (around context) shown rows))

-- groups after some or no others
two_written : (context : Context) (some : Bool) (rows more : List Text) → (some ≡ true → rows ≡ [] → ⊥) → (some ≡ false → rows ≡ [])
    → rows_after (around context) false (rows ++ more) ≡ rows_after (around context) false rows ++ rows_after (around context) some more
two_written _ true [] _ there none = absurd (there refl refl)
two_written _ true (row ∷ rows) _ _ none = refl
two_written _ false [] _ _ none = refl
two_written context false (row ∷ rows) more there none = absurd (let e = none refl in cc)

module _ (es : List Expression) (options : Options) (many : Bool) where
  -- ---- there is output exactly where a line is selected

  -- files without a selected line have no groups
  all_none : (context : Context) (files : List File) (rows : List Text) → EachGives (GroupsOf es options many context) files rows → (AnySelected es options files → ⊥) → rows ≡ []
  all_none _ [] _ h none = h
  all_none context (file ∷ files) _ h none =
      let here = groups_none es options context (shown_name many file) (shown_number options) file.lines h.0 h.2 (λ some. none (Any-first (HasSelected es options) file files some)) in
      let rest = all_none context files h.1 h.3 (λ some. none (Any-later (HasSelected es options) file files some)) in
      h.4 ∙ (λ i. here i ++ rest i)

  -- and files with one have some
  all_some : (context : Context) (files : List File) (rows : List Text) → EachGives (GroupsOf es options many context) files rows → AnySelected es options files → rows ≡ [] → ⊥
  all_some _ [] _ h some = absurd (Any-none (HasSelected es options) some)
  all_some context (file ∷ files) _ h some =
      elim (Any-cases (HasSelected es options) file files some) [
        | inl here ↦ (λ nothing. groups_some es options context (shown_name many file) (shown_number options) file.lines h.2 here (first_empty h.0 h.1 (sym h.4 ∙ nothing)))
        | inr later ↦ (λ nothing. all_some context files h.1 h.3 later (second_empty h.0 h.1 (sym h.4 ∙ nothing)))
      ]

  -- what is written for some files and for others after them, where `some` says whether the first
  -- have a selected line
  pub after_two : (shape : Form) (files : List File) (rows more : List Text) {some : Bool} → GroupedAs es options many shape files rows → Decides some (AnySelected es options files)
      → rows_after shape false (rows ++ more) ≡ rows_after shape false rows ++ rows_after shape some more
  after_two nothing _ _ _ h d = refl
  after_two names _ _ _ h d = refl
  after_two counts _ _ _ h d = refl
  after_two parts _ _ _ h d = refl
  after_two lines _ _ _ h d = refl
  after_two (around context) files rows more {some} h d =
      two_written context some rows more (λ e. all_some context files rows h (d.0 e)) (λ e. all_none context files rows h (λ any. false≢true (sym e ∙ d.1 any)))
