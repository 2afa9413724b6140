-- The output, the messages and the status are determined by the expressions, the options and the
-- files.
use Rattle.{grep_core.proofs.{Prelude.{◌≡◌, ℕ, Bool, true, false, List, [], ◌∷◌, ◌++◌, sym, ap, ◌∙◌, length, map, drop, slice_range, MatchBool, decimal, Text, Expression, Options, Status, colon, prefix, EachGives, File, Ending, whole, missing, broken, Form, nothing, names, counts, parts, lines, around, shown_name, shown_number, head_of, CountOf, RowsOf, PartRowsOf, PartsOfLine, GroupsOf, OutAs, Out, Reached, Message, Messages, StatusOf}, lemmas.{ChooseLaws.{same_value, IfHolds-both, EachGives-determined, Chosen-determined}, AroundLaws.Groups-determined}}, re_syntax.proofs.lemmas.PartsLaws.ArePartsFrom-unique}

module _ (es : List Expression) (options : Options) (many : Bool) where
  -- a file has at most one count
  pub CountOf-determined : (file : File) (ending : Ending) (out more : List Text) → CountOf es options many ending file out → CountOf es options many ending file more → out ≡ more
  CountOf-determined _ missing _ _ a b = same_value a b
  CountOf-determined file whole _ _ a b = a.2 ∙ ap (λ s. (prefix colon (shown_name many file) ++ decimal (length s)) ∷ []) (Chosen-determined _ _ a.0 b.0 a.1 b.1) ∙ sym b.2
  CountOf-determined file broken _ _ a b = a.2 ∙ ap (λ s. (prefix colon (shown_name many file) ++ decimal (length s)) ∷ []) (Chosen-determined _ _ a.0 b.0 a.1 b.1) ∙ sym b.2

  -- a file has at most one list of rows
  pub RowsOf-determined : (file : File) (out more : List Text) → RowsOf es options many file out → RowsOf es options many file more → out ≡ more
  RowsOf-determined file _ _ a b = a.2 ∙ ap (map (λ line. head_of es options many file line.0 ++ line.1)) (Chosen-determined _ _ a.0 b.0 a.1 b.1) ∙ sym b.2

  -- a line has at most one list of rows of its parts
  pub PartsOfLine-determined : (file : File) (line : ℕ × Text) (out more : List Text) → PartsOfLine es options many file line out → PartsOfLine es options many file line more → out ≡ more
  PartsOfLine-determined file line _ _ a b =
      a.2 ∙ ap (map (λ p. head_of es options many file line.0 ++ slice_range line.1 p.0 p.1)) (ArePartsFrom-unique es line.1 options.line_regexp a.0 b.0 0 a.1 b.1) ∙ sym b.2

  -- a file has at most one list of rows of its parts
  pub PartRowsOf-determined : (file : File) (out more : List Text) → PartRowsOf es options many file out → PartRowsOf es options many file more → out ≡ more
  PartRowsOf-determined file out more a b =
      let same = Chosen-determined _ _ a.0 b.0 a.1 b.1 in
      let of_same : EachGives (PartsOfLine es options many file) a.0 more = rw same b.2 in
      EachGives-determined _ (PartsOfLine-determined file) _ _ _ a.2 of_same

  -- files have at most one output in each form
  pub OutAs-determined : (shape : Form) (files : List File) (out more : List Text) → OutAs es options many shape files out → OutAs es options many shape files more → out ≡ more
  OutAs-determined nothing _ _ _ a b = same_value a b
  OutAs-determined names _ _ _ a b = a.2 ∙ ap (map (λ file. file.name)) (Chosen-determined _ _ a.0 b.0 a.1 b.1) ∙ sym b.2
  OutAs-determined counts _ _ _ a b = EachGives-determined _ (λ file. CountOf-determined file file.ending) _ _ _ a b
  OutAs-determined parts _ _ _ a b = EachGives-determined _ PartRowsOf-determined _ _ _ a b
  OutAs-determined lines _ _ _ a b = EachGives-determined _ RowsOf-determined _ _ _ a b
  OutAs-determined (around context) files _ _ a b =
      let groups = EachGives-determined (GroupsOf es options many context) (λ file. Groups-determined es options context (shown_name many file) (shown_number options) file.lines) files a.0 b.0 a.1 b.1 in
      a.2 ∙ ap (drop 1) groups ∙ sym b.2

module _ (es : List Expression) (options : Options) where
  -- files have at most one output
  pub Out-determined : (files : List File) (out more : List Text) → Out es options files out → Out es options files more → out ≡ more
  Out-determined files _ _ a b = OutAs-determined es options _ _ _ _ _ a b

  -- there is at most one list of the files that are reached
  pub Reached-determined : (files r s : List File) → Reached es options files r → Reached es options files s → r ≡ s
  Reached-determined [] r s a b = same_value a b
  Reached-determined (file ∷ files) r s a b =
      let rest = IfHolds-both a.2 b.2 same_value (Reached-determined files a.0 b.0) in
      a.1 ∙ ap (λ t. file ∷ t) rest ∙ sym b.1

  -- a file has at most one list of messages about it
  pub Message-determined : (file : File) (reported more : List Text) → Message es options file reported → Message es options file more → reported ≡ more
  Message-determined _ _ _ a b = IfHolds-both a b same_value same_value

  -- files have at most one list of messages
  pub Messages-determined : (files : List File) (reported more : List Text) → Messages es options files reported → Messages es options files more → reported ≡ more
  Messages-determined files reported more a b = by_flag _ a b
    where
      Reported : Bool → List Text → Type 0
      Reported none rows = MatchBool none (rows ≡ []) ((reached : List File) × Reached es options files reached × EachGives (Message es options) reached rows)

      by_flag : (none : Bool) → Reported none reported → Reported none more → reported ≡ more
      by_flag true c d = same_value c d
      by_flag false c d =
          let same = Reached-determined files c.0 d.0 c.1 d.1 in
          let of_same : EachGives (Message es options) c.0 more = rw same d.2 in
          EachGives-determined _ Message-determined _ _ _ c.2 of_same

  -- there is at most one status
  pub StatusOf-determined : (files : List File) (s t : Status) → StatusOf es options files s → StatusOf es options files t → s ≡ t
  StatusOf-determined _ s t a b = IfHolds-both a b same_value (λ c d. IfHolds-both c d same_value (λ e f. IfHolds-both e f same_value same_value))
