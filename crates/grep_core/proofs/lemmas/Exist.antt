-- All expressions, options and files have their output, their messages and their status.
use Rattle.{grep_core.proofs.{Prelude.{◌≡◌, ℕ, Bool, true, false, IsTrue, List, [], ◌∷◌, ◌++◌, inl, inr, refl, length, map, drop, slice_range, MatchBool, Any, decimal, Text, Expression, Context, Options, Status, NoneSelected, Error, colon, prefix, EachGives, File, Ending, whole, missing, broken, Selected, HasSelected, Form, nothing, names, counts, parts, lines, around, shown_name, shown_number, head_of, numbered, SelectedLines, CountOf, RowsOf, PartRowsOf, PartsOfLine, GroupsOf, OutAs, Out, FaultMet, Reached, Message, Messages, AnySelected, StatusOf}, lemmas.{AroundLaws.Groups-exist, ChooseLaws.{IfHolds-exist, EachGives-exist, Chosen-exist}, Decided.{dec_selected, dec_has_selected, dec_any_selected, dec_stops, dec_fault_met}}}, re_syntax.proofs.lemmas.{Decisions.{dec_any, dec_both, dec_IsTrue}, PartsExist.AreParts-exist}}
use Rattle.grep_core.specs.declared.status.Status.TheVariants.{Selected as selected}

module _ (es : List Expression) (options : Options) (many : Bool) where
  -- a file has its selected lines
  pub SelectedLines-exist : (file : File) → (ls : List (ℕ × Text)) × SelectedLines es options many file ls
  SelectedLines-exist file = Chosen-exist (λ line. Selected es options line.1) (λ line. dec_selected es options line.1) (numbered file.lines)

  -- a file has its count
  pub CountOf-exist : (ending : Ending) (file : File) → (out : List Text) × CountOf es options many ending file out
  CountOf-exist missing _ = ([], refl)
  CountOf-exist whole file = let ls = SelectedLines-exist file in ((prefix colon (shown_name many file) ++ decimal (length ls.0)) ∷ [], (ls.0, ls.1, refl))
  CountOf-exist broken file = let ls = SelectedLines-exist file in ((prefix colon (shown_name many file) ++ decimal (length ls.0)) ∷ [], (ls.0, ls.1, refl))

  -- a file has its rows
  pub RowsOf-exist : (file : File) → (out : List Text) × RowsOf es options many file out
  RowsOf-exist file = let ls = SelectedLines-exist file in (map (λ line. head_of es options many file line.0 ++ line.1) ls.0, (ls.0, ls.1, refl))

  -- a line has the rows of its parts
  pub PartsOfLine-exist : (file : File) (line : ℕ × Text) → (out : List Text) × PartsOfLine es options many file line out
  PartsOfLine-exist file line =
      let ps = AreParts-exist es line.1 options.line_regexp in
      (map (λ p. head_of es options many file line.0 ++ slice_range line.1 p.0 p.1) ps.0, (ps.0, ps.1, refl))

  -- a file has the rows of its parts
  pub PartRowsOf-exist : (file : File) → (out : List Text) × PartRowsOf es options many file out
  PartRowsOf-exist file =
      let ls = SelectedLines-exist file in
      let rows = EachGives-exist _ (PartsOfLine-exist file) ls.0 in
      (rows.0, (ls.0, ls.1, rows.1))

  -- files have their groups of lines around selected ones
  pub groups_exist : (context : Context) (files : List File) → (groups : List Text) × EachGives (GroupsOf es options many context) files groups
  groups_exist context files = EachGives-exist (GroupsOf es options many context) (λ file. Groups-exist es options context (shown_name many file) (shown_number options) file.lines) files

  -- files have an output in each form
  pub OutAs-exist : (shape : Form) (files : List File) → (out : List Text) × OutAs es options many shape files out
  OutAs-exist nothing _ = ([], refl)
  OutAs-exist names files = let fs = Chosen-exist _ (dec_has_selected es options) files in (map (λ file. file.name) fs.0, (fs.0, fs.1, refl))
  OutAs-exist counts files = EachGives-exist _ (λ file. CountOf-exist file.ending file) files
  OutAs-exist parts files = EachGives-exist _ PartRowsOf-exist files
  OutAs-exist lines files = EachGives-exist _ RowsOf-exist files
  OutAs-exist (around context) files = let groups = groups_exist context files in (drop 1 groups.0, (groups.0, groups.1, refl))

module _ (es : List Expression) (options : Options) where
  -- files have an output
  pub Out-exist : (files : List File) → (out : List Text) × Out es options files out
  Out-exist files = OutAs-exist es options _ _ _

  -- there is a list of the files that are reached
  pub Reached-exist : (files : List File) → (reached : List File) × Reached es options files reached
  Reached-exist [] = ([], refl)
  Reached-exist (file ∷ files) = by_stop (dec_stops es options file) (Reached-exist files)
    where
      by_stop : Dec (IsTrue options.quiet × HasSelected es options file) → (rest : List File) × Reached es options files rest → (reached : List File) × Reached es options (file ∷ files) reached
      by_stop (yes p) rest = (file ∷ [], ([], refl, inl (p, refl)))
      by_stop (no p) rest = (file ∷ rest.0, (rest.0, refl, inr (p, rest.1)))

  -- a file has a list of messages about it, which may be empty
  pub Message-exist : (file : File) → (reported : List Text) × Message es options file reported
  Message-exist file = IfHolds-exist _ [] (dec_fault_met es options file)

  -- files have a list of messages
  pub Messages-exist : (files : List File) → (reported : List Text) × Messages es options files reported
  Messages-exist files = by_flag options.no_messages
    where
      by_flag : (none : Bool) → (reported : List Text) × MatchBool none (reported ≡ []) ((reached : List File) × Reached es options files reached × EachGives (Message es options) reached reported)
      by_flag true = ([], refl)
      by_flag false =
          let reached = Reached-exist files in
          let reported = EachGives-exist (Message es options) Message-exist reached.0 in
          (reported.0, (reached.0, reached.1, reported.1))

  -- files have a status
  pub StatusOf-exist : (files : List File) → (status : Status) × StatusOf es options files status
  StatusOf-exist files = by_case (dec_both (dec_IsTrue options.quiet) any) (dec_any _ (dec_fault_met es options) files) any
    where
      any : Dec (AnySelected es options files)
      any = dec_any_selected es options _

      by_case : Dec (IsTrue options.quiet × AnySelected es options files) → Dec (Any (FaultMet es options) files) → Dec (AnySelected es options files) → (status : Status) × StatusOf es options files status
      by_case (yes a) b c = (selected, inl (a, refl))
      by_case (no a) (yes b) c = (Error, inr (a, inl (b, refl)))
      by_case (no a) (no b) (yes c) = (selected, inr (a, inr (b, inl (c, refl))))
      by_case (no a) (no b) (no c) = (NoneSelected, inr (a, inr (b, inr (c, refl))))
