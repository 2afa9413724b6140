-- Expressions that hold on the same stretches give the same output, messages and status, and fewer
-- of them cost no more.
use Rattle.{grep_core.{proofs.{Prelude.{◌++◌, ◌≡◌, ℕ, zero, suc, ◌+◌, ◌≤◌, ◌↔◌, Bool, true, false, List, [], ◌∷◌, inl, inr, length, Any, MatchBool, Option, Result, Ok, Err, arith, Text, Expression, alt, Holds, Matches, IsFound, IsPart, ArePartsFrom, Context, Options, Status, RunFault, MessageWrite, IsShown, BeginsGroup, Groups, IfHolds, EachGives, File, Ending, whole, missing, broken, Matched, Selected, HasSelected, FaultMetBy, FaultMet, Stops, Reached, Message, Messages, AnySelected, StatusOf, Form, nothing, names, counts, parts, lines, around, form, shown_name, shown_number, GroupsOf, SelectedLines, CountOf, RowsOf, PartsOfLine, PartRowsOf, OutAs, Source, Reading, file_of, files_of, Writer, WritesAll, Devices, FailuresMet, LeftMet, Story, BreaksOff, RunGives, IsSameChoice, ServesForOthers, part_searches, line_cost, lines_cost, files_cost, sum_by-cons, mul-le-mul_left, mul-le-mul_right}, lemmas.CostLaws.cost_within}, specs.declared.status.RunFault.TheVariants.{Write, Memory}}, re_syntax.proofs.lemmas.Decisions.{Any-first, Any-later, Any-cases, Any-none}}

-- ---- what holds of some element

-- a choice holds where some branch does
pub alt-holds : (line : Text) (i j : ℕ) (es : List Expression) → Holds line (alt es) i j ↔ Any (λ e. Holds line e i j) es
alt-holds line i j [] = (λ h. absurd h, λ a. absurd (Any-none (λ e. Holds line e i j) a))
alt-holds line i j (e ∷ es) =
    let P : Expression → Type 0 = λ d. Holds line d i j in
    let rest = alt-holds line i j es in (
      (λ h. elim h [ inl here ↦ Any-first P e es here | inr later ↦ Any-later P e es (rest.0 later) ]),
      (λ a. elim (Any-cases P e es a) [ inl here ↦ inl here | inr later ↦ inr (rest.1 later) ]),
    )

-- one choice of all expressions is the same choice as they are
pub alt-is_same : (es : List Expression) → IsSameChoice (alt es ∷ []) es
alt-is_same es = λ line i j. (λ a. (alt-holds line i j es).0 (only line i j a), λ a. Any-first (λ e. Holds line e i j) (alt es) [] ((alt-holds line i j es).1 a))
  where
    only : (line : Text) (i j : ℕ) → Any (λ e. Holds line e i j) (alt es ∷ []) → Holds line (alt es) i j
    only line i j a = elim (Any-cases (λ e. Holds line e i j) (alt es) [] a) [ inl h ↦ h | inr none ↦ absurd (Any-none (λ e. Holds line e i j) none) ]

-- the other way around
pub other_way : (ds es : List Expression) → IsSameChoice ds es → IsSameChoice es ds
other_way _ _ same = λ line i j. ((same line i j).1, (same line i j).0)

-- ---- lines

-- some expression matches the line on the stretch on which another does
pub Any-Matches : (ds es : List Expression) → IsSameChoice ds es → (line : Text) (w : Bool) → Any (λ d. Matches d line w) ds → Any (λ e. Matches e line w) es
Any-Matches _ _ same line false a =
    let (i, j, on_line, h) : (i j : ℕ) × (j ≤ length line) × Holds line a.1 i j = a.4 in
    let b = (same line i j).0 (a.0, a.1, a.2, a.3, h) in
    (b.0, b.1, b.2, b.3, (i, j, on_line, b.4))
Any-Matches _ _ same line true a = (same line 0 (length line)).0 a

-- a stretch is found for the one as for the others
pub IsFound-same : (ds es : List Expression) → IsSameChoice ds es → (line : Text) (w : Bool) (from i j : ℕ) → IsFound ds line w from i j → IsFound es line w from i j
IsFound-same _ _ same line w _ i j f = record { begins = f.begins; not_empty = f.not_empty; on_line = f.on_line; is_whole = f.is_whole; holds = (same line i j).0 f.holds }

-- a file's line is selected by the one as by the others
Selected-same : (ds es : List Expression) (options : Options) → IsSameChoice ds es → (line : Text) → Selected ds options line → Selected es options line
Selected-same ds es options same line = go options.invert_match
  where
    go : (b : Bool) → MatchBool b (Matched ds options line → ⊥) (Matched ds options line) → MatchBool b (Matched es options line → ⊥) (Matched es options line)
    go true h = λ m. h (Any-Matches es ds (other_way ds es same) line options.line_regexp m)
    go false h = Any-Matches ds es same line options.line_regexp h

-- and so are parts
pub IsPart-same : (ds es : List Expression) → IsSameChoice ds es → (line : Text) (w : Bool) (from i j : ℕ) → IsPart ds line w from i j → IsPart es line w from i j
IsPart-same ds es same line w from i j p = record {
  found = IsFound-same ds es same line w from i j p.found;
  earliest = λ k l f. p.earliest k l (IsFound-same es ds (other_way ds es same) line w from k l f);
  longest = λ l f. p.longest l (IsFound-same es ds (other_way ds es same) line w from i l f);
}

pub ArePartsFrom-same : (ds es : List Expression) → IsSameChoice ds es → (line : Text) (w : Bool) (from : ℕ) (ps : List (ℕ × ℕ)) → ArePartsFrom ds line w from ps → ArePartsFrom es line w from ps
ArePartsFrom-same ds es same line w from [] none = λ i j f. none i j (IsFound-same es ds (other_way ds es same) line w from i j f)
ArePartsFrom-same ds es same line w from ((i, j) ∷ rest) p = (IsPart-same ds es same line w from i j p.0, ArePartsFrom-same ds es same line w j rest p.1)

-- ---- lists of what is chosen

IfHolds-map : {P Q A B C D : Type 0} → (P → Q) → (Q → P) → (A → C) → (B → D) → IfHolds P A B → IfHolds Q C D
IfHolds-map to _ f g (inl h) = inl (to h.0, f h.1)
IfHolds-map _ back f g (inr h) = inr ((λ q. h.0 (back q)), g h.1)

EachGives-map : {A B : Type 0} (R S : A → List B → Type 0) → ((x : A) (ys : List B) → R x ys → S x ys) → (xs : List A) (ys : List B) → EachGives R xs ys → EachGives S xs ys
EachGives-map R S f [] _ h = h
EachGives-map R S f (x ∷ xs) _ h = (h.0, h.1, f x h.0 h.2, EachGives-map R S f xs h.1 h.3, h.4)

-- ---- lines around selected ones

module _ (options : Options) (context : Context) where
  IsShown-same : (ds es : List Expression) → IsSameChoice ds es → (text : List Text) (k : ℕ) → IsShown ds options context text k → IsShown es options context text k
  IsShown-same ds es same _ k s = record { place = s.place; on = s.on; selected = Selected-same ds es options same _ s.selected; before = s.before; after = s.after }

  BeginsGroup-same : (ds es : List Expression) → IsSameChoice ds es → (text : List Text) (k : ℕ) → BeginsGroup ds options context text k → BeginsGroup es options context text k
  BeginsGroup-same _ _ _ _ zero begins = begins
  BeginsGroup-same ds es same text (suc k) hidden = λ shown. hidden (IsShown-same es ds (other_way ds es same) text k shown)

  Groups-same : (ds es : List Expression) → IsSameChoice ds es → (name : Option Text) (shown_number : ℕ → Option ℕ) (text groups : List Text) → Groups ds options context name shown_number text groups → Groups es options context name shown_number text groups
  Groups-same ds es same _ _ text _ h =
      let back = other_way ds es same in
      EachGives-map _ _
      (λ line out. IfHolds-map (IsShown-same ds es same text line.0) (IsShown-same es ds back text line.0)
      (λ shown. (shown.0, IfHolds-map (Selected-same ds es options same line.1) (Selected-same es ds options back line.1) (λ a. a) (λ b. b) shown.1, IfHolds-map (BeginsGroup-same ds es same text line.0) (BeginsGroup-same es ds back text line.0) (λ a. a) (λ b. b) shown.2))
      (λ b. b))
      _ _ h

module _ (options : Options) where
  HasSelected-same : (ds es : List Expression) → IsSameChoice ds es → (file : File) → HasSelected ds options file → HasSelected es options file
  HasSelected-same ds es same _ h = (h.0, h.1, h.2, h.3, Selected-same ds es options same h.1 h.4)

  FaultMet-same : (ds es : List Expression) → IsSameChoice ds es → (file : File) → FaultMet ds options file → FaultMet es options file
  FaultMet-same ds es same file = go file.ending
    where
      go : (ending : Ending) → FaultMetBy ds options ending file → FaultMetBy es options ending file
      go whole h = h
      go missing h = h
      go broken h = λ early has. h early (HasSelected-same es ds (other_way ds es same) file has)

  AnySelected-same : (ds es : List Expression) → IsSameChoice ds es → (files : List File) → AnySelected ds options files → AnySelected es options files
  AnySelected-same ds es same _ h = (h.0, h.1, h.2, h.3, HasSelected-same ds es same h.1 h.4)

  AnyFault-same : (ds es : List Expression) → IsSameChoice ds es → (files : List File) → Any (FaultMet ds options) files → Any (FaultMet es options) files
  AnyFault-same ds es same _ h = (h.0, h.1, h.2, h.3, FaultMet-same ds es same h.1 h.4)

  module _ (ds es : List Expression) (same : IsSameChoice ds es) where
    -- where it is asked of the expressions, the answer is the same
    for_stops : {A B C D : Type 0} (file : File) → (A → C) → (B → D) → IfHolds (Stops ds options file) A B → IfHolds (Stops es options file) C D
    for_stops file f g = IfHolds-map (λ h. (h.0, HasSelected-same ds es same file h.1)) (λ h. (h.0, HasSelected-same es ds (other_way ds es same) file h.1)) f g

    for_fault : {A B C D : Type 0} (file : File) → (A → C) → (B → D) → IfHolds (FaultMet ds options file) A B → IfHolds (FaultMet es options file) C D
    for_fault file f g = IfHolds-map (FaultMet-same ds es same file) (FaultMet-same es ds (other_way ds es same) file) f g

    -- ---- output

    SelectedLines-same : (many : Bool) (file : File) (selected : List (ℕ × Text)) → SelectedLines ds options many file selected → SelectedLines es options many file selected
    SelectedLines-same _ _ _ h =
        EachGives-map _ _
        (λ line zs. IfHolds-map (Selected-same ds es options same line.1) (Selected-same es ds options (other_way ds es same) line.1) (λ a. a) (λ b. b))
        _ _ h

    CountOf-same : (many : Bool) (ending : Ending) (file : File) (out : List Text) → CountOf ds options many ending file out → CountOf es options many ending file out
    CountOf-same _ missing _ _ h = h
    CountOf-same many whole file _ h = (h.0, SelectedLines-same many file h.0 h.1, h.2)
    CountOf-same many broken file _ h = (h.0, SelectedLines-same many file h.0 h.1, h.2)

    PartsOfLine-same : (many : Bool) (file : File) (line : ℕ × Text) (out : List Text) → PartsOfLine ds options many file line out → PartsOfLine es options many file line out
    PartsOfLine-same _ _ line _ h = (h.0, ArePartsFrom-same ds es same line.1 options.line_regexp 0 h.0 h.1, h.2)

    OutAs-same : (many : Bool) (shape : Form) (files : List File) (out : List Text) → OutAs ds options many shape files out → OutAs es options many shape files out
    OutAs-same _ nothing _ _ h = h
    OutAs-same _ names files _ h =
        (h.0, EachGives-map _ _ (λ file zs. IfHolds-map (HasSelected-same ds es same file) (HasSelected-same es ds (other_way ds es same) file) (λ a. a) (λ b. b)) files h.0 h.1, h.2)
    OutAs-same many counts _ _ h = EachGives-map _ _ (λ file rows. CountOf-same many file.ending file rows) _ _ h
    OutAs-same many parts _ _ h =
        EachGives-map (PartRowsOf ds options many) (PartRowsOf es options many)
        (λ file rows r. (r.0, SelectedLines-same many file r.0 r.1, EachGives-map (PartsOfLine ds options many file) (PartsOfLine es options many file) (PartsOfLine-same many file) r.0 rows r.2))
        _ _ h
    OutAs-same many lines _ _ h =
        EachGives-map (RowsOf ds options many) (RowsOf es options many) (λ file rows r. (r.0, SelectedLines-same many file r.0 r.1, r.2)) _ _ h
    OutAs-same many (around context) files _ h =
        (h.0, EachGives-map (GroupsOf ds options many context) (GroupsOf es options many context) (λ file rows r. Groups-same options context ds es same (shown_name many file) (shown_number options) file.lines rows r) files h.0 h.1, h.2)

    -- ---- messages and status

    Reached-same : (files reached : List File) → Reached ds options files reached → Reached es options files reached
    Reached-same [] _ h = h
    Reached-same (file ∷ files) _ h = (h.0, h.1, for_stops file (λ a. a) (Reached-same files h.0) h.2)

    Messages-same : (files : List File) (reported : List Text) → Messages ds options files reported → Messages es options files reported
    Messages-same files reported = go options.no_messages
      where
        go : (b : Bool) → MatchBool b (reported ≡ []) ((reached : List File) × Reached ds options files reached × EachGives (Message ds options) reached reported)
            → MatchBool b (reported ≡ []) ((reached : List File) × Reached es options files reached × EachGives (Message es options) reached reported)
        go true h = h
        go false h = (h.0, Reached-same _ _ h.1, EachGives-map (Message ds options) (Message es options) (λ file reported. for_fault file (λ a. a) (λ b. b)) _ _ h.2)

    StatusOf-same : (files : List File) (status : Status) → StatusOf ds options files status → StatusOf es options files status
    StatusOf-same files _ h =
        IfHolds-map (λ q. (q.0, AnySelected-same ds es same _ q.1)) (λ q. (q.0, AnySelected-same es ds (other_way ds es same) _ q.1)) (λ a. a)
        (λ rest. IfHolds-map (AnyFault-same ds es same files) (AnyFault-same es ds (other_way ds es same) files) (λ a. a)
        (λ last. IfHolds-map (AnySelected-same ds es same files) (AnySelected-same es ds (other_way ds es same) files) (λ a. a) (λ b. b) last) rest)
        h

    FailuresMet-same : (sources : List Source) (readings : List Reading) (n : ℕ) → FailuresMet ds options sources readings n → FailuresMet es options sources readings n
    FailuresMet-same [] _ n h = h
    FailuresMet-same (source ∷ sources) [] n h = h
    FailuresMet-same (source ∷ sources) (r ∷ readings) n h =
        let file = file_of source.name r in
        (h.0, h.1, for_fault file (λ a. a) (λ b. b) h.2, for_stops file (λ a. a) (FailuresMet-same sources readings h.1) h.3, h.4)

    LeftMet-same : (sources : List Source) (readings : List Reading) (left : List (Option Text)) → LeftMet ds options sources readings left → LeftMet es options sources readings left
    LeftMet-same [] _ _ h = h
    LeftMet-same (source ∷ sources) [] _ h = h
    LeftMet-same (source ∷ sources) (r ∷ readings) _ h =
        let file = file_of source.name r in
        (h.0, h.1, h.2, for_stops file (λ a. a) (LeftMet-same sources readings h.1) h.3, h.4)

    -- ---- work

    -- fewer matchers cost no more
    module _ (few most : ℕ) (fewer : few ≤ most) where
      lines_cost-more : (text : List Text) → lines_cost options few text ≤ lines_cost options most text
      lines_cost-more [] = omega arith
      lines_cost-more (line ∷ text) =
          let own = mul-le-mul_left (part_searches (form options) + 1) (mul-le-mul_right (length line + 1) fewer) in
          omega (arith, own, lines_cost-more text, sum_by-cons (line_cost options few) line text, sum_by-cons (line_cost options most) line text)

      files_cost-more : (files : List File) → files_cost options few files ≤ files_cost options most files
      files_cost-more [] = omega arith
      files_cost-more (file ∷ files) = omega (arith, lines_cost-more file.lines, files_cost-more files, sum_by-cons (λ (f : File). lines_cost options few f.lines) file files, sum_by-cons (λ (f : File). lines_cost options most f.lines) file files)

    -- ---- runs

    module _ (fewer : length ds ≤ length es) (sources : List Source) where
      abbrev Story-same : (reached : List Source) (given : List (Option Text) → Type 0) (old new : Devices) → Story ds options sources reached given old new → Story es options sources reached given old new
      Story-same _ _ _ _ s = record {
        readings = s.readings;
        are_readings = s.are_readings;
        failures = s.failures;
        are_failures = FailuresMet-same _ _ _ s.are_failures;
        counted = s.counted;
        left = s.left;
        are_left = LeftMet-same _ _ _ s.are_left;
        gave_back = s.gave_back;
        steps = cost_within _ _ (files_cost-more (length ds) (length es) fewer (files_of sources s.readings)) s.steps;
      }

      out_same : (many : Bool) (files : List File) (old new : Writer) → WritesAll (OutAs ds options many (form options) files) old new → WritesAll (OutAs es options many (form options) files) old new
      out_same many _ _ _ w = record { text = w.text; due = OutAs-same _ _ _ _ w.due; all = w.all }

      messages_same : (files : List File) (old new : Writer) → WritesAll (Messages ds options files) old new → WritesAll (Messages es options files) old new
      messages_same _ _ _ w = record { text = w.text; due = Messages-same _ _ w.due; all = w.all }

      module _ (given : List (Option Text) → Type 0) (old new : Devices) where
        BreaksOff-same : BreaksOff ds options sources given old new → BreaksOff es options sources given old new
        BreaksOff-same b = record {
          at = b.at;
          in_sources = b.in_sources;
          story = Story-same _ given old new b.story;
          wrote = record { first = b.wrote.first; due_first = OutAs-same _ _ _ _ b.wrote.due_first; text = b.wrote.text; due = OutAs-same _ _ _ _ b.wrote.due; past = b.wrote.past };
          reported = record { first = b.reported.first; due_first = Messages-same _ _ b.reported.due_first; text = b.reported.text; due = Messages-same _ _ b.reported.due; past = b.reported.past };
        }

        pub RunGives-same : (result : Result Status RunFault) → RunGives ds options sources given old new result → RunGives es options sources given old new result
        RunGives-same (Ok status) f = record {
          story = Story-same sources given old new f.story;
          wrote = out_same _ _ _ _ f.wrote;
          reported = messages_same _ _ _ f.reported;
          is_status = StatusOf-same _ _ f.is_status;
        }
        RunGives-same (Err Write) b = (BreaksOff-same b.0, b.1, b.2)
        RunGives-same (Err MessageWrite) b = (BreaksOff-same b.0, b.1, b.2)
        RunGives-same (Err (Memory k n)) s = record {
          in_sources = s.in_sources;
          rest = s.rest;
          story = Story-same _ (λ left. given (left ++ s.rest ∷ [])) old new s.story;
          in_file = s.in_file;
          read = s.read;
          wrote = out_same _ _ old.out new.out s.wrote;
          reported = messages_same _ old.messages new.messages s.reported;
        }

-- a run for expressions that are the same choice as others, and no more, is a run for these
pub serves_for_others : (options : Options) → ServesForOthers options
serves_for_others options = λ ds es same fewer sources left old new result. RunGives-same options ds es same fewer sources (λ given. given ≡ left) old new result
