-- What is written for a file after the rows of its lines, for files one after the other, and about
-- them.
use Rattle.{grep_session.proofs.{Prelude.{◌≡◌, ℕ, ◌+◌, ◌<◌, ◌≤◌, Bool, true, false, ◌&&◌, Decides, List, [], ◌∷◌, ◌++◌, length, map, drop, get_or, shows_names, All, MatchBool, Option, None, Some, IfSome, Result, Ok, Err, IfOk, IsErr, inl, inr, refl, sym, ap, subst, ◌∙◌, arith, append-nil, append_assoc, if◌then◌else◌, enumerate_from, false≢true, drop_all, length-map, Text, Chosen, EachGives, File, Selected, Status, StatusOf, Form, nothing, names, counts, parts, lines, around, form, Out, written, GroupedAs, rows_after, LineRowsOf, SelectedLines, file_so_far, FileEnd, Missing, Whole, ending_of, summary_as, reported_of, message, Stops, Reached, Message, Messages, GoesOut, StopsWithin, Writes, HoldsOfMany, KeptLine, line_text, KeptFile, file_with, kept_file, end_of, has_selected, IsKept, IsFileKept, selected_count, WritesGroups, Reports, ReportsMessages}, lemmas.{CountLemmas.many_selected, KeptLaws.{one_message, stops_reported}, Writing.{drop-item, if_ok, writes_after, writes_err, stops_before}, GroupsWritten.{Reporting, Leads, leads_on, leads_to, groups_none, groups_more, groups_front, groups_are}}}, grep_core.proofs.lemmas.{Exist.Messages-exist, FileOutput.{output_all, rows_none}, GroupLaws.after_nothing, RowLemmas.goes_nowhere, MoreFiles.{GroupedAs-append, GroupedAs-exist, grouped_out}}}

-- the lines that have a property, by how many they are
chosen_of : (P : Text → Type 0) (k : ℕ) (texts : List Text) (n : ℕ) → HoldsOfMany P texts n → (chosen : List (ℕ × Text)) × Chosen (λ line. P line.1) (enumerate_from k texts) chosen × (length chosen ≡ n)
chosen_of P k [] n h = ([], refl, sym h)
chosen_of P k (text ∷ texts) n (others, h, inl (holds, is)) =
    let rest = chosen_of P (k + 1) texts others h in
    ((k, text) ∷ rest.0, ((k, text) ∷ [], rest.0, inl (holds, refl), rest.1, refl), omega arith)
chosen_of P k (text ∷ texts) n (others, h, inr (no_one, is)) =
    let rest = chosen_of P (k + 1) texts others h in
    (rest.0, ([], rest.0, inr (no_one, refl), rest.1, refl), rest.2 ∙ sym is)

-- a summary is written as it is
summary_after : (shape : Form) (some many : Bool) (name : Text) (end : FileEnd) (selected : ℕ) → let own = summary_as shape many name end selected in
    (own ≡ rows_after shape some own) × ((more : List Text) → rows_after shape some (own ++ more) ≡ rows_after shape some own ++ rows_after shape some more)
summary_after nothing some many name end selected = (refl, λ more. refl)
summary_after names some many name end selected = (refl, λ more. refl)
summary_after counts some many name end selected = (refl, λ more. refl)
summary_after parts some many name end selected = (refl, λ more. refl)
summary_after lines some many name end selected = (refl, λ more. refl)
summary_after (around c) some many name end selected = (sym (after_nothing (around c) some), λ more. ap (λ rows. rows ++ rows_after (around c) some more) (sym (after_nothing (around c) some)))

module _ {W : Type 0} (p : Reporting W) where
  open p use {contents, failures, margin, es, options, many}

  -- ---- one file

  abbrev pub LinesDue : Text → List KeptLine → List Text → Type 0
  LinesDue name text rows = LineRowsOf es options many (form options) (file_so_far name (map line_text text)) rows

  abbrev pub FilesDue : List File → List Text → Type 0
  FilesDue files rows = GroupedAs es options many (form options) files rows

  -- what was written for a file or for files
  abbrev pub Gives : {E : Type 0} → (List Text → Type 0) → Bool → W → W → Result Bool E → Type 0
  Gives Due some old new result = WritesGroups contents failures Due (form options) margin some old new result

  -- the rows of a file's lines were written, and its summary as the last call returned
  summary_written : {E F : Type 0} (name : Text) (texts : List Text) (end : FileEnd) {some mid : Bool} {selected : ℕ} {a b c : W} (r : Result Bool E) → (chosen : List (ℕ × Text)) × SelectedLines es options many (file_so_far name texts) chosen × (length chosen ≡ selected)
      → Gives {E = F} (LineRowsOf es options many (form options) (file_so_far name texts)) some a b (Ok mid) → IfOk r (λ now. now ≡ mid) → Writes contents failures b c (written margin (summary_as (form options) many name end selected)) r
      → Gives (FilesDue (record { name = name; lines = texts; ending = ending_of end } ∷ [])) some a c r
  summary_written {E} name texts end {mid = mid} {selected = selected} {b = b} {c = c} r (chosen, are, counted) g is w =
      let after = summary_after (form options) mid many name end selected in
      let here : Gives (λ rows. rows ≡ summary_as (form options) many name end selected) mid b c r =
      record { groups = summary_as (form options) many name end selected; are_due = refl; wrote = rw after.0 at w; goes_on = onward r is } in
      groups_more g here (λ us vs due same. rw (ap (summary_as (form options) many name end) counted ∙ sym same) at (output_all es options many name texts end (form options) us chosen due are))
    where
      onward : (r : Result Bool E) → IfOk r (λ now. now ≡ mid) → IfOk r (λ now. (more : List Text) → let own = summary_as (form options) many name end selected in rows_after (form options) mid (own ++ more) ≡ rows_after (form options) mid own ++ rows_after (form options) now more)
      onward (Ok now) is = λ more. cc ((summary_after _ _ _ _ _ _).1 more)
      onward (Err e) is = tt

  pub file_missing : {E : Type 0} (name : Text) {kept : Option (List KeptLine)} {some : Bool} {a b : W} (r : Result Bool E) → kept ≡ None → IfOk r (λ now. now ≡ some) → Writes contents failures a b (written margin (summary_as (form options) many name Missing 0)) r → Gives (FilesDue (file_with name kept ∷ [])) some a b r
  file_missing name r is now w =
      rw is (summary_written _ [] _ r ([], refl, refl) (groups_none {E = Unit {0}} (rows_none es options many name (form options))) now w)

  module _ (name : Text) {kept : Option (List KeptLine)} {text : List KeptLine} (is : kept ≡ Some text) (right : IfSome kept (All (IsKept es options))) where
    all_kept : All (IsKept es options) text
    all_kept = rw is at right

    chosen_kept : (chosen : List (ℕ × Text)) × SelectedLines es options many (file_so_far name (map line_text text)) chosen × (length chosen ≡ selected_count options text)
    chosen_kept = chosen_of (Selected es options) 1 (map line_text text) (selected_count options text) (many_selected es options text all_kept)

    pub file_written : {E F : Type 0} {some mid : Bool} {selected : ℕ} {a b c : W} (r : Result Bool E) → selected ≡ selected_count options text → (All (IsKept es options) text → Gives {E = F} (LinesDue name text) some a b (Ok mid)) → IfOk r (λ now. now ≡ mid)
        → Writes contents failures b c (written margin (summary_as (form options) many name Whole selected)) r → Gives (FilesDue (file_with name kept ∷ [])) some a c r
    file_written r counted g now w =
        rw is (summary_written name (map line_text text) Whole r (chosen_kept.0, chosen_kept.1, chosen_kept.2 ∙ sym counted) (g all_kept) now w)

    -- a write failed within the rows of the lines
    pub file_stopped : {E F : Type 0} {some : Bool} {a b : W} {r : Result Bool E} {s : Result Bool F} → IsErr r → IsErr s → (All (IsKept es options) text → Gives (LinesDue name text) some a b r) → Gives (FilesDue (file_with name kept ∷ [])) some a b s
    file_stopped err too g =
        rw is (groups_front err too (g all_kept) (λ us due. (_, output_all es options many name (map line_text text) Whole (form options) us chosen_kept.0 due chosen_kept.1)))

  -- ---- files

  no_file : FilesDue [] []
  no_file = by_shape (form options)
    where
      by_shape : (shape : Form) → GroupedAs es options many shape [] []
      by_shape nothing = refl
      by_shape names = ([], refl, refl)
      by_shape counts = refl
      by_shape parts = refl
      by_shape lines = refl
      by_shape (around c) = refl

  module _ (files : List KeptFile) where
    abbrev AllFiles : List Text → Type 0
    AllFiles = FilesDue (map kept_file files)

    abbrev FilesFrom : ℕ → List Text → Type 0
    FilesFrom i = FilesDue (map kept_file (drop i files))

    -- the output of the first files was written
    pub record FilesTo (i : ℕ) (old now : W) (some : Bool) : Type 0 where
      pub wrote : Gives {E = Unit {0}} (Leads (FilesFrom i) AllFiles) false old now (Ok some)

    pub files_none : (a : W) → FilesTo 0 a a false
    files_none a = record { wrote = groups_none (record { with_rest = λ rest h. h }) }

    out_is : many ≡ shows_names (length files) → (rows : List Text) → AllFiles rows → Out es options (map kept_file files) (rows_after (form options) false rows)
    out_is many_is rows h =
        rw (many_is ∙ ap shows_names (sym (length-map files kept_file))) at (grouped_out es options many (form options) (map kept_file files) rows h)

    module _ {i : ℕ} {a b : W} {mid : Bool} (s : FilesTo i a b mid) where
      further : {E : Type 0} {file : KeptFile} {c : W} {r : Result Bool E} → i < length files → file ≡ get_or files i file → Gives (FilesDue (kept_file file ∷ [])) mid b c r → Gives (Leads (FilesFrom (i + 1)) AllFiles) false a c r
      further {file = file} inside is g = groups_more s.wrote g (λ us vs l here. leads_on l (record {
        with_rest = λ rest h.
            rw (drop-item _ i _ inside is) (GroupedAs-append es options many (form options) (kept_file file ∷ []) (map kept_file (drop (i + 1) files)) vs rest here h);
      }))

      pub files_on : {E : Type 0} {file : KeptFile} {c : W} {now : Bool} → i < length files → file ≡ get_or files i file → Gives {E = E} (FilesDue (kept_file file ∷ [])) mid b c (Ok now) → FilesTo (i + 1) a c now
      files_on inside is g = record { wrote = groups_are (further inside is g) (λ us l. l) }

      pub files_all : many ≡ shows_names (length files) → {E : Type 0} {status : Status} → length files ≤ i → StatusOf es options (map kept_file files) status → Reports contents failures es options (map kept_file files) margin a b {E = E} (Ok status)
      files_all many_is past is = record {
        out = rows_after (form options) false s.wrote.groups;
        is_output = out_is many_is _ (leads_to s.wrote.are_due (rw (drop_all i files past) no_file));
        wrote = s.wrote.wrote;
        is_status = is;
      }

      pub files_stop : many ≡ shows_names (length files) → {E F : Type 0} {file : KeptFile} {c : W} {r : Result Bool E} (result : Result Status F) → i < length files → file ≡ get_or files i file → IsErr r → Gives (FilesDue (kept_file file ∷ [])) mid b c r → IsErr result → Reports contents failures es options (map kept_file files) margin a c result
      files_stop many_is {c = c} {r = r} result inside is err g too =
          let all : Gives {E = Unit {0}} AllFiles false a c (Err tt) = groups_front err refl (further inside is g) (λ us l. let rest = GroupedAs-exist es options many (form options) (map kept_file (drop (i + 1) files)) in (rest.0, l.with_rest rest.0 rest.1)) in
          record { out = rows_after (form options) false all.groups; is_output = out_is many_is all.groups all.are_due; wrote = writes_err contents failures margin a c _ result too all.wrote; is_status = if_ok (StatusOf es options (map kept_file files)) result too }

  -- ---- messages

  abbrev MessagesDue : List KeptFile → List Text → Type 0
  MessagesDue files reported = Messages es options (map kept_file files) reported

  no_message : MessagesDue [] []
  no_message = by_flag options.no_messages
    where
      by_flag : (silent : Bool) → MatchBool silent (◌≡◌ {A = List Text} [] []) ((reached : List File) × Reached es options [] reached × EachGives (Message es options) reached [])
      by_flag true = refl
      by_flag false = ([], refl, refl)

  -- the message about a file, and those about the files after it unless a run stops there
  message_first : (file : KeptFile) (files : List KeptFile) (rest : List Text) (stop : Bool) → Decides stop (Stops es options (kept_file file)) → MatchBool stop (rest ≡ []) (MessagesDue files rest) → MessagesDue (file ∷ files) (reported_of options.no_messages (end_of file) file.name.items ++ rest)
  message_first file files rest stop d h = by_flag options.no_messages stop d h
    where
      by_flag : (silent stop : Bool) → Decides stop (Stops es options (kept_file file)) → MatchBool stop (rest ≡ []) (MatchBool silent (rest ≡ []) ((reached : List File) × Reached es options (map kept_file files) reached × EachGives (Message es options) reached rest))
          → MatchBool silent ((if silent then [] else message (ending_of (end_of file)) file.name.items) ++ rest ≡ [])
          ((reached : List File) × Reached es options (kept_file file ∷ map kept_file files) reached × EachGives (Message es options) reached ((if silent then [] else message (ending_of (end_of file)) file.name.items) ++ rest))
      by_flag true true d h = h
      by_flag true false d h = h
      by_flag false true d h = (kept_file file ∷ [], ([], refl, inl (d.0 refl, refl)), (_, rest, one_message es options _ _, h, refl))
      by_flag false false d h = (kept_file file ∷ h.0, (h.0, refl, inr ((λ s. false≢true (d.1 s)), h.1)), (_, rest, one_message es options _ _, h.2, refl))

  module _ (files : List KeptFile) where
    -- the messages about the first files were written
    pub record MessagesTo (i : ℕ) (old now : W) : Type 0 where
      pub reported : List Text
      pub leads : Leads (MessagesDue (drop i files)) (MessagesDue files) reported
      pub wrote : GoesOut contents failures old now (written margin reported)

    pub messages_none : (a : W) → MessagesTo 0 a a
    messages_none a = record { reported = []; leads = record { with_rest = λ rest h. h }; wrote = goes_nowhere contents failures a }

    module _ {i : ℕ} {a b : W} (s : MessagesTo i a b) where
      pub messages_all : {E : Type 0} → length files ≤ i → ReportsMessages contents failures es options (map kept_file files) margin a b {T = Unit {0}} {E = E} (Ok tt)
      messages_all past = record { reported = s.reported; are_messages = leads_to s.leads (rw (drop_all i files past) no_message); wrote = s.wrote }

      module _ {file : KeptFile} (inside : i < length files) (is : file ≡ get_or files i file) (kept : IsFileKept es options file) where
        abbrev pub own : List Text
        own = reported_of options.no_messages (end_of file) file.name.items

        abbrev pub stop : Bool
        stop = options.quiet && has_selected options file

        joined : {T E : Type 0} (c : W) (r : Result T E) → Writes contents failures b c (written margin own) r → Writes contents failures a c (written margin (s.reported ++ own)) r
        joined c r w = writes_after contents failures margin a b c s.reported own r s.wrote w

        next_message : (now : Bool) → stop ≡ now → (rest : List Text) → MatchBool now (rest ≡ []) (MessagesDue (drop (i + 1) files) rest) → MessagesDue (drop i files) (own ++ rest)
        next_message now e rest h =
            rw (drop-item files i file inside is) (message_first file (drop (i + 1) files) rest stop (stops_reported es options file kept) (rw e h))

        pub messages_on : {c : W} → stop ≡ false → GoesOut contents failures b c (written margin own) → MessagesTo (i + 1) a c
        messages_on {c} goes w = record { reported = s.reported ++ own; leads = leads_on s.leads (record { with_rest = next_message false goes }); wrote = joined {T = Unit {0}} {E = Unit {0}} c (Ok tt) w }

        pub messages_last : {E : Type 0} {c : W} → stop ≡ true → GoesOut contents failures b c (written margin own) → ReportsMessages contents failures es options (map kept_file files) margin a c {T = Unit {0}} {E = E} (Ok tt)
        messages_last {c = c} stops w =
            record { reported = s.reported ++ own; are_messages = s.leads.with_rest own (rw (append-nil own) at (next_message true stops [] refl)); wrote = joined {T = Unit {0}} {E = Unit {0}} c (Ok tt) w }

        pub messages_stop : {T E : Type 0} {c : W} (r : Result T E) → IsErr r → StopsWithin contents failures b c (written margin own) → ReportsMessages contents failures es options (map kept_file files) margin a c r
        messages_stop {c = c} r err w =
            let rest = some stop refl in
            record {
              reported = (s.reported ++ own) ++ rest.0;
              are_messages = subst (MessagesDue files) (sym (append_assoc s.reported own rest.0)) (s.leads.with_rest (own ++ rest.0) rest.1);
              wrote = writes_err contents failures margin a c _ r err (stops_before contents failures margin a c (s.reported ++ own) rest.0 (joined {T = Unit {0}} {E = Unit {0}} c (Err tt) w));
            }
          where
            some : (now : Bool) → stop ≡ now → (rest : List Text) × MessagesDue (drop i files) (own ++ rest)
            some true e = ([], next_message true e [] refl)
            some false e = let more = Messages-exist es options (map kept_file (drop (i + 1) files)) in (more.0, next_message false e more.0 more.1)
