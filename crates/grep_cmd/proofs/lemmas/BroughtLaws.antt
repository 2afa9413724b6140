-- The steps of a script bring no more bytes than its lines have.
use Rattle.{grep_cmd.proofs.Prelude.{◌≡◌, ℕ, ◌+◌, ◌≤◌, Bool, true, false, List, [], ◌∷◌, ◌++◌, length, codes, bytes_eq, nat_eq, Option, Some, None, refl, ap, inl, inr, arith, if◌then◌else◌, option_map, option_and_then, sum_by, Text, joined, Ending, Edit, AddFile, AddMissing, DropFile, Splice, DropPattern, ChangePattern, SetFlag, SetSyntax, SetContext, number_of, name_of, flag_of, switch_of, syntax_of, Command, alone, from_number, edits, counts, shows, lists_changes, lists_page, asks_version, switches_text, file_command, missing_command, close_command, splice_command, patterns_command, drop_command, pattern_command, flag_command, syntax_command, context_command, page_command, text_command, asking_command, unnamed_command, command_of, Step, does, reports, reports_changes, reports_page, tells_version, sets_text, is_bad, IsStep, IsUnfinished, Steps, words_of, bytes_of, sum_by-append, sum_by-cons}, grep_session.specs.Edits.AddPatterns}

-- one for a step, and the bytes of the lines that it puts into a file
abbrev pub brought : Step → ℕ
brought (does (AddFile name lines)) = 1 + bytes_of lines
brought (does (Splice k start count lines)) = 1 + bytes_of lines
brought _ = 1

-- a step brings no more than the lines that its command takes, and one
abbrev Few : Option Command → Type 0
Few command = (taken : List Text) (step : Step) → IsStep command taken step → brought step ≤ 1 + bytes_of taken

few_as : (taken : List Text) (step other : Step) → step ≡ other → brought other ≤ 1 + bytes_of taken → brought step ≤ 1 + bytes_of taken
few_as taken step other e few = rw e few

-- ---- commands

few_none : Few None
few_none taken step is = few_as taken step is_bad is.1 (omega arith)

few_edit : (edit : Edit) → brought (does edit) ≡ 1 → Few (Some (edits edit))
few_edit edit one taken step is = few_as taken step (does edit) is.1 (omega arith)

few_counted : (count : ℕ) (edit : List Text → Edit) → ((taken : List Text) → brought (does (edit taken)) ≤ 1 + bytes_of taken) → Few (Some (counts count edit))
few_counted count edit few taken step is = few_as taken step (does (edit taken)) is.1 (few taken)

few_shows : Few (Some shows)
few_shows taken step is = few_as taken step reports is.1 (omega arith)

few_changes : Few (Some lists_changes)
few_changes taken step is = few_as taken step reports_changes is.1 (omega arith)

few_page : (first count : ℕ) → Few (Some (lists_page first count))
few_page first count taken step is = few_as taken step (reports_page first count) is.1 (omega arith)

few_version : Few (Some asks_version)
few_version taken step is = few_as taken step tells_version is.1 (omega arith)

few_text : (on : Bool) → Few (Some (switches_text on))
few_text on taken step is = few_as taken step (sets_text on) is.1 (omega arith)

few_if : (b : Bool) (x y : Option Command) → Few x → Few y → Few (if b then x else y)
few_if true x y p q = p
few_if false x y p q = q

few_map : {A : Type 0} (edit : A → Edit) → ((x : A) → brought (does (edit x)) ≡ 1) → (found : Option A) → Few (option_map (λ x. edits (edit x)) found)
few_map edit one None = few_none
few_map edit one (Some x) = few_edit (edit x) (one x)

few_then : {A : Type 0} (make : A → Option Command) → ((x : A) → Few (make x)) → (found : Option A) → Few (option_and_then make found)
few_then make few None = few_none
few_then make few (Some x) = few x

few_number : (word : Text) (make : ℕ → Option Command) → ((n : ℕ) → Few (make n)) → Few (from_number word make)
few_number word make few = few_then make few (number_of word)

few_named : (count : ℕ) (name : Option Text) → Few (option_map (λ text. counts count (AddFile text)) name)
few_named count None = few_none
few_named count (Some name) = few_counted count (AddFile name) (λ taken. omega arith)

few_file : (given : List Text) → Few (file_command given)
few_file [] = few_none
few_file (name ∷ []) = few_none
few_file (name ∷ count ∷ []) = few_number count _ (λ n. few_named n (name_of name))
few_file (name ∷ count ∷ more ∷ rest) = few_none

few_missing : (given : List Text) → Few (missing_command given)
few_missing [] = few_none
few_missing (name ∷ []) = few_map AddMissing (λ n. refl) (name_of name)
few_missing (name ∷ more ∷ rest) = few_none

few_close : (given : List Text) → Few (close_command given)
few_close [] = few_none
few_close (file ∷ []) = few_number file _ (λ k. few_edit (DropFile k) refl)
few_close (file ∷ more ∷ rest) = few_none

few_splice : (given : List Text) → Few (splice_command given)
few_splice [] = few_none
few_splice (a ∷ []) = few_none
few_splice (a ∷ b ∷ []) = few_none
few_splice (a ∷ b ∷ c ∷ []) = few_none
few_splice (a ∷ b ∷ c ∷ d ∷ []) = few_number a _ (λ k. few_number b _ (λ s. few_number c _ (λ r. few_number d _ (λ n. few_counted n (Splice k s r) (λ taken. omega arith)))))
few_splice (a ∷ b ∷ c ∷ d ∷ more ∷ rest) = few_none

few_patterns : (given : List Text) → Few (patterns_command given)
few_patterns [] = few_none
few_patterns (count ∷ []) = few_number count _ (λ n. few_if (nat_eq n 0) None (Some (counts n (λ lines. AddPatterns (joined lines)))) few_none (few_counted n (λ lines. AddPatterns (joined lines)) (λ taken. omega arith)))
few_patterns (count ∷ more ∷ rest) = few_none

few_drop : (given : List Text) → Few (drop_command given)
few_drop [] = few_none
few_drop (pattern ∷ []) = few_number pattern _ (λ p. few_edit (DropPattern p) refl)
few_drop (pattern ∷ more ∷ rest) = few_none

few_pattern : (given : List Text) → Few (pattern_command given)
few_pattern [] = few_none
few_pattern (pattern ∷ []) = few_number pattern _ (λ p. few_counted 1 (λ lines. ChangePattern p (joined lines)) (λ taken. omega arith))
few_pattern (pattern ∷ more ∷ rest) = few_none

few_flag : (given : List Text) → Few (flag_command given)
few_flag [] = few_none
few_flag (letter ∷ []) = few_none
few_flag (letter ∷ switch ∷ []) = few_then _ (λ flag. few_map (SetFlag flag) (λ on. refl) (switch_of switch)) (flag_of letter)
few_flag (letter ∷ switch ∷ more ∷ rest) = few_none

few_syntax : (given : List Text) → Few (syntax_command given)
few_syntax [] = few_none
few_syntax (name ∷ []) = few_map SetSyntax (λ s. refl) (syntax_of name)
few_syntax (name ∷ more ∷ rest) = few_none

few_context : (given : List Text) → Few (context_command given)
few_context [] = few_none
few_context (word ∷ []) = few_if (bytes_eq word (codes "off")) (Some (edits (SetContext None))) None (few_edit (SetContext None) refl) few_none
few_context (before ∷ after ∷ []) = few_number before _ (λ b. few_number after _ (λ a. few_edit (SetContext (Some (record { before = b; after = a }))) refl))
few_context (before ∷ after ∷ more ∷ rest) = few_none

few_page_command : (given : List Text) → Few (page_command given)
few_page_command [] = few_none
few_page_command (first ∷ []) = few_none
few_page_command (first ∷ count ∷ []) = few_number first _ (λ f. few_number count _ (λ n. few_page f n))
few_page_command (first ∷ count ∷ more ∷ rest) = few_none

few_switch : (found : Option Bool) → Few (option_map (λ on. switches_text on) found)
few_switch None = few_none
few_switch (Some on) = few_text on

few_text_command : (given : List Text) → Few (text_command given)
few_text_command [] = few_none
few_text_command (switch ∷ []) = few_switch (switch_of switch)
few_text_command (switch ∷ more ∷ rest) = few_none

few_alone : (command : Command) → Few (Some command) → (given : List Text) → Few (alone command given)
few_alone command few [] = few
few_alone command few (word ∷ rest) = few_none

module _ (word : Text) (given : List Text) where
  abbrev is_word : Text → Bool
  is_word name = bytes_eq word name

  few_asking : Few (asking_command word given)
  unfolding asking_command
  few_asking =
      few_if (is_word (codes "show")) (alone shows given) _ (few_alone shows few_shows given)
      (few_if (is_word (codes "changes")) (alone lists_changes given) _ (few_alone lists_changes few_changes given)
      (few_if (is_word (codes "page")) (page_command given) _ (few_page_command given)
      (few_if (is_word (codes "version")) (alone asks_version given) _ (few_alone asks_version few_version given)
      (few_if (is_word (codes "text")) (text_command given) None (few_text_command given) few_none))))

  few_unnamed : Few (unnamed_command word given)
  unfolding unnamed_command
  few_unnamed =
      few_if (is_word (codes "splice")) (splice_command given) _ (few_splice given)
      (few_if (is_word (codes "close")) (close_command given) _ (few_close given)
      (few_if (is_word (codes "patterns")) (patterns_command given) _ (few_patterns given)
      (few_if (is_word (codes "drop")) (drop_command given) _ (few_drop given)
      (few_if (is_word (codes "pattern")) (pattern_command given) _ (few_pattern given)
      (few_if (is_word (codes "flag")) (flag_command given) _ (few_flag given)
      (few_if (is_word (codes "syntax")) (syntax_command given) _ (few_syntax given)
      (few_if (is_word (codes "context")) (context_command given) (asking_command word given) (few_context given) few_asking)))))))

few_command : (words : List Text) → Few (command_of words)
unfolding command_of
few_command [] = few_none
few_command (word ∷ given) =
    few_if (bytes_eq word (codes "file")) (file_command given) _ (few_file given)
    (few_if (bytes_eq word (codes "missing")) (missing_command given) (unnamed_command word given) (few_missing given) (few_unnamed word given))

-- ---- scripts

pub steps_bring : (ending : Ending) (lines : List Text) (steps : List Step) (rest : List Text) → Steps ending lines steps rest → sum_by brought steps ≤ bytes_of lines
steps_bring ending lines [] rest are = omega arith
steps_bring ending lines (step ∷ steps) rest (inl (line, taken, more, e, is, later)) =
    let count = λ (l : Text). length l + 1 in
    let here = few_command (words_of line) taken step is in
    let all = steps_bring ending more steps rest later in
    omega (arith, here, all, ap (sum_by count) e, sum_by-cons count line (taken ++ more), sum_by-append count taken more, sum_by-cons brought step steps)
steps_bring ending lines (step ∷ steps) rest (inr (whole, unfinished, is, none, left)) = last_step lines unfinished
  where
    last_step : (lines : List Text) → IsUnfinished lines → sum_by brought (step ∷ steps) ≤ bytes_of lines
    last_step [] no_line = absurd no_line
    last_step (line ∷ taken) wants =
        let one : brought step ≡ 1 = ap brought is in
        let over : sum_by brought steps ≡ 0 = ap (sum_by brought) none in
        omega (arith, one, over, sum_by-cons brought step steps, sum_by-cons (λ (l : Text). length l + 1) line taken)
