-- What the words choose in the forms of the manual page.
use Rattle.{occur.proofs.{Prelude.{◌≡◌, ◌==◌, ◌∙◌, ap, ap₂, sym, cond, ℕ, true, false, List, [], ◌∷◌, Option, Some, None, Result, Ok, Err, IfOk, is_some, length, refl, subst, inl, inr, arith, codes, IsSomeAnd, unwrap_or, digits_value, without_leading_plus, option_map_or, bytes_eq, bundle_fault, check_fault, defaults_fault, entered_fault, flag_word_fault, other_fault, settle_fault, step_fault, turn_fault, IsAmong, Kinds, or_else, value_kinds, long_of, short_of, Shape, built, entered, matches_of, Held, Rule, Step, Waiting, Walk, after_step, first_of, finished, idle, long_or_other, nothing_held, one_of, option, plain_word, positional, settled, short_or_plain, subcommand_or_other, walk_from, word_met, IsUnsignedIn, kind_of, ErrorKind, DisplayHelp, DisplayVersion, Unsigned, AsksFor, IsChosenBy, Reads, ExplainsAmong, form_words, is_no_option, is_operand, occur_app, ScriptRequest, OccurFault}, lemmas.StatesLemmas.not_so}, clap.{specs.{Faults.fault_of, Walk.{Text, walked}}, proofs.{OnLiterals.clap_on_literals, ValueTestLemmas.Accepts-accepts}}}
use Rattle.occur.specs.declared.words.OccurFault.TheVariants as fault

no_dashes : (word : Text) → is_operand word ≡ true → bytes_eq word (45 ∷ 45 ∷ []) ≡ false
no_dashes [] e = refl
no_dashes (b ∷ rest) e = rw (not_so (b == 45) e) refl

no_long : (word : Text) → is_operand word ≡ true → long_of word ≡ None
no_long [] e = refl
no_long (b ∷ rest) e = rw (not_so (b == 45) e) refl

no_short : (word : Text) → is_operand word ≡ true → short_of word ≡ None
no_short [] e = refl
no_short (b ∷ rest) e = rw (not_so (b == 45) e) refl

-- an operand is no flag
no_flag : (c : List Rule) (waiting : Waiting) (position : ℕ) (word : Text) (h : Held) → is_operand word ≡ true
    → subcommand_or_other c None waiting position word h ≡ plain_word c waiting word h
no_flag c waiting position word h e =
    ap (λ b. cond b (h, Step.trailing position) (long_or_other c waiting word (long_of word) h)) (no_dashes word e)
    ∙ ap (λ o. long_or_other c waiting word o h) (no_long word e) ∙ ap (λ o. short_or_plain c waiting word o h) (no_short word e)

met_plain : (c : List Rule) (waiting : Waiting) (position : ℕ) (word : Text) (h : Held) → is_operand word ≡ true
    → word_met c [] false waiting position word h ≡ plain_word c waiting word h
met_plain c idle position word h e = no_flag c idle position word h e
met_plain c (option id) position word h e = no_flag c (option id) position word h e
met_plain c positional position word h e = no_flag c positional position word h e

-- an operand has no fault of a flag
no_flag_fault : (s : Shape) (word : Text) (h : Held) → is_operand word ≡ true → other_fault s None word h ≡ []
no_flag_fault s word h e =
    ap (λ b. cond b [] (flag_word_fault s.rules s.args_override_self (long_of word) word h)) (no_dashes word e)
    ∙ ap (λ o. flag_word_fault s.rules s.args_override_self o word h) (no_long word e)
    ∙ ap (λ o. option_map_or (λ flags. bundle_fault s.rules s.args_override_self flags h) o []) (no_short word e)

abbrev rules : List Rule
rules = (built occur_app).top.rules

abbrev at_start : Walk
at_start = walk_from nothing_held

none_script : (name : Text) → first_of (codes "script") (matches_of occur_app (name ∷ [])) ≡ None
none_script name = refl

none_states : (name : Text) → one_of (codes "states") (matches_of occur_app (name ∷ [])) ≡ Some (codes "256")
none_states name = refl

none_fault : (name : Text) → fault_of occur_app (name ∷ []) ≡ []
unfolding clap_on_literals
none_fault name = refl

-- the walk over one operand
abbrev after_script : Text → Walk
after_script script = after_step rules script at_start (plain_word rules idle script nothing_held).0 (plain_word rules idle script nothing_held).1

walked_script : (script : Text) → is_operand script ≡ true → walked rules [] at_start script ≡ after_script script
unfolding walked
walked_script script e = ap (λ p. after_step rules script at_start p.0 p.1) (met_plain rules idle 1 script nothing_held e)

script_script : (name script : Text) → is_operand script ≡ true → first_of (codes "script") (matches_of occur_app (name ∷ script ∷ [])) ≡ Some script
script_script name script e = ap (λ (w : Walk). first_of (codes "script") (finished rules w.held)) (walked_script script e)

script_states : (name script : Text) → is_operand script ≡ true → one_of (codes "states") (matches_of occur_app (name ∷ script ∷ [])) ≡ Some (codes "256")
script_states name script e = ap (λ (w : Walk). one_of (codes "states") (finished rules w.held)) (walked_script script e)

-- the walk over the option and its number
abbrev after_option : Walk
after_option = walked rules [] at_start (codes "--states")

abbrev after_number : Text → Walk
after_number number = after_step rules number after_option (plain_word rules after_option.waiting number after_option.held).0
    (plain_word rules after_option.waiting number after_option.held).1

walked_number : (number : Text) → is_operand number ≡ true → walked rules [] after_option number ≡ after_number number
unfolding clap_on_literals
walked_number number e = ap (λ p. after_step rules number after_option p.0 p.1) (met_plain rules (option (codes "states")) 1 number after_option.held e)

number_states : (name number : Text) → is_operand number ≡ true → one_of (codes "states") (matches_of occur_app (name ∷ codes "--states" ∷ number ∷ [])) ≡ Some number
unfolding clap_on_literals
number_states name number e = ap (λ (w : Walk). one_of (codes "states") (finished rules w.held)) (walked_number number e)

number_script : (name number : Text) → is_operand number ≡ true → first_of (codes "script") (matches_of occur_app (name ∷ codes "--states" ∷ number ∷ [])) ≡ None
unfolding clap_on_literals
number_script name number e = ap (λ (w : Walk). first_of (codes "script") (finished rules w.held)) (walked_number number e)

-- the walk over the option, its number and an operand
abbrev after_both : Text → Text → Walk
after_both number script = after_step rules script (after_number number) (plain_word rules idle script (after_number number).held).0
    (plain_word rules idle script (after_number number).held).1

walked_both : (number script : Text) → is_operand number ≡ true → is_operand script ≡ true
    → walked rules [] (walked rules [] after_option number) script ≡ after_both number script
unfolding clap_on_literals
walked_both number script d e = ap (λ w. walked rules [] w script) (walked_number number d)
    ∙ ap (λ p. after_step rules script (after_number number) p.0 p.1) (met_plain rules idle 1 script (after_number number).held e)

both_states : (name number script : Text) → is_operand number ≡ true → is_operand script ≡ true
    → one_of (codes "states") (matches_of occur_app (name ∷ codes "--states" ∷ number ∷ script ∷ [])) ≡ Some number
unfolding clap_on_literals
both_states name number script d e = ap (λ (w : Walk). one_of (codes "states") (finished rules w.held)) (walked_both number script d e)

both_script : (name number script : Text) → is_operand number ≡ true → is_operand script ≡ true
    → first_of (codes "script") (matches_of occur_app (name ∷ codes "--states" ∷ number ∷ script ∷ [])) ≡ Some script
unfolding clap_on_literals
both_script name number script d e = ap (λ (w : Walk). first_of (codes "script") (finished rules w.held)) (walked_both number script d e)

-- ---- faults

abbrev top : Shape
top = (built occur_app).top

-- the fault of words with this walk, where the walk itself has this fault
abbrev fault_by : Walk → Kinds → Kinds
fault_by w walking = or_else walking (or_else (entered_fault (built occur_app) w.stopped) (or_else (settle_fault rules false w.held)
    (or_else (defaults_fault (settled rules w.held).rows rules) (check_fault top (finished rules w.held) (is_some (entered (built occur_app) w.stopped))))))

script_turn : (script : Text) → is_operand script ≡ true → turn_fault top [] at_start script ≡ []
unfolding clap_on_literals
script_turn script e = ap₂ (λ ks p. or_else ks (step_fault top 1 p.0 p.1)) (no_flag_fault top script nothing_held e) (met_plain rules idle 1 script nothing_held e)

script_fault : (name script : Text) → is_operand script ≡ true → fault_of occur_app (name ∷ script ∷ []) ≡ []
unfolding clap_on_literals
script_fault name script e = ap₂ fault_by (walked_script script e) (ap (λ ks. or_else ks []) (script_turn script e))

or_else_nil : (ks : Kinds) → or_else ks [] ≡ ks
or_else_nil [] = refl
or_else_nil (k ∷ ks) = refl

abbrev number_kinds : Text → Kinds
number_kinds number = value_kinds false (Unsigned 1 65536) number

number_turn : (number : Text) → is_operand number ≡ true → turn_fault top [] after_option number ≡ []
unfolding clap_on_literals
number_turn number e = ap₂ (λ ks p. or_else ks (step_fault top 1 p.0 p.1)) (no_flag_fault top number after_option.held e)
    (met_plain rules (option (codes "states")) 1 number after_option.held e)

number_fault : (name number : Text) → is_operand number ≡ true → fault_of occur_app (name ∷ codes "--states" ∷ number ∷ []) ≡ number_kinds number
unfolding clap_on_literals
number_fault name number e = ap₂ fault_by (walked_number number e) (ap (λ ks. or_else ks []) (number_turn number e))
    ∙ or_else_nil (or_else (number_kinds number) []) ∙ or_else_nil (number_kinds number)

both_turn : (number script : Text) → is_operand script ≡ true → turn_fault top [] (after_number number) script ≡ number_kinds number
unfolding clap_on_literals
both_turn number script e = ap₂ (λ ks p. or_else ks (step_fault top 1 p.0 p.1)) (no_flag_fault top script (after_number number).held e)
    (met_plain rules idle 1 script (after_number number).held e) ∙ or_else_nil (number_kinds number)

both_fault : (name number script : Text) → is_operand number ≡ true → is_operand script ≡ true
    → fault_of occur_app (name ∷ codes "--states" ∷ number ∷ script ∷ []) ≡ number_kinds number
unfolding clap_on_literals
both_fault name number script d e = ap₂ fault_by (walked_both number script d e)
    (ap₂ (λ ks (w : Walk). or_else ks (or_else (turn_fault top [] w script) [])) (number_turn number d) (walked_number number d)
    ∙ or_else_nil (turn_fault top [] (after_number number) script) ∙ both_turn number script e)
    ∙ or_else_nil (number_kinds number)

-- ---- the forms

form_states : (name : Text) (number script : Option Text) → is_no_option number ≡ true → is_no_option script ≡ true
    → one_of (codes "states") (matches_of occur_app (form_words name number script)) ≡ Some (unwrap_or number (codes "256"))
form_states name None None d e = none_states name
form_states name None (Some script) d e = script_states name script e
form_states name (Some number) None d e = number_states name number d
form_states name (Some number) (Some script) d e = both_states name number script d e

form_script : (name : Text) (number script : Option Text) → is_no_option number ≡ true → is_no_option script ≡ true
    → first_of (codes "script") (matches_of occur_app (form_words name number script)) ≡ script
form_script name None None d e = none_script name
form_script name None (Some script) d e = script_script name script e
form_script name (Some number) None d e = number_script name number d
form_script name (Some number) (Some script) d e = both_script name number script d e

form_fault : (name : Text) (number script : Option Text) → is_no_option number ≡ true → is_no_option script ≡ true
    → fault_of occur_app (form_words name number script) ≡ option_map_or number_kinds number []
form_fault name None None d e = none_fault name
form_fault name None (Some script) d e = script_fault name script e
form_fault name (Some number) None d e = number_fault name number d
form_fault name (Some number) (Some script) d e = both_fault name number script d e

number_value : (number : Option Text) → digits_value 10 (without_leading_plus (unwrap_or number (codes "256")))
    ≡ option_map_or (λ text. digits_value 10 (without_leading_plus text)) number 256
number_value None = refl
number_value (Some number) = refl

refused_number : (number : Option Text) (k : ErrorKind) → IsAmong k (option_map_or number_kinds number [])
    → IsSomeAnd number (λ text. IsUnsignedIn 1 65536 text → ⊥)
refused_number None k among = absurd among
refused_number (Some number) k among = λ fits.
    let taken : number_kinds number ≡ [] = rw (Accepts-accepts false (Unsigned 1 65536) number fits) refl in
    absurd (subst (IsAmong k) taken among)

-- words in one of the forms choose what they say
pub reads_form : (words : List Text) (r : Result ScriptRequest OccurFault) → IfOk r (IsChosenBy (matches_of occur_app words))
    → ExplainsAmong (fault_of occur_app words) r → (name : Text) (number script : Option Text) → words ≡ form_words name number script
    → is_no_option number ≡ true → is_no_option script ≡ true → Reads number script r
reads_form words (Ok request) chosen reported_too name number script is d e =
    let found : one_of (codes "states") (matches_of occur_app words) ≡ Some (unwrap_or number (codes "256")) =
    ap (λ ws. one_of (codes "states") (matches_of occur_app ws)) is ∙ form_states name number script d e in
    let same : chosen.number ≡ unwrap_or number (codes "256") = ap (λ o. unwrap_or o []) (sym chosen.has_number ∙ found) in (
      chosen.states ∙ ap (λ text. digits_value 10 (without_leading_plus text)) same ∙ number_value number,
      chosen.script ∙ ap (λ ws. first_of (codes "script") (matches_of occur_app ws)) is ∙ form_script name number script d e,
    )
reads_form words (Err fault.Memory) chosen reported_too name number script is d e = tt
reads_form words (Err (fault.Words error)) chosen reported_too name number script is d e =
    refused_number number (kind_of error)
    (subst (IsAmong (kind_of error)) (ap (fault_of occur_app) is ∙ form_fault name number script d e) reported_too.1)

help_fault : (name : Text) → fault_of occur_app (name ∷ codes "--help" ∷ []) ≡ DisplayHelp ∷ []
unfolding clap_on_literals
help_fault name = refl

version_fault : (name : Text) → fault_of occur_app (name ∷ codes "--version" ∷ []) ≡ DisplayVersion ∷ []
unfolding clap_on_literals
version_fault name = refl

-- words with this fault alone ask for it
asks_for : (kinds : Kinds) (kind : ErrorKind) (r : Result ScriptRequest OccurFault) → kinds ≡ kind ∷ [] → ExplainsAmong kinds r → AsksFor kind r
asks_for kinds kind (Ok request) only none =
    let bad : ◌≡◌ {A = ℕ} 0 1 = ap length (sym none ∙ only) in
    absurd (omega arith)
asks_for kinds kind (Err fault.Memory) only explained = tt
asks_for kinds kind (Err (fault.Words error)) only explained =
    elim (subst (IsAmong (kind_of error)) only explained.1) [
      | inl same ↦ same
      | inr none ↦ absurd none
    ]

-- `occur --help` asks for help
pub reads_help : (words : List Text) (r : Result ScriptRequest OccurFault) → ExplainsAmong (fault_of occur_app words) r → (name : Text)
    → words ≡ name ∷ codes "--help" ∷ [] → AsksFor DisplayHelp r
reads_help words r explained name is = asks_for (fault_of occur_app words) DisplayHelp r (ap (fault_of occur_app) is ∙ help_fault name) explained

-- `occur --version` asks for the version
pub reads_version : (words : List Text) (r : Result ScriptRequest OccurFault) → ExplainsAmong (fault_of occur_app words) r → (name : Text)
    → words ≡ name ∷ codes "--version" ∷ [] → AsksFor DisplayVersion r
reads_version words r explained name is = asks_for (fault_of occur_app words) DisplayVersion r (ap (fault_of occur_app) is ∙ version_fault name) explained
