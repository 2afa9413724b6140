-- The number of states that a parse finds.
use Rattle.{occur.proofs.Prelude.{◌≡◌, ◌∙◌, ◌<◌, ◌≤◌, ◌^◌, ap, ℕ, zero, suc, Bool, true, false, not, List, [], ◌∷◌, length, map, is_some, Option, Some, None, Ok, Err, Result, refl, sym, subst, inl, inr, arith, codes, true≢false, All, slice_index_or, bytes_eq, ParsesUnsigned, digits_value, without_leading_plus, Bor, find, option_map, ne_eqb, length-map, All-get_or, bytes_eq-Decides, items_of, Entry, EntryPasses, HasIn, IsParsed, PassesArg, WantsDefault, args_of, groups_of, least_values, parser_of, parser_of_value, unwrap_or_range, IsAuto, IsParsedFrom, SameRules, ReadsOne, has_subcommand, matched_of, one_text, app_of, Accepts, IsUnsignedIn, reading_of, Rule, is_empty, is_simple_arg, rule_of, Count, Set, Arg, Command, out-Command, ValueParser, Unsigned, ArgMatches, Found, MatchedArg, HasStates, occur_app, script_rule, states_rule}, clap.{specs.{Matches.found_of, Walk.Text}, proofs.{CallerLemmas.{default_present, entry_by_id, same_rules_by_id}, WalkLemmas.both}}}
use Rattle.clap.specs.declared.builder.value_parser.Reading.TheVariants as reading

-- a text within the bounds reads as its number
pub unsigned_reads : (E : Type 0) (G : List ℕ → Result ℕ E → Type 0) (k low high : ℕ) (t : List ℕ) (r : Option ℕ) → ReadsOne G t r
    → ((u : List ℕ) (x : Result ℕ E) → G u x → ParsesUnsigned k 10 u x) → high < 2 ^ k → IsUnsignedIn low high t
    → r ≡ Some (digits_value 10 (without_leading_plus t))
unsigned_reads E G k low high t (Some v) read only fits passed = ap Some (only t (Ok v) read).1
unsigned_reads E G k low high t None read only fits passed =
    let high_ok = passed.3 in
    absurd (only t (Err read.0) read.1 (passed.0, omega arith))

no_items : {X : Type 0} (xs : List X) → is_empty xs ≡ true → xs ≡ []
no_items [] e = refl
no_items (x ∷ xs) e = absurd (true≢false (sym e ∙ ne_eqb (length (x ∷ xs)) 0 (λ h. omega (arith, h))))

pub not_so : (b : Bool) → not b ≡ true → b ≡ false
not_so true e = absurd (true≢false (sym e))
not_so false e = refl

none_there : {X : Type 0} (o : Option X) → not (is_some o) ≡ true → o ≡ None
none_there None e = refl
none_there (Some x) e = absurd (true≢false (sym e))

-- two arguments, by their rules
two : (xs : List Arg) (r s : Rule) → map rule_of xs ≡ r ∷ s ∷ []
    → (a : Arg) × (b : Arg) × (xs ≡ a ∷ b ∷ []) × (rule_of a ≡ r) × (rule_of b ≡ s)
two [] r s e =
    let bad : ◌≡◌ {A = ℕ} 0 2 = ap length e in
    absurd (omega arith)
two (a ∷ []) r s e =
    let bad : ◌≡◌ {A = ℕ} 1 2 = ap length e in
    absurd (omega arith)
two (a ∷ b ∷ []) r s e = (a, b, refl, ap (λ l. slice_index_or l 0 r) e, ap (λ l. slice_index_or l 1 r) e)
two (a ∷ b ∷ c ∷ xs) r s e =
    let bad : length (map rule_of (a ∷ b ∷ c ∷ xs)) ≡ 2 = ap length e in
    absurd (omega arith)

has_entry : (xs : List Entry) (id : Text) → HasIn xs id → (x : MatchedArg) × (option_map (λ e. e.1) (find (λ e. bytes_eq e.0.now id) xs) ≡ Some x)
has_entry [] id h = absurd (omega (arith, h.1))
has_entry (e ∷ xs) id h = go (bytes_eq e.0.now id) refl h.0 h.1 h.2 (λ rest. has_entry xs id rest)
  where
    go : (b : Bool) → bytes_eq e.0.now id ≡ b → (i : ℕ) → i < length (e ∷ xs) → ((d : Entry) → bytes_eq (slice_index_or (e ∷ xs) i d).0.now id ≡ true)
        → (HasIn xs id → (x : MatchedArg) × (option_map (λ y. y.1) (find (λ y. bytes_eq y.0.now id) xs) ≡ Some x))
        → (x : MatchedArg) × (option_map (λ y. y.1) (find (λ y. bytes_eq y.0.now id) (e ∷ xs)) ≡ Some x)
    go true t i lt at later = (e.1, rw t refl)
    go false t zero lt at later = absurd (true≢false (sym (at e) ∙ t))
    go false t (suc i) lt at later =
        let rest = later (i, omega arith, λ d. at d) in
        (rest.0, rw t rest.1)

-- the first value of an entry whose values are read as they were written
first_read : (P : Text → Type 0) (x : MatchedArg) (f : Found) (id : Text) (vs : List (Bor Text)) → x.vals.items ≡ vs → matched_of f id ≡ Some x
    → x.reading ≡ reading.AsWritten → 0 < length vs → All (λ v. P v.now) vs
    → (t : Text) × (one_text f id ≡ Some t) × P t
first_read P x f id [] are found how some all = absurd (omega arith)
first_read P x f id (v ∷ vs) are found how some all = (v.now, rw (found, how, are) refl, All-get_or (λ (w : Bor Text). P w.now) (v ∷ vs) 0 v (omega arith) all)

-- what is known of the option
record IsStates (a : Arg) : Type 0 where
  pub id : a.id.now ≡ codes "states"
  pub action : a.action ≡ Some Set
  pub parser : a.value_parser ≡ Some (Unsigned 1 65536)
  pub least : 1 ≤ least_values a
  pub no_delimiter : a.val_delim ≡ None
  pub wants : WantsDefault a
  pub no_groups : a.groups.items ≡ []

states_facts : (a : Arg) → rule_of a ≡ states_rule → IsStates a
states_facts a is =
    let simple : is_simple_arg a ≡ true = ap (λ (r : Rule). r.is_simple) is in
    let after_overrides = both _ _ simple in
    let after_defaults = both _ _ after_overrides.1 in
    let after_groups = both _ _ after_defaults.1 in
    let after_delimiter = both _ _ after_groups.1 in
    let one : least_values a ≡ 1 = ap (λ (r : Rule). (unwrap_or_range r.range).start_inclusive) is in
    let values : length (map (λ (s : Bor Text). s.now) (items_of a.default_vals)) ≡ 1 = ap (λ (r : Rule). length r.defaults) is in
    record {
      id = ap (λ (r : Rule). r.id) is;
      action = ap (λ (r : Rule). r.action) is;
      parser = ap (λ (r : Rule). r.parser) is;
      least = omega arith;
      no_delimiter = none_there a.val_delim after_delimiter.0;
      wants = (no_items _ after_defaults.0, omega (arith, length-map (items_of a.default_vals) (λ (s : Bor Text). s.now)));
      no_groups = no_items _ after_groups.0;
    }

script_groups : (b : Arg) → rule_of b ≡ script_rule → b.groups.items ≡ []
script_groups b is =
    let simple : is_simple_arg b ≡ true = ap (λ (r : Rule). r.is_simple) is in
    no_items _ (both _ _ (both _ _ (both _ _ simple).1).1).0

-- the option is the only argument with its id
unique : (a b : Arg) → a.id.now ≡ codes "states" → b.id.now ≡ codes "script" → (j : ℕ) (e : Arg) → j < 2
    → bytes_eq (slice_index_or (a ∷ b ∷ []) j e).id.now a.id.now ≡ true → j ≡ 0
unique a b ia ib zero e lt same = refl
unique a b ia ib (suc zero) e lt same =
    let bad : bytes_eq (codes "script") (codes "states") ≡ true = rw (ia, ib) at same in
    absurd (true≢false (sym bad))
unique a b ia ib (suc (suc j)) e lt same = absurd (omega arith)

both_named : (a b : Arg) → a.groups.items ≡ [] → b.groups.items ≡ [] → All (λ (x : Arg). x.groups.items ≡ []) (a ∷ b ∷ [])
both_named a b na nb zero d lt = na
both_named a b na nb (suc zero) d lt = nb
both_named a b na nb (suc (suc k)) d lt = absurd (omega arith)

not_auto : (a : Arg) → a.id.now ≡ codes "states" → IsAuto a → ⊥
not_auto a is auto =
    let first : (t : Text) → a.id.now ≡ t → slice_index_or t 0 0 ≡ 115 = λ t e. rw (← e, is) refl in
    elim auto [
      | inl h ↦ let bad : ◌≡◌ {A = ℕ} 104 115 = first _ h in absurd (omega arith)
      | inr h ↦ let bad : ◌≡◌ {A = ℕ} 118 115 = first _ h in absurd (omega arith)
    ]

module _ (cmd : Command) (m : ArgMatches) (p : IsParsedFrom cmd m) (a b : Arg) (list : args_of cmd ≡ a ∷ b ∷ [])
    (globals : (out-Command cmd).has_globals ≡ false) (groups : groups_of cmd ≡ []) (s : IsStates a) (script : b.id.now ≡ codes "script")
    (script_plain : b.groups.items ≡ []) where
  first_is : slice_index_or (args_of cmd) 0 a ≡ a
  first_is = ap (λ l. slice_index_or l 0 a) list

  inside : 0 < length (args_of cmd)
  inside = subst (λ (l : List Arg). 0 < length l) (sym list) (omega arith)

  -- an argument of the built command with its id has its rules
  only_rules : (j : ℕ) (x : Arg) → j < length (args_of p.built) → slice_index_or (args_of p.built) j x ≡ x
      → bytes_eq x.id.now (codes "states") ≡ true → SameRules a x
  only_rules j x lt at same =
      let one : (j : ℕ) (e : Arg) → j < length (args_of cmd)
      → bytes_eq (slice_index_or (args_of cmd) j e).id.now (slice_index_or (args_of cmd) 0 a).id.now ≡ true → j ≡ 0 =
      subst (λ (l : List Arg). (j : ℕ) (e : Arg) → j < length l → bytes_eq (slice_index_or l j e).id.now (slice_index_or l 0 a).id.now ≡ true → j ≡ 0)
      (sym list) (unique a b s.id script) in
      let own : IsAuto (slice_index_or (args_of cmd) 0 a) → ⊥ = subst (λ (y : Arg). IsAuto y → ⊥) (sym first_is) (not_auto a s.id) in
      let named : bytes_eq x.id.now (slice_index_or (args_of cmd) 0 a).id.now ≡ true = rw (first_is, s.id) same in
      subst (λ (y : Arg). SameRules y x) first_is (same_rules_by_id cmd m p 0 a inside one own j x lt at named)

  no_groups : groups_of p.built ≡ []
  no_groups = (p.from.same_groups (subst (All (λ (x : Arg). x.groups.items ≡ [])) (sym list) (both_named a b s.no_groups script_plain))).1 ∙ groups

  parsed : IsParsed p.built (found_of m) (has_subcommand m)
  parsed = p.parsed (p.from.globals ∙ globals)

  entry_there : HasIn (found_of m).entries.items (codes "states")
  entry_there =
      let wants : WantsDefault (slice_index_or (args_of cmd) 0 a) = subst WantsDefault (sym first_is) s.wants in
      subst (HasIn (found_of m).entries.items) (ap (λ (y : Arg). y.id.now) first_is ∙ s.id) (default_present cmd m p globals 0 a inside wants)

  not_group : (e : Entry) → EntryPasses p.built e → e.0.now ≡ codes "states" → e.1.is_group ≡ true → ⊥
  not_group e pass key group = elim (pass.3 group) [
    | inl empty ↦
        let bad : ◌≡◌ {A = ℕ} 0 6 = ap length (sym empty ∙ key) in
        absurd (omega arith)
    | inr lots ↦
        let bad : 0 < 0 = rw no_groups at lots in
        absurd (omega arith)
  ]

  has_value : (e : Entry) → EntryPasses p.built e → e.0.now ≡ codes "states" → 0 < length e.1.vals.items
  has_value e pass key = elim pass.1 [
    | inl h ↦ absurd (not_group e pass key h.0)
    | inr (inl v) ↦ v
    | inr (inr (inl h)) ↦
        let any = h.1 in
        let same = only_rules any.0 any.1 any.2 any.3 (rw key at any.4.0) in
        let is_set : any.1.action ≡ Some Set = same.action Set s.action in
        let bad : Set ≡ Count = rw is_set at any.4.1 in
        cc
    | inr (inr (inr h)) ↦
        let same = only_rules h.0 h.1 h.2 h.3 (rw key at h.4.0) in
        elim h.4.1 [
          | inl none ↦
              let one = same.least s.action s.least in
              absurd (omega arith)
          | inr has ↦
              let bad : false ≡ true = rw (same.val_delim, s.no_delimiter) at has in
              cc
        ]
  ]

  value_passes : (t : Text) → PassesArg p.built (codes "states") t → IsUnsignedIn 1 65536 t
  value_passes t any =
      let same = only_rules any.0 any.1 any.2 any.3 any.4.0 in
      let parser : parser_of any.1 ≡ Unsigned 1 65536 = ap parser_of_value (same.parser (Unsigned 1 65536) s.parser) in
      subst (λ (q : ValueParser). Accepts any.1.ignore_case q t) parser any.4.1

  values_pass : (e : Entry) → EntryPasses p.built e → e.0.now ≡ codes "states" → All (λ v. PassesArg p.built (codes "states") v.now) e.1.vals.items
  values_pass e pass key = elim pass.0 [
    | inl h ↦ absurd (not_group e pass key h)
    | inr h ↦ subst (λ (w : Text). All (λ v. PassesArg p.built w v.now) e.1.vals.items) key h
  ]

  as_written : (e : Entry) → EntryPasses p.built e → e.0.now ≡ codes "states" → e.1.reading ≡ reading.AsWritten
  as_written e pass key = elim pass.4 [
    | inl h ↦ absurd (not_group e pass key h)
    | inr any ↦
        let same = only_rules any.0 any.1 any.2 any.3 (rw key at any.4.0) in
        let parser : parser_of any.1 ≡ Unsigned 1 65536 = ap parser_of_value (same.parser (Unsigned 1 65536) s.parser) in
        sym any.4.1 ∙ ap reading_of parser
  ]

  read_there : HasStates (found_of m)
  read_there =
      let there = has_entry (found_of m).entries.items (codes "states") entry_there in
      let got = entry_by_id (EntryPasses p.built) (found_of m).entries.items (codes "states") there.0 parsed.values there.1 in
      let key : got.0.0.now ≡ codes "states" = (bytes_eq-Decides _ _).0 got.2 in
      let value = first_read (λ (t : Text). PassesArg p.built (codes "states") t) got.0.1 (found_of m) (codes "states") got.0.1.vals.items refl
      (there.1 ∙ ap Some (sym got.1)) (as_written got.0 got.3 key) (has_value got.0 got.3 key) (values_pass got.0 got.3 key) in
      (value.0, value.1, value_passes value.0 value.2)

-- a parse by the command finds a number of states within the bounds
pub states_found : (cmd : Command) (m : ArgMatches) → app_of cmd ≡ occur_app → IsParsedFrom cmd m → HasStates (found_of m)
states_found cmd m is p =
    let args = two (args_of cmd) _ _ (ap (λ a. a.top.rules) is) in
    let plain = both _ _ (ap (λ a. a.top.is_plain) is) in
    let after_external = both _ _ plain.1 in
    let after_globals = both _ _ after_external.1 in
    read_there cmd m p args.0 args.1 args.2 (not_so _ after_globals.0) (no_items _ plain.0) (states_facts args.0 args.3)
    (ap (λ (r : Rule). r.id) args.4) (script_groups args.1 args.4)
