-- The pieces of words, one after another.
use Rattle.{grep_utility.proofs.Prelude.{◌≡◌, ℕ, ◌≢◌, nat_eq, true, false, List, [], ◌∷◌, length, codes, Option, Some, None, refl, sym, ap, ◌∙◌, arith, Bor, encode_utf8_all, bytes_eq, IsUtf8, encodes-chars, chars-nil, Text, MissingArgument, Argument, Takes, Token, fault, with_argument, Wanting, meaning_of, group, pieces, an_operand, ends_options, by_characters, a_group, word_of, AreUsedUp, tokens_from}, std.specs.{Prelude.MatchOption, Str.chars}}

-- an empty text has no characters
no_chars : (t : Text) → length t ≡ 0 → chars t ≡ []
no_chars [] e = chars-nil
no_chars (b ∷ t) e = absurd (omega arith)

-- nothing is left of a group
pub group-end : (following : Option Wanting → List Token) (t : Text) → length t ≡ 0 → group following (chars t) ≡ following None
group-end following t e = rw (no_chars t e)

-- where no letter of a group is left, the pieces are those of the words
pub used_up : (letters : Option (Bor Text)) (words : List Text) → AreUsedUp letters → tokens_from letters words ≡ pieces words None
used_up (Some rest) words none = rw none
used_up None words never = absurd never

module _ (following : Option Wanting → List Token) (c : ℕ) (a : Argument) (takes : meaning_of c ≡ Some (Takes a)) where
  -- the rest of the group is the argument
  pub group-argument : (t : Text) → IsUtf8 t → length t ≢ 0 → group following (c ∷ chars t) ≡ with_argument c a t ∷ following None
  group-argument t utf8 more = by (chars t) (encodes-chars t utf8)
    where
      by : (cs : List ℕ) → encode_utf8_all cs ≡ t → group following (c ∷ cs) ≡ with_argument c a t ∷ following None
      by [] e = absurd (more (sym (ap length e)))
      by (d ∷ ds) e = rw (takes, group) (rw e)

  -- the argument is after the group
  pub group-wants : (t : Text) → length t ≡ 0 → group following (c ∷ chars t) ≡ following (Some (record { letter = c; argument = a }))
  group-wants t none = ap (λ cs. group following (c ∷ cs)) (no_chars t none) ∙ rw (takes, group) refl

module _ (words : List Text) (w : Wanting) (letters : Option (Bor Text)) (rest : Bor Text) (are : letters ≡ Some rest) (none : length rest.now ≡ 0) where
  -- the pieces of words after a group
  after_group : tokens_from letters words ≡ pieces words None
  after_group = cc (group-end (pieces words) rest.now none)

  -- the next word is the argument
  pub pieces-argument : (word : Text) (before : List Text) → before ≡ word ∷ words → pieces before (Some w) ≡ with_argument w.letter w.argument word ∷ tokens_from letters words
  pieces-argument word before e = ap (λ ws. pieces ws (Some w)) e ∙ ap (λ ps. with_argument w.letter w.argument word ∷ ps) (sym after_group)

  -- there is no next word
  pub pieces-no_argument : (before : List Text) → before ≡ [] → words ≡ [] → pieces before (Some w) ≡ fault (MissingArgument w.letter) ∷ tokens_from letters words
  pieces-no_argument before e f = cc (sym (after_group ∙ ap (λ ws. pieces ws None) f))

-- the word `--`
pub word_of-end : (word : Text) → bytes_eq word (codes "--") ≡ true → word_of word ≡ ends_options
unfolding word_of
word_of-end word e = rw e refl

-- any other word
pub word_of-other : (word : Text) → bytes_eq word (codes "--") ≡ false → word_of word ≡ by_characters (chars word)
unfolding word_of
word_of-other word e = rw e refl

-- a word that begins with no hyphen
pub by_characters-operand : (c : ℕ) (cs : List ℕ) → nat_eq c 45 ≡ false → by_characters (c ∷ cs) ≡ an_operand
by_characters-operand c [] e = refl
by_characters-operand c (d ∷ ds) e = rw e refl

-- a word that begins with a hyphen
pub group_found : (word : Text) (c : ℕ) (letters : List ℕ) (r : Option (ℕ × Bor Text)) → word_of word ≡ by_characters (c ∷ letters) → nat_eq c 45 ≡ true → MatchOption r (letters ≡ []) (λ found. letters ≡ found.0 ∷ chars found.1.now)
    → MatchOption r (word_of word ≡ an_operand) (λ found. word_of word ≡ a_group (found.0 ∷ chars found.1.now))
group_found word c letters None is e h = is ∙ ap (λ cs. by_characters (c ∷ cs)) h
group_found word c letters (Some found) is e h = is ∙ ap (λ cs. by_characters (c ∷ cs)) h ∙ rw e refl
