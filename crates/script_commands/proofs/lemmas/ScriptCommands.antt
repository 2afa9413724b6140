-- The command of some words, by the first of them.
use Rattle.script_commands.proofs.Prelude.{◌≡◌, ℕ, true, false, List, [], ◌∷◌, bytes_eq, codes, Some, None, refl, ◌∙◌, cond-true, cond-false, Text, Splice, number_of, counts, command_of, file_command, missing_command, splice_command, unnamed_command, four_words}

pub command_none : command_of [] ≡ None
unfolding command_of
command_none = refl

pub command_file : (word : Text) (given : List Text) → bytes_eq word (codes "file") ≡ true → command_of (word ∷ given) ≡ file_command given
unfolding command_of
command_file word given is = cond-true _ _ _ is

pub command_missing : (word : Text) (given : List Text) → bytes_eq word (codes "file") ≡ false → bytes_eq word (codes "missing") ≡ true → command_of (word ∷ given) ≡ missing_command given
unfolding command_of
command_missing word given other is = cond-false _ _ _ other ∙ cond-true _ _ _ is

pub command_unnamed : (word : Text) (given : List Text) → bytes_eq word (codes "file") ≡ false → bytes_eq word (codes "missing") ≡ false → command_of (word ∷ given) ≡ unnamed_command word given
unfolding command_of
command_unnamed word given other another = cond-false _ _ _ other ∙ cond-false _ _ _ another

pub four_words-some : (ws : List Text) (a b c d : Text) → four_words ws ≡ Some (a ∷ b ∷ c ∷ d ∷ []) → ws ≡ a ∷ b ∷ c ∷ d ∷ []
four_words-some (x ∷ y ∷ z ∷ u ∷ []) a b c d is = cc
four_words-some [] a b c d is = absurd (let no : ⊥ = cc in no)
four_words-some (x ∷ []) a b c d is = absurd (let no : ⊥ = cc in no)
four_words-some (x ∷ y ∷ []) a b c d is = absurd (let no : ⊥ = cc in no)
four_words-some (x ∷ y ∷ z ∷ []) a b c d is = absurd (let no : ⊥ = cc in no)
four_words-some (x ∷ y ∷ z ∷ u ∷ v ∷ ws) a b c d is = absurd (let no : ⊥ = cc in no)

pub splice_some : (a b c d : Text) (file start removed count : ℕ) → number_of a ≡ Some file → number_of b ≡ Some start → number_of c ≡ Some removed → number_of d ≡ Some count
    → splice_command (a ∷ b ∷ c ∷ d ∷ []) ≡ Some (counts count (Splice file start removed))
splice_some a b c d file start removed count p q r s = rw (p, q, r, s) refl

pub splice_none : (a b c d : Text) → number_of a ≡ None → splice_command (a ∷ b ∷ c ∷ d ∷ []) ≡ None
splice_none a b c d p = rw p refl
