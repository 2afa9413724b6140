-- Worked examples of bracket expressions: texts, what they mean, and what follows them.
use Rattle.re_syntax.{proofs.{Prelude.{◌≡◌, ℕ, ◌≤◌, ◌⊎◌, inl, inr, false, nat_eq, [], ◌∷◌, codes, refl, arith, ListPlace, AfterPoint, AfterRange, Text, Begins, nothing, only, range, union, one_of, none_of, Point, bare, symbol, Element, equivalence, alone, span, Rest, closing, IsBracket, matching, non_matching}, lemmas.BracketsUnique.{heads, apart}}, specs.{declared.bracket.ListPlace.TheVariants.First, Brackets.more}}

-- a text does not begin with a byte that a test finds different from its first
not_begins : (c b : ℕ) {t : Text} → nat_eq c b ≡ false → ¬ Begins (b ∷ []) (c ∷ t)
not_begins c b h (rest, e) = apart (heads e) h

-- a byte other than `[` stands for itself
plain : {b : ℕ} {t : Text} → nat_eq b 91 ≡ false → Point (b ∷ t) t b
plain {b} h = bare b (λ e. absurd (apart e h))

-- a byte that is neither a `]` nor a hyphen, and no hyphen after it
ordinary : {p : ListPlace} (b c : ℕ) {t : Text} → nat_eq b 91 ≡ false → nat_eq b 93 ≡ false → nat_eq b 45 ≡ false → nat_eq c 45 ≡ false →
    Element p (b ∷ c ∷ t) (c ∷ t) (only b) AfterPoint
ordinary b c o h k n = alone (plain o) (record {
  bracket = λ s. absurd (not_begins b 93 h s);
  hyphen = λ s. absurd (not_begins b 45 k s);
  before_hyphen = λ s. absurd (not_begins c 45 n s);
})

-- a `]` that is first, no hyphen after it
first_closing : (c : ℕ) {t : Text} → nat_eq c 45 ≡ false → Element First (93 ∷ c ∷ t) (c ∷ t) (only 93) AfterPoint
first_closing c n = alone (plain refl) (record { bracket = λ s. refl; hyphen = λ s. absurd (not_begins 93 45 refl s); before_hyphen = λ s. absurd (not_begins c 45 n s) })

-- a hyphen directly after a range or a class, no hyphen after it
hyphen_after_range : (c : ℕ) {t : Text} → nat_eq c 45 ≡ false → Element AfterRange (45 ∷ c ∷ t) (c ∷ t) (only 45) AfterPoint
hyphen_after_range c n = alone (plain refl) (record { bracket = λ s. absurd (not_begins 45 93 refl s); hyphen = λ s. inl (λ e. cc); before_hyphen = λ s. absurd (not_begins c 45 n s) })

-- a range whose start is neither a `]` nor a hyphen
bytes_span : {p : ListPlace} (a b : ℕ) {t : Text} → nat_eq a 91 ≡ false → nat_eq a 93 ≡ false → nat_eq a 45 ≡ false → nat_eq b 91 ≡ false → nat_eq b 93 ≡ false → a ≤ b →
    Element p (a ∷ 45 ∷ b ∷ t) t (range a b) AfterRange
bytes_span {p} a b {t} o h k o' h' le = span (plain o) start (plain o') (not_begins b 93 h') le
  where
    start : (Begins (codes "]") (a ∷ 45 ∷ b ∷ t) ⊎ Begins (codes "-") (a ∷ 45 ∷ b ∷ t)) → p ≡ First
    start (inl s) = absurd (not_begins a 93 h s)
    start (inr s) = absurd (not_begins a 45 k s)

-- the bracket that closes a list
done : {p : ListPlace} {u : Text} → (p ≡ First → ⊥) → Rest p (93 ∷ u) u nothing
done n = closing n

-- `[][.-.]-0]`: a `]` that is first, and a range that a collating symbol begins
symbol_start : IsBracket (codes "[][.-.]-0]") [] (one_of (union (only 93) (union (range 45 48) nothing)))
symbol_start =
    matching (not_begins 93 94 refl) (more (first_closing 91 refl)
    (more (span (symbol 45) no_byte (plain refl) (not_begins 48 93 refl) (omega arith)) (done (λ e. cc))))
  where
    no_byte : {p : ListPlace} {t : Text} → (Begins (codes "]") (91 ∷ t) ⊎ Begins (codes "-") (91 ∷ t)) → p ≡ First
    no_byte (inl s) = absurd (not_begins 91 93 refl s)
    no_byte (inr s) = absurd (not_begins 91 45 refl s)

-- `[---]`: the range from a hyphen to a hyphen
three_hyphens : IsBracket (codes "[---]") [] (one_of (union (range 45 45) nothing))
three_hyphens = matching (not_begins 45 94 refl) (more (span (plain refl) (λ s. refl) (plain refl) (not_begins 45 93 refl) (omega arith)) (done (λ e. cc)))

-- `[0-9-_]`: a hyphen directly after a range
hyphen_between : IsBracket (codes "[0-9-_]") [] (one_of (union (range 48 57) (union (only 45) (union (only 95) nothing))))
hyphen_between =
    matching (not_begins 48 94 refl) (more (bytes_span 48 57 refl refl refl refl refl (omega arith))
    (more (hyphen_after_range 95 refl) (more (ordinary 95 93 refl refl refl refl) (done (λ e. cc)))))

-- `[^]a]`: a `]` directly after the caret is the first
caret : IsBracket (codes "[^]a]") [] (none_of (union (only 93) (union (only 97) nothing)))
caret = non_matching (more (first_closing 97 refl) (more (ordinary 97 93 refl refl refl refl) (done (λ e. cc))))

-- `[[.].]]`: a `]` inside a collating symbol
bracket_symbol : IsBracket (codes "[[.].]]") [] (one_of (union (only 93) nothing))
bracket_symbol =
    matching (not_begins 91 94 refl)
    (more (alone (symbol 93) (record { bracket = λ s. absurd (not_begins 91 93 refl s); hyphen = λ s. absurd (not_begins 91 45 refl s); before_hyphen = λ s. absurd (not_begins 93 45 refl s) }))
    (done (λ e. cc)))

-- `[[=a=]-z]`: a hyphen directly after an equivalence class begins no range
hyphen_after_equivalence : IsBracket (codes "[[=a=]-z]") [] (one_of (union (only 97) (union (only 45) (union (only 122) nothing))))
hyphen_after_equivalence =
    matching (not_begins 91 94 refl) (more (equivalence 97) (more (hyphen_after_range 122 refl) (more (ordinary 122 93 refl refl refl refl) (done (λ e. cc)))))
