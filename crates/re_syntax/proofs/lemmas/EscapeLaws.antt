-- Escapes, by what follows the backslash.
use Rattle.re_syntax.{proofs.{Prelude.{EscapeFault, undefined, reference, ◌≡◌, ℕ, ◌+◌, ◌≤◌, nat_le, ◌∷◌, length, drop, Some, IsTrue, slice_get, codes, refl, sym, ap, ◌∙◌, arith, length-drop, and_parts, and_from, leb-true, le-leb, or_left, or_right, nil_from_length, slice_get_within, FaultKind, TrailingBackslash, Text, Begins, range, union, is_undefined, one_to_nine, EscapeStands}, lemmas.{BracketsUnique.{heads, tails}, CutsUnique.SameFault, Places.{byte_at, beyond_first}}}, specs.{EscapeFaults.trailing, Faults.IsAt}}

-- a backslash and a byte
pub escape_stands : {others text : Text} {at b : ℕ} → Begins (codes "\\") (drop at text) → slice_get text (at + 1) ≡ Some b → ¬ IsTrue (is_undefined others b) →
    EscapeStands others text at b
escape_stands {text} {at} {b} (rest, e) f h =
    let next = beyond_first text at 92 e ∙ byte_at text (at + 1) b f in
    let there : at + 1 + 1 ≡ at + 2 = omega arith in
    record {
      within = let k = slice_get_within text (at + 1) b f in omega arith;
      front = cc;
      allowed = h;
    }

-- a digit that would refer back has no meaning of its own
reference_undefined : (others : Text) (b : ℕ) → IsTrue (one_to_nine b) → IsTrue (is_undefined others b)
reference_undefined others b h =
    let both = and_parts (nat_le 49 b) (nat_le b 57) h in
    let low = leb-true 49 b both.0 in
    or_left _ _ (or_right (union (range 65 90) (range 97 122) b) _ (and_from (nat_le 48 b) _ (le-leb 48 b (omega arith)) both.1))

-- the text's place
place_within : (text : Text) (at : ℕ) → Begins (codes "\\") (drop at text) → at ≤ length text
place_within text at (rest, e) = omega (arith, simp length-drop at (ap length e))

-- a backslash and a byte that is refused
pub refused_escape : (others : Text) {text : Text} (at b : ℕ) (kind : FaultKind) → Begins (codes "\\") (drop at text) → slice_get text (at + 1) ≡ Some b →
    ((u : Text) → EscapeFault others (92 ∷ b ∷ u) kind (92 ∷ b ∷ u)) → IsAt (EscapeFault others (drop at text)) text (record { kind = kind; at = at })
refused_escape others {text} at b kind (rest, e) f x =
    let next = beyond_first text at 92 e ∙ byte_at text (at + 1) b f in
    record { within = place_within text at (rest, e); is_fault = rw (e ∙ ap (λ x. 92 ∷ x) next) (x (drop (at + 1 + 1) text)) }

-- a backslash that is last
pub trailing_backslash : (others : Text) {text : Text} (at : ℕ) → Begins (codes "\\") (drop at text) → length text ≤ at + 1 →
    IsAt (EscapeFault others (drop at text)) text (record { kind = TrailingBackslash; at = at })
trailing_backslash others {text} at (rest, e) h =
    let nothing = nil_from_length rest (omega (arith, simp length-drop at (ap length e))) in
    record { within = place_within text at (rest, e); is_fault = rw (e ∙ ap (λ x. 92 ∷ x) nothing) trailing }

-- a backslash has one fault, and none where the byte after it may stand there
pub escape_fault-unique : {others t s u v : Text} {j k : FaultKind} → EscapeFault others t j u → EscapeFault others s k v → t ≡ s → SameFault j k u v
escape_fault-unique trailing trailing e = record { kinds = refl; places = e }
escape_fault-unique trailing (undefined h n) e = let f = tails e in cc
escape_fault-unique trailing (reference h) e = let f = tails e in cc
escape_fault-unique (undefined h n) trailing e = let f = tails e in cc
escape_fault-unique (undefined h n) (undefined i m) e = record { kinds = refl; places = e }
escape_fault-unique (undefined h n) (reference i) e = absurd (n (rw (heads (tails e)) i))
escape_fault-unique (reference h) trailing e = let f = tails e in cc
escape_fault-unique (reference h) (undefined i n) e = absurd (n (rw (sym (heads (tails e))) h))
escape_fault-unique (reference h) (reference i) e = record { kinds = refl; places = e }

pub escape-no_fault : {others t u v : Text} {b : ℕ} {k : FaultKind} → EscapeFault others t k v → t ≡ 92 ∷ b ∷ u → IsTrue (is_undefined others b)
escape-no_fault trailing e = let f = tails e in absurd (cc)
escape-no_fault (undefined h n) e = rw (sym (heads (tails e))) h
escape-no_fault (reference {b = b} h) e = rw (sym (heads (tails e))) (reference_undefined _ b h)
