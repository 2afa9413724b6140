-- Tokens and their faults in any syntax, by the bytes at their place.
use Rattle.re_syntax.{proofs.{Prelude.{HasOne, ◌≡◌, ℕ, ◌+◌, ◌<◌, ◌≤◌, Bool, false, nat_eq, ◌∷◌, ◌++◌, length, drop, get_or, Option, sym, ◌∙◌, arith, append_assoc, length-drop, length-append, Digit, in_class, Syntax, FaultKind, Counts, Text, byte, IsBracketUpTo, IsAfter, IsAllowed, IsDisallowed, IsNoPart, IntervalStands, EscapeStands}, lemmas.{BracketsUnique.{heads, apart}, BracketLists.bracket-shortens, CountsLaws.{are_counts, disallowed_too}, Places.front_here}}, specs.{declared.tokens.{ItemPlace.ItemPlace, Atom.Atom}, Tokens.{atom, times}, FirstFaults.IsToken, Faults.IsAt, Working.TokenSteps.{Stands, token_of, atom_expression}}}
use Rattle.re_syntax.specs.declared.tokens.Token.{Token as Read}
use Rattle.re_syntax.specs.declared.tokens.Token.TheVariants.{Atom as Atomic, Times}

module _ {syntax : Syntax} {g : Bool} {p : ItemPlace} {text : Text} {at : ℕ} where
  -- a token by the text from its place on
  stands_by : {beyond : ℕ} {t : Text} {token : Read} → at < beyond → beyond ≤ length text → drop at text ≡ t → IsToken syntax g p t (drop beyond text) (token_of token) → Stands syntax g p text at token beyond
  stands_by f w e x = record { forward = f; within = w; stands = rw e x }

  -- some bytes, one byte, an escape, and a bracket expression
  pub bytes_stand : {beyond : ℕ} {bytes : Text} (token : Read) → 0 < length bytes → IsAfter bytes text at beyond → IsToken syntax g p (bytes ++ drop beyond text) (drop beyond text) (token_of token) →
      Stands syntax g p text at token beyond
  bytes_stand token some s x = stands_by (omega (arith, s.place)) s.within s.front x

  pub byte_stands : {b : ℕ} {token : Read} → at < length text → get_or text at 0 ≡ b → IsToken syntax g p (b ∷ drop (at + 1) text) (drop (at + 1) text) (token_of token) → Stands syntax g p text at token (at + 1)
  byte_stands h e x = stands_by (omega arith) (omega arith) (front_here text at h e) x

  pub escape_stands : {others : Text} {b : ℕ} (it : Atom) → EscapeStands others text at b → atom_expression it ≡ byte b → IsToken syntax g p (92 ∷ b ∷ drop (at + 2) text) (drop (at + 2) text) (atom (byte b)) →
      Stands syntax g p text at (Atomic it) (at + 2)
  escape_stands it s e x = stands_by (omega arith) s.within s.front (rw e x)

  pub bracket_stands : {beyond : ℕ} (it : Atom) → IsBracketUpTo text at beyond (atom_expression it) → IsToken syntax g p (drop at text) (drop beyond text) (atom (atom_expression it)) → Stands syntax g p text at (Atomic it) beyond
  bracket_stands it b x = let within = b.within in record { forward = omega (arith, simp length-drop at (bracket-shortens b.stands)); within = within; stands = x }

  -- a duplication
  pub times_stand : {beyond : ℕ} {counts : Counts} {D : Text → ℕ → Option ℕ → Type 0} (d : HasOne D text at counts beyond) → 0 < length d.bytes →
      IsToken syntax g p (d.bytes ++ drop beyond text) (drop beyond text) (times counts.least counts.most) → Stands syntax g p text at (Times counts) beyond
  times_stand {beyond} d some x =
      let within = d.within in
      let lengths : length (drop at text) ≡ length d.bytes + length (drop beyond text) = cc (d.front, length-append d.bytes (drop beyond text)) in
      stands_by (omega (arith, simp length-drop at lengths)) within d.front x

-- an interval whose counts are allowed is a duplication, and one whose counts are refused is a fault
module _ {opening close text : Text} {at inside beyond : ℕ} {counts : Counts} (s : IsAfter opening text at inside) (i : IntervalStands close text inside counts beyond) where
  pub interval_stands : {D : Text → ℕ → Option ℕ → Type 0} → IsAllowed counts.least counts.most → (IsAllowed i.least i.most → D (opening ++ i.stands.inside ++ close) i.least i.most) → HasOne D text at counts beyond
  interval_stands h f =
      let same = are_counts counts.most i.most i.least_is i.most_is h in
      let allowed : IsAllowed i.least i.most = rw (sym same.least, sym same.most) h in
      record {
        within = i.within;
        bytes = opening ++ i.stands.inside ++ close;
        duplication = rw (same.least, same.most) (f allowed);
        front = cc (s.front, i.stands.whole, append_assoc opening i.stands.inside (close ++ drop beyond text), append_assoc (opening ++ i.stands.inside) close (drop beyond text));
      }

  pub bad_interval : {kind : FaultKind} (P : Text → FaultKind → Text → Type 0) → at ≤ length text → IsDisallowed kind counts.least counts.most →
      (IsDisallowed kind i.least i.most → P (opening ++ drop inside text) kind (opening ++ drop inside text)) → IsAt (P (drop at text)) text (record { kind = kind; at = at })
  bad_interval P h bad f = record { within = h; is_fault = rw s.front (f (disallowed_too bad _ i.least_is i.most_is)) }

-- what closes an interval is no part of it
pub closing_no_part : (b : ℕ) (t : Text) → in_class Digit b ≡ false → nat_eq b 44 ≡ false → IsNoPart (b ∷ t)
closing_no_part b t n m = record {
  not_empty = λ e. cc;
  no_digit = λ c u e h. (let f = sym n ∙ rw (sym (heads e)) at h in cc);
  no_comma = λ h. apart (heads h.1) m;
}
