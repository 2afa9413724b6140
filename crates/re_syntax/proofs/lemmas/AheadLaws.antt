-- Bytes at a place of a text.
use Rattle.re_syntax.proofs.Prelude.{◌≡◌, ℕ, ◌+◌, ◌≤◌, ◌++◌, length, drop, refl, ap, arith, length-append, length-drop, Text, IsAfter}

-- bytes that come next at a place are within the text
pub is_after : {text bytes : Text} {at : ℕ} → at ≤ length text → drop at text ≡ bytes ++ drop (at + length bytes) text → IsAfter bytes text at (at + length bytes)
is_after {at} h e = record { within = omega (arith, simp (length-append, length-drop) at (ap length e)); front = e; place = refl }
