use Rattle.re_syntax.proofs.Prelude.{◌≡◌, ◌∙◌, sym, false, true, undefined, reference}
use Rattle.re_syntax.proofs.escape.escape_fault.Goals as goal

pub returns-then-byte : goal.returns-then-byte
returns-then-byte c u = reference c.if-byte.true

pub returns-then-is_alphanumeric-contains : goal.returns-then-is_alphanumeric-contains
returns-then-is_alphanumeric-contains c u =
    undefined (rw (sym c.is_alphanumeric.ensures, sym c.contains.ensures.value) c.if-is_alphanumeric-contains.true)
    (λ h. let e : true ≡ false = sym h ∙ c.if-byte.false in cc)
