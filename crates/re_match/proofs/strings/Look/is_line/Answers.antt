use Rattle.re_match.proofs.{Prelude.{◌≡◌, bytes_eq}, lemmas.OneText.equals-decides}
use Rattle.re_match.proofs.strings.Look.is_line.Goals as goal

pub returns-in-One : goal.returns-in-One
returns-in-One c =
    let equal : c.eq.result ≡ bytes_eq c.args.line.now c.in-One.finder = cc (c.eq.ensures, c.needle.ensures) in
    rw (c.in-One.is, equal) (equals-decides _ _)
