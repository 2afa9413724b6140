use Rattle.re_strings.proofs.lemmas.KeyLaws.{key_plain, key_lower}
use Rattle.re_strings.proofs.keys.key_of.Goals as goal

pub returns-then-fold : goal.returns-then-fold
returns-then-fold c = cc (c.to_ascii_lowercase.ensures.value, key_lower _, c.if-fold.true)

pub returns : goal.returns
returns c = cc (key_plain _, c.if-fold.false)
