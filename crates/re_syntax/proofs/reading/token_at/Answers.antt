use Rattle.re_syntax.{proofs.{Prelude.refl, lemmas.TokenReading.byte_stands}, specs.Tokens.one_byte}
use Rattle.re_syntax.proofs.reading.token_at.Goals as goal

pub returns-in-Basic-clause-read : goal.returns-in-Basic-clause-read
returns-in-Basic-clause-read c = rw c.in-Basic.is c.basic_token.ensures.read

pub returns-in-Basic-clause-refused : goal.returns-in-Basic-clause-refused
returns-in-Basic-clause-refused c = rw c.in-Basic.is c.basic_token.ensures.refused

pub returns-in-Extended-clause-read : goal.returns-in-Extended-clause-read
returns-in-Extended-clause-read c = rw c.in-Extended.is c.extended_token.ensures.read

pub returns-in-Extended-clause-refused : goal.returns-in-Extended-clause-refused
returns-in-Extended-clause-refused c = rw c.in-Extended.is c.extended_token.ensures.refused

pub returns-in-Fixed-clause-read : goal.returns-in-Fixed-clause-read
returns-in-Fixed-clause-read c = rw c.in-Fixed.is (byte_stands c.requires refl (rw c.only.ensures (one_byte _)))
