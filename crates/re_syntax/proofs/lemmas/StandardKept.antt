-- What the standard alone makes of a text is what it spells here.
use Rattle.re_syntax.proofs.{Prelude.{Text, KeepsStandard}, lemmas.{StandardBasic.basic-kept, StandardExtended.extended-kept}}

-- the law
pub keeps_standard : (text : Text) → KeepsStandard text
keeps_standard _ = record { basic = λ e s. basic-kept s; extended = λ e s n. extended-kept s n }
