-- Basic expressions of the standard alone spell the same here.
use Rattle.re_syntax.{proofs.{Prelude.{ℕ, Bool, false, List, Option, refl, Basic, Text, Expression, IsAtEnd, of_text, of_group, IsSpelled, IsStandardBasic}, lemmas.{BasicTokensUnique.at_end, SpelledParts.{ItemReads, ItemsRead, BranchesRead, spells}, StandardIntervals.interval-kept}}, specs.declared.tokens.ItemPlace.ItemPlace}
use Rattle.re_syntax.specs.BasicTokens as basic
use Rattle.re_syntax.specs.Working.StandardBasic.{Duplication, star, interval, IsAtEnd as StandardEnd, of_text as standard_of_text, of_group as standard_of_group, Items, none, leading, trailing, item, Item, bracket, period, escaped, ordinary, dollar, group, repeated, as_basic}
use Rattle.re_syntax.proofs.lemmas.SpelledParts as parts

end-kept : {t : Text} → StandardEnd t → IsAtEnd t
end-kept standard_of_text = of_text
end-kept standard_of_group = of_group

duplication-kept : {d : Text} {least : ℕ} {most : Option ℕ} → Duplication d least most → basic.Duplication d least most
duplication-kept star = basic.star
duplication-kept (interval form allowed) = basic.interval (interval-kept form) allowed

-- Where the standard has a part no other branch follows, so each end there is one of the standard's.

item_apart : {p : ItemPlace} {h : ℕ} {t u : Text} {e : Expression} → Item p h t u e → ¬ IsAtEnd t
item_apart {p} (bracket b) a = at_end {g = false} {p = p} (basic.bracket b) a refl
item_apart period a = elim a [ ]
item_apart {p} (escaped b h) a = at_end {g = false} {p = p} (basic.escaped b h) a refl
item_apart {p} (ordinary b h) a = at_end {g = false} {p = p} (basic.ordinary b h) a refl
item_apart (dollar n) a = elim a [ ]
item_apart (group is) a = elim a [ ]
item_apart (repeated i d) a = item_apart i a

items_end : {p : ItemPlace} {h : ℕ} {t u : Text} {es : List Expression} → Items p h t u es → StandardEnd u → IsAtEnd t → StandardEnd t
items_end none s a = s
items_end (leading is) s a = elim a [ ]
items_end (trailing l) s a = elim a [ ]
items_end (item i is) s a = absurd (item_apart i a)

mutual
  items_read : {p : ItemPlace} {h : ℕ} {t u : Text} {es : List Expression} → Items p h t u es → StandardEnd u → {g : Bool} → ItemsRead Basic g p h t u es
  items_read none s = parts.none
  items_read (leading is) s = parts.anchor (basic.leads refl) (items_read is s)
  items_read (trailing l) s = parts.item (parts.single (basic.trails (end-kept l))) parts.none
  items_read (item i is) s = parts.item (item_read i (items_end is s)) (items_read is s)

  item_read : {p : ItemPlace} {h : ℕ} {t u : Text} {e : Expression} → Item p h t u e → (IsAtEnd u → StandardEnd u) → {g : Bool} → ItemReads Basic g p h t u e
  item_read (bracket b) n = parts.single (basic.bracket b)
  item_read period n = parts.single basic.period
  item_read (escaped b h) n = parts.single (basic.escaped b h)
  item_read (ordinary b h) n = parts.single (basic.ordinary b h)
  item_read (dollar k) n = parts.single (basic.dollar (λ a. k (n a)))
  item_read (group is) n = parts.group basic.opens (parts.last (items_read is standard_of_group)) (λ q. basic.closes refl)
  item_read (repeated i d) n = parts.repeated (item_read i (λ a. absurd (at_end {g = false} (basic.repeats refl (duplication-kept d)) a refl))) (basic.repeats refl (duplication-kept d))

-- a whole basic expression
pub basic-kept : {t : Text} {e : Expression} → IsStandardBasic t e → IsSpelled Basic t e
basic-kept (as_basic is h) = spells (parts.last (items_read is standard_of_text)) h
