-- Extended expressions of the standard alone spell the same here, where they have no `{,`.
use Rattle.re_syntax.{proofs.{Prelude.{ℕ, Bool, List, [], ◌∷◌, ◌++◌, Option, codes, refl, sym, ap, ◌∙◌, append_assoc, Extended, Text, Expression, HasNoOpenComma, IsSpelled, IsStandardExtended}, lemmas.{BracketRests.{ComesAfter, after_two, beyond_byte, bracket_after}, SpelledParts.{ItemReads, ItemsRead, BranchesRead, spells}, StandardIntervals.{interval-kept, no_interval-kept}}}, specs.{declared.tokens.ItemPlace.ItemPlace, Working.StandardExtended.{Duplication, star, plus, question, interval, Branches, last, more, Items, none, anchor, item, Item, bracket, period, dollar, escaped, ordinary, brace, group, repeated, as_extended}}}
use Rattle.re_syntax.specs.ExtendedTokens as extended
use Rattle.re_syntax.proofs.lemmas.SpelledParts as parts

-- what follows some bytes of a text without `{,` has none either
lacks_after : {t u : Text} → HasNoOpenComma t → ComesAfter t u → HasNoOpenComma u
lacks_after lacks (w, e) front back f = lacks (w ++ front) back (e ∙ ap (λ y. w ++ y) f ∙ sym (append_assoc w front (codes "{," ++ back)))

duplication-kept : {d : Text} {least : ℕ} {most : Option ℕ} → Duplication d least most → extended.Duplication d least most
duplication-kept star = extended.star
duplication-kept plus = extended.plus
duplication-kept question = extended.question
duplication-kept (interval form allowed) = extended.interval (interval-kept form) allowed

-- What follows a part is the rest of the text.
mutual
  branches_after : {g : Bool} {h : ℕ} {t u : Text} {es : List Expression} → Branches g h t u es → ComesAfter t u
  branches_after (last is) = items_after is
  branches_after (more is bs) = after_two (items_after is) (beyond_byte 124 (branches_after bs))

  items_after : {g : Bool} {h : ℕ} {t u : Text} {es : List Expression} → Items g h t u es → ComesAfter t u
  items_after none = ([], refl)
  items_after (anchor is) = beyond_byte 94 (items_after is)
  items_after (item i is) = after_two (item_after i) (items_after is)

  item_after : {g : Bool} {h : ℕ} {t u : Text} {e : Expression} → Item g h t u e → ComesAfter t u
  item_after (bracket b) = bracket_after b
  item_after period = (46 ∷ [], refl)
  item_after dollar = (36 ∷ [], refl)
  item_after (escaped b h) = (92 ∷ b ∷ [], refl)
  item_after (ordinary b h) = (b ∷ [], refl)
  item_after (brace k) = (123 ∷ [], refl)
  item_after (group bs) = beyond_byte 40 (after_two (branches_after bs) (41 ∷ [], refl))
  item_after (repeated {d = d} i q) = after_two (item_after i) (d, refl)

-- So each part of the standard is read here.
mutual
  branches_read : {g : Bool} {h : ℕ} {t u : Text} {es : List Expression} → Branches g h t u es → HasNoOpenComma t → BranchesRead Extended g h t u es
  branches_read (last is) n = parts.last (items_read is n)
  branches_read (more is bs) n = parts.more (items_read is n) (λ q. extended.parts) (branches_read bs (lacks_after n (after_two (items_after is) (124 ∷ [], refl))))

  items_read : {g : Bool} {h : ℕ} {t u : Text} {es : List Expression} → Items g h t u es → HasNoOpenComma t → {p : ItemPlace} → ItemsRead Extended g p h t u es
  items_read none n = parts.none
  items_read (anchor is) n = parts.anchor extended.leads (items_read is (lacks_after n (94 ∷ [], refl)))
  items_read (item i is) n = parts.item (item_read i n) (items_read is (lacks_after n (item_after i)))

  item_read : {g : Bool} {h : ℕ} {t u : Text} {e : Expression} → Item g h t u e → HasNoOpenComma t → {p : ItemPlace} → ItemReads Extended g p h t u e
  item_read (bracket b) n = parts.single (extended.bracket b)
  item_read period n = parts.single extended.period
  item_read dollar n = parts.single extended.dollar
  item_read (escaped b h) n = parts.single (extended.escaped b h)
  item_read (ordinary b h) n = parts.single (extended.ordinary b h)
  item_read (brace k) n = parts.single (extended.brace (no_interval-kept n k))
  item_read (group bs) n = parts.group extended.opens (branches_read bs (lacks_after n (40 ∷ [], refl))) (λ q. extended.closes refl)
  item_read (repeated i q) n = parts.repeated (item_read i n) (extended.repeats refl (duplication-kept q))

-- a whole extended expression
pub extended-kept : {t : Text} {e : Expression} → IsStandardExtended t e → HasNoOpenComma t → IsSpelled Extended t e
extended-kept (as_extended bs h) n = spells (branches_read bs n) h
