-- Reading a list of elements one by one: what was read and what is left are together the whole
-- list.
use Rattle.{re_syntax.{proofs.Prelude.{◌≡◌, ◌≢◌, ℕ, ◌<◌, ◌⊎◌, inl, inr, ◌++◌, codes, length, length-append, refl, sym, arith, ListPlace, AfterPoint, FaultKind, Text, Begins, Bytes, nothing, union, class_name, Expression, Point, bare, symbol, Element, class, equivalence, alone, span, Rest, closing, IsBracket, matching, non_matching, MayGoOn}, specs.{declared.bracket.ListPlace.TheVariants.First, Brackets.more, BracketFaults.{ListFault, later}}}, re_trees.proofs.lemmas.UnionsLaws.{union-assoc, union-nothing}}

-- of the list at the front of the first text, elements that add these bytes were read; the second
-- text is left, at this place of the list, and a fault there is the list's
pub record GoesOn (opening t v : Text) (p : ListPlace) (done : Bytes) : Type 0 where
  pub not_first : p ≢ First
  pub hyphen : Begins (codes "-") v → (p ≢ AfterPoint) ⊎ Begins (codes "-]") v
  pub whole : (u : Text) (s : Bytes) → Rest p v u s → Rest First t u (union done s)
  pub fault : (kind : FaultKind) (from : Text) → ListFault opening p v kind from → ListFault opening First t kind from

-- a list adds equal bytes
rest_along : {p : ListPlace} {t u : Text} {x y : Bytes} → x ≡ y → Rest p t u x → Rest p t u y
rest_along e r = rw e at r

-- no place after an element is the first, and after a point a hyphen is the last
after_element : {p q : ListPlace} {t v : Text} {a : Bytes} → Element p t v a q → (q ≢ First) × (Begins (codes "-") v → (q ≢ AfterPoint) ⊎ Begins (codes "-]") v)
after_element (class c) = (λ e. cc, λ h. inl (λ e. cc))
after_element (equivalence b) = (λ e. cc, λ h. inl (λ e. cc))
after_element (alone x may) = (λ e. cc, λ h. inr (may.before_hyphen h))
after_element (span x start y open' le) = (λ e. cc, λ h. inl (λ e. cc))

-- the first element was read
pub goes_on-first : {opening : Text} {q : ListPlace} {t v : Text} {a : Bytes} → Element First t v a q → GoesOn opening t v q a
goes_on-first e = record {
  not_first = (after_element e).0;
  hyphen = (after_element e).1;
  whole = λ u s r. more e r;
  fault = λ kind from f. later e f;
}

-- one more element was read
pub goes_on-next : {opening : Text} {p q : ListPlace} {t v w : Text} {done a : Bytes} → GoesOn opening t v p done → Element p v w a q → GoesOn opening t w q (union done a)
goes_on-next {done = done} {a = a} g e = record {
  not_first = (after_element e).0;
  hyphen = (after_element e).1;
  whole = λ u s r. rest_along (sym (union-assoc done a s)) (g.whole u (union a s) (more e r));
  fault = λ kind from f. g.fault kind from (later e f);
}

-- the bracket that closes the list was read
pub goes_on-last : {opening : Text} {p : ListPlace} {t v w : Text} {done : Bytes} → GoesOn opening t v p done → v ≡ codes "]" ++ w → Rest First t w done
goes_on-last {p} {w = w} {done = done} g e =
    rest_along (union-nothing done) (g.whole w nothing (rw e (closing g.not_first)))

-- anything may be first in a list
pub may_begin : (t : Text) → MayGoOn First t
may_begin t = record { bracket = λ k. refl; hyphen = λ k. inl (λ e. cc) }

-- a point takes at least one byte of the text
point-shortens : {t v : Text} {b : ℕ} → Point t v b → length v < length t
point-shortens (bare b h) = omega arith
point-shortens (symbol b) = omega arith

-- an element takes at least one byte of the text
pub element-shortens : {p q : ListPlace} {t v : Text} {a : Bytes} → Element p t v a q → length v < length t
element-shortens (class {t = t} c) = omega (arith, length-append (class_name c ++ codes ":]") t)
element-shortens (equivalence b) = omega arith
element-shortens (alone x may) = point-shortens x
element-shortens (span x start y open' le) = omega (arith, point-shortens x, point-shortens y)

-- the rest of a list takes at least one byte of the text
rest-shortens : {q : ListPlace} {t u : Text} {s : Bytes} → Rest q t u s → length u < length t
rest-shortens (closing n) = omega arith
rest-shortens (more x r) = omega (arith, element-shortens x, rest-shortens r)

-- a bracket expression takes at least one byte of the text
pub bracket-shortens : {t u : Text} {e : Expression} → IsBracket t u e → length u < length t
bracket-shortens (matching n r) = omega (arith, rest-shortens r)
bracket-shortens (non_matching r) = omega (arith, rest-shortens r)
