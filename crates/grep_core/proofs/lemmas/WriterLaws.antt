-- What a writer was given, piece by piece.
use Rattle.grep_core.proofs.Prelude.{◌≡◌, List, [], ◌++◌, refl, sym, ap, ◌∙◌, append_assoc, flat_map-append, Appends-nil, Appends-trans, Text, written, Writer, TakesAll, TakesFront, TakesPast}

-- the bytes of some lines and of others after them
pub written-append : (margin : Text) (xs ys : List Text) → written margin (xs ++ ys) ≡ written margin xs ++ written margin ys
written-append _ xs ys = flat_map-append _ xs ys

-- no line was written
pub TakesAll-nothing : (w : Writer) → TakesAll w w []
TakesAll-nothing w = record { written_all = Appends-nil w.contents; none_failed = refl }

-- some lines were written, and then others
pub TakesAll-more : (a b c : Writer) (xs ys : List Text) → TakesAll a b xs → TakesAll b c ys → TakesAll a c (xs ++ ys)
TakesAll-more a b c xs ys h k = record {
  written_all = rw (written-append [] xs ys) (Appends-trans a.contents b.contents c.contents (written [] xs) (written [] ys) h.written_all k.written_all);
  none_failed = k.none_failed ∙ h.none_failed;
}

-- all lines are a beginning of them and others
pub TakesFront-all : {a b : Writer} {xs : List Text} (ys : List Text) → TakesAll a b xs → TakesFront a b (xs ++ ys)
TakesFront-all {xs = xs} ys h = record { front = written [] xs; rest = written [] ys; cut = written-append [] xs ys; written_front = h.written_all }

-- some lines were written, and then a beginning of others
pub TakesFront-more : {a b c : Writer} {xs ys : List Text} → TakesAll a b xs → TakesFront b c ys → TakesFront a c (xs ++ ys)
TakesFront-more {a} {b} {c} {xs} {ys} h k = record {
  front = written [] xs ++ k.front;
  rest = k.rest;
  cut = written-append [] xs ys ∙ ap (λ t. written [] xs ++ t) k.cut ∙ sym (append_assoc (written [] xs) k.front k.rest);
  written_front = Appends-trans a.contents b.contents c.contents (written [] xs) k.front h.written_all k.written_front;
}

-- a beginning of some lines is one of them and others
pub TakesFront-longer : {a b : Writer} {xs : List Text} (ys : List Text) → TakesFront a b xs → TakesFront a b (xs ++ ys)
TakesFront-longer {xs = xs} ys h = record {
  front = h.front;
  rest = h.rest ++ written [] ys;
  cut = written-append [] xs ys ∙ ap (λ t. t ++ written [] ys) h.cut ∙ append_assoc h.front h.rest (written [] ys);
  written_front = h.written_front;
}

-- the first lines were written, and a beginning of those after them
pub TakesPast-more : {a b : Writer} (c : Writer) {first : List Text} (xs : List Text) → TakesAll a b first → TakesFront b c xs → TakesPast a c first (first ++ xs)
TakesPast-more {a} {b} c {first} xs h k = record {
  front = k.front;
  rest = k.rest;
  cut = written-append [] first xs ∙ ap (λ t. written [] first ++ t) k.cut ∙ sym (append_assoc (written [] first) k.front k.rest);
  written_past = Appends-trans a.contents b.contents c.contents (written [] first) k.front h.written_all k.written_front;
}

-- nothing was written after the first lines
pub TakesPast-all : {a b : Writer} {first : List Text} (xs : List Text) → TakesAll a b first → TakesPast a b first (first ++ xs)
TakesPast-all {b = b} xs h = TakesPast-more b xs h (record { front = []; rest = written [] xs; cut = refl; written_front = Appends-nil b.contents })
