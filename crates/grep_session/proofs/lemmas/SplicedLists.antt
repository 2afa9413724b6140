-- Lists of which some elements went, and others came in their place.
use Rattle.grep_session.proofs.Prelude.{◌≡◌, ℕ, suc, ◌+◌, ◌<◌, ◌≤◌, ◌⊎◌, Bool, true, List, [], ◌∷◌, ◌++◌, inl, inr, length, map, take, drop, get_or, refl, sym, ap, ◌∙◌, arith, append-nil, map-append, length-map, length-drop, length-take-le, take-append_seam, drop-append_seam, take-append-drop, drop-cons, set_at, remove, set, insert, Text, Expression, Options, Matched, HasChanged, exchanged}

-- some elements of a list went, and others came in their place
pub record IsSpliced {X : Type 0} (first many count : ℕ) (old new : List X) : Type 0 where
  pub front : List X
  pub gone : List X
  pub come : List X
  pub back : List X
  pub old_is : old ≡ front ++ (gone ++ back)
  pub new_is : new ≡ front ++ (come ++ back)
  pub at : first ≡ length front
  pub went : many ≡ length gone
  pub came : count ≡ length come

module _ {X : Type 0} where
  -- elements were added
  abbrev pub added : (first count : ℕ) (xs ys all : List X) → first ≡ length xs → count ≡ length ys → all ≡ xs ++ ys → IsSpliced first 0 count xs all
  added first count xs ys all at many is = record { front = xs; gone = []; come = ys; back = []; old_is = sym (append-nil xs); new_is = cc (append-nil ys); at = at; went = refl; came = many }

  -- or cut off
  abbrev pub cut_off : (first count : ℕ) (xs ys : List X) → first + count ≡ length xs → ys ≡ take first xs → IsSpliced first count 0 xs ys
  cut_off first count xs ys many is = record {
    front = take first xs;
    gone = drop first xs;
    come = [];
    back = [];
    old_is = cc (take-append-drop first xs, append-nil (drop first xs));
    new_is = is ∙ sym (append-nil (take first xs));
    at = sym (length-take-le first xs (omega arith));
    went = omega (arith, length-drop first xs);
    came = refl;
  }

  module _ (p : ℕ) (xs : List X) (one : X) (h : p < length xs) (is : one ≡ get_or xs p one) where
    pub parts : xs ≡ take p xs ++ (one ∷ drop (suc p) xs)
    parts = cc (take-append-drop p xs, drop-cons xs p one h ∙ ap (λ y. y ∷ drop (suc p) xs) (sym is))

    pub place : length (take p xs) ≡ p
    place = length-take-le p xs (omega arith)

    -- or removed
    abbrev pub removed : (ys : List X) → ys ≡ remove xs p → IsSpliced p 1 0 xs ys
    removed ys left = record { front = take p xs; gone = one ∷ []; come = []; back = drop (suc p) xs; old_is = parts; new_is = left; at = sym place; went = refl; came = refl }

    -- or replaced
    abbrev pub replaced : (ys : List X) (other : X) → ys ≡ set xs p other → IsSpliced p 1 1 xs ys
    replaced ys other put = record {
      front = take p xs;
      gone = one ∷ [];
      come = other ∷ [];
      back = drop (suc p) xs;
      old_is = parts;
      new_is = put ∙ ap (λ l. set l p other) parts ∙ set_at (take p xs) one (drop (suc p) xs) other p place;
      at = sym place;
      went = refl;
      came = refl;
    }

  -- or put back
  abbrev pub inserted : (p : ℕ) (xs ys : List X) (one : X) → p ≤ length xs → ys ≡ insert xs p one → IsSpliced p 0 1 xs ys
  inserted p xs ys one h put = record { front = take p xs; gone = []; come = one ∷ []; back = drop p xs; old_is = sym (take-append-drop p xs); new_is = put; at = sym (length-take-le p xs h); went = refl; came = refl }

  -- two lists that are the same are so part by part
  pub same_parts : (xs ys us vs : List X) → xs ++ ys ≡ us ++ vs → length xs ≡ length us → (xs ≡ us) × (ys ≡ vs)
  same_parts xs ys us vs same many = (
    sym (take-append_seam xs ys) ∙ (λ i. take (many i) (same i)) ∙ take-append_seam us vs,
    sym (drop-append_seam xs ys) ∙ (λ i. drop (many i) (same i)) ∙ drop-append_seam us vs,
  )

-- f of a list in parts
pub map_parts : {X Y : Type 0} (f : X → Y) (xs front mid back : List X) → xs ≡ front ++ (mid ++ back) → map f xs ≡ map f front ++ (map f mid ++ map f back)
map_parts f xs front mid back is = cc (map-append f front (mid ++ back), map-append f mid back)

-- f of both lists
abbrev pub mapped : {X Y : Type 0} (f : X → Y) {first many count : ℕ} {xs ys : List X} → IsSpliced first many count xs ys → IsSpliced first many count (map f xs) (map f ys)
mapped f {xs = xs} {ys} m = record {
  front = map f m.front;
  gone = map f m.gone;
  come = map f m.come;
  back = map f m.back;
  old_is = map_parts f xs m.front m.gone m.back m.old_is;
  new_is = map_parts f ys m.front m.come m.back m.new_is;
  at = m.at ∙ sym (length-map m.front f);
  went = m.went ∙ sym (length-map m.gone f);
  came = m.came ∙ sym (length-map m.come f);
}

-- what was before, where the lists are of expressions
abbrev pub list_changed : {first many count : ℕ} {before es : List Expression} (m : IsSpliced first many count before es) (options : Options) (narrower : Bool) → (count ≤ many) ⊎ (m.back ≡ []) → (narrower ≡ true → (line : Text) → Matched m.come options line → Matched m.gone options line)
    → HasChanged (exchanged first many count narrower) es options
list_changed {before = before} m options narrower fits narrows = record {
  front = m.front;
  gone = m.gone;
  come = m.come;
  back = m.back;
  before = before;
  was = options;
  old = m.old_is;
  new = m.new_is;
  at = m.at;
  went = m.went;
  came = m.came;
  fits = elim fits [ inl fewer ↦ inl (omega arith) | inr none ↦ inr none ];
  alike = inl refl;
  same = λ some. refl;
  narrows = λ on. (refl, narrows on);
}
