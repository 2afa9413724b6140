-- A pattern is removed, and the numbers of those that match a line stay right.
use Rattle.{grep_session.proofs.{Prelude.{inl, get_or, get_or_default, false≢true, Option, Some, IfSome, ◌≡◌, ℕ, zero, suc, ◌<◌, All, false, List, [], ◌∷◌, length, map, take, drop, refl, sym, ap, ◌∙◌, arith, set, option_map, AllWithin, AllZip, remove, whole, Options, KeptLine, all_of, line_text, line_without, Text, Expression, IsKept, file_with, All-append, All-take, All-drop, All-map, All-weaker, get_or-set_other, map-append}, lemmas.{ChangeLemmas.numbers_right, NumberLemmas.adds_none_matching, SplicedLists.{list_changed, removed}}}, re_syntax.specs.Expression.empty}

-- ---- lines and files without an expression

-- the lines of chunks, each of which is changed alone
all_of-map : (f : KeptLine → KeptLine) (chunks : List (List KeptLine)) → all_of (map (map f) chunks) ≡ map f (all_of chunks)
all_of-map f [] = refl
all_of-map f (lines ∷ chunks) = cc (all_of-map f chunks, map-append f lines (all_of chunks))

texts_stay : (p : ℕ) (lines : List KeptLine) → map line_text (map (line_without p) lines) ≡ map line_text lines
texts_stay p [] = refl
texts_stay p (line ∷ lines) = rw (texts_stay p lines)

-- the file has the same lines
pub file_dropped : (p : ℕ) (name : Text) (lines : Option (List (List KeptLine))) {new : List (List KeptLine)} (old : List (List KeptLine)) → lines ≡ Some old → new ≡ map (map (line_without p)) old → file_with name (Some (all_of new)) ≡ file_with name (option_map all_of lines)
file_dropped p name lines old is drops =
    let same = ap all_of drops ∙ all_of-map (line_without p) old in
    ap (λ texts. record { name = name; lines = texts; ending = whole }) (cc (texts_stay p _)) ∙ ap (λ l. file_with name (option_map all_of l)) (sym is)

module _ (es : List Expression) (options : Options) (p : ℕ) (h : p < length es) (no_parts : options.only_matching ≡ false) where
  abbrev one : Expression
  one = get_or es p empty

  -- what is kept of a line
  dropped_line : (line : KeptLine) → IsKept es options line → IsKept (remove es p) options (line_without p line)
  dropped_line line k =
      record {
        matching = numbers_right (list_changed (removed p es one h (get_or_default es p empty one h) (remove es p) refl) options false (inl (omega arith)) (λ on. absurd (false≢true on))) line k _ (adds_none_matching _ _ p _);
        parts = rw no_parts tt;
      }

  -- what is kept of the lines of chunks
  pub kept_dropped : (lines : Option (List (List KeptLine))) (old new : List (List KeptLine)) → lines ≡ Some old → new ≡ map (map (line_without p)) old → IfSome (option_map all_of lines) (All (IsKept es options)) → All (IsKept (remove es p) options) (all_of new)
  kept_dropped lines old new is drops kept =
      let before = rw is at kept in
      let each = All-weaker (IsKept es options) (λ line. IsKept (remove es p) options (line_without p line)) dropped_line (all_of old) before in
      rw (ap all_of drops ∙ all_of-map (line_without p) old) (All-map (IsKept (remove es p) options) (line_without p) (all_of old) each)

-- one element was replaced by another: what holds of those after it still does
pub after_set : {X : Type 0} (P : X → Type 0) (xs : List X) {n : ℕ} (i : ℕ) (x : X) → AllWithin P xs i n → AllWithin P (set xs i x) (suc i) n
after_set P xs i x h = λ k d low high. rw (get_or-set_other xs i k x d (λ e. omega arith)) (h k d (omega arith) high)

-- ---- patterns

pub All-remove : {X : Type 0} (P : X → Type 0) (xs : List X) (k : ℕ) → All P xs → All P (remove xs k)
All-remove P xs k h = All-append P (take k xs) (drop (suc k) xs) (All-take P k xs h) (All-drop P (suc k) xs h)

pub AllZip-remove : {X Y : Type 0} (P : X → Y → Type 0) (xs : List X) (ys : List Y) (k : ℕ) → AllZip P xs ys → AllZip P (remove xs k) (remove ys k)
AllZip-remove P [] [] zero h = tt
AllZip-remove P [] [] (suc k) h = tt
AllZip-remove P [] (y ∷ ys) k h = absurd h
AllZip-remove P (x ∷ xs) [] k h = absurd h
AllZip-remove P (x ∷ xs) (y ∷ ys) zero h = h.1
AllZip-remove P (x ∷ xs) (y ∷ ys) (suc k) h = (h.0, AllZip-remove P xs ys k h.1)
