-- Lines with their newlines, and what is found in them.
use Rattle.{line_chunks.proofs.{Prelude.{◌≡◌, ℕ, ◌+◌, ◌<◌, ◌≤◌, List, [], ◌∷◌, ◌++◌, All, length, map, take, drop, get_or, refl, ap, arith, length-append, append_assoc, take_at, take-append-le, take_all, drop_all, append-nil, take-map, drop-map, map-append, All-head, All-map, All-tail, All-take, All-drop, All-append, Text, newline, terminated, HasNoNewline, FoundIn, KeptLine, line_text, seen, all_items, bare, IsEnded}, lemmas.SeenLaws.texts_are}, line_finds.proofs.lemmas.PieceLemmas.{drop-items, begins_in_order, one_longer}}

pub bare_line : (line : Text) → bare (line ++ newline ∷ []) ≡ line
bare_line line = take_at line (newline ∷ []) _ (omega (arith, length-append line (newline ∷ [])))

whole : (lines : List Text) → All IsEnded lines → all_items lines ≡ terminated (map bare lines)
whole [] all = refl
whole (x ∷ xs) all =
    let ended = All-head IsEnded x xs all in
    cc (ended.1, append_assoc (bare x) (newline ∷ []) (all_items xs), whole xs (All-tail IsEnded x xs all))

free_lines : (lines : List Text) → All IsEnded lines → All HasNoNewline (map bare lines)
free_lines lines all = All-map HasNoNewline bare lines (λ i d h. (all i d h).0)

module _ (lines : List Text) (found : FoundIn) {kept : List KeptLine} (view : seen (map bare lines) found ≡ kept)
    (all : All IsEnded lines) where
  pub text_is : all_items lines ≡ terminated (map line_text kept)
  text_is = cc (whole lines all, texts_are lines found view)

  pub begins_at : (k : ℕ) → length (all_items (take k lines)) ≡ length (terminated (take k (map line_text kept)))
  begins_at k = cc (whole (take k lines) (All-take IsEnded k lines all), take-map bare k lines, texts_are lines found view)

  pub free : All HasNoNewline (map line_text kept)
  free = rw (texts_are lines found view) at (free_lines lines all)

  -- the lines from line `k` on
  pub rest_is : (k : ℕ) → drop (length (all_items (take k lines))) (all_items lines) ≡ terminated (drop k (map line_text kept))
  rest_is k = cc (drop-items lines k, whole (drop k lines) (All-drop IsEnded k lines all), drop-map bare k lines, texts_are lines found view)

-- a line has its newline
pub has_byte : (lines : List Text) (k : ℕ) → All IsEnded lines → k < length lines → 1 ≤ length (get_or lines k [])
has_byte lines k all h = omega (arith, ap length (all k [] h).1, length-append (bare (get_or lines k [])) (newline ∷ []))

-- ---- lines added and removed

pub bare_more : {new : List Text} (lines : List Text) (line : Text) → new ≡ lines ++ (line ++ newline ∷ []) ∷ [] → map bare new ≡ map bare lines ++ line ∷ []
bare_more lines line is = cc (map-append bare lines ((line ++ newline ∷ []) ∷ []), bare_line line)

pub ended_part : {new : List Text} (lines others : List Text) (from n : ℕ) → new ≡ lines ++ take n (drop from others) → All IsEnded lines → All IsEnded others → All IsEnded new
ended_part lines others from n is all more = rw is (All-append IsEnded lines _ all (All-take IsEnded n _ (All-drop IsEnded from others more)))

pub bare_part : {new : List Text} (lines others : List Text) (from n : ℕ) → new ≡ lines ++ take n (drop from others) → map bare new ≡ map bare lines ++ take n (drop from (map bare others))
bare_part lines others from n is = cc (map-append bare lines (take n (drop from others)), take-map bare n (drop from others), drop-map bare from others)

pub ended_without : {new : List Text} (lines : List Text) (from to : ℕ) → new ≡ take from lines ++ drop to lines → All IsEnded lines → All IsEnded new
ended_without lines from to is all = rw is (All-append IsEnded _ _ (All-take IsEnded from lines all) (All-drop IsEnded to lines all))

pub bare_without : {new : List Text} (lines : List Text) (from to : ℕ) → new ≡ take from lines ++ drop to lines → map bare new ≡ take from (map bare lines) ++ drop to (map bare lines)
bare_without lines from to is = cc (map-append bare (take from lines) (drop to lines), take-map bare from lines, drop-map bare to lines)

-- what was added is removed again
pub undone : {X : Type 0} {new : List X} (lines longer more : List X) {before after : ℕ} → before ≡ length lines → longer ≡ lines ++ more → after ≡ length longer → new ≡ take before longer ++ drop after longer → new ≡ lines
undone lines longer more {before} {after} first is last back = cc (drop_all after longer (omega arith), append-nil (take before longer), take-append-le before lines more (omega arith), take_all before lines (omega arith))

-- ---- the line that begins at a place

pub not_yet : (lines : List Text) (number k place : ℕ) → length (all_items (take number lines)) < place → place ≡ length (all_items (take k lines)) → number + 1 ≤ k
not_yet lines number k place more at = grind (arith, begins_in_order lines k number)

pub here_now : (lines : List Text) (number k place : ℕ) → All IsEnded lines → number < length lines → number ≤ k → place ≤ length (all_items (take number lines)) → place ≡ length (all_items (take k lines)) → number ≡ k
here_now lines number k place all inside le less at = grind (arith, begins_in_order lines (number + 1) k, one_longer lines number inside, has_byte lines number all inside)
