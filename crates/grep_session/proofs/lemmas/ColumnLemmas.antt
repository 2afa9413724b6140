-- What is found in all lines, one line or one file more at a time.
use Rattle.grep_session.proofs.Prelude.{All, take-append-drop, ◌≡◌, ℕ, suc, ◌+◌, ◌<◌, List, [], ◌∷◌, ◌++◌, length, map, take, drop, get_or, sym, ap, ◌∙◌, append_assoc, append-nil, add-one, drop-cons, take-suc, map-append, flat_map-append, File, lines_of_files}

module _ {X Y : Type 0} (f : X → Y) (xs : List X) (i : ℕ) (x : X) (h : i < length xs) (is : x ≡ get_or xs i x) where
  -- the first elements and one more
  pub map_next : map f (take (i + 1) xs) ≡ map f (take i xs) ++ f x ∷ []
  map_next = cc (add-one i, take-suc xs i x h, map-append f (take i xs) (get_or xs i x ∷ []))

  -- the first, the next, and the rest
  pub map_with_parts : map f (take i xs) ++ (f x ∷ map f (drop (suc i) xs)) ≡ map f xs
  map_with_parts =
      ap (λ y. map f (take i xs) ++ (f y ∷ map f (drop (suc i) xs))) is ∙ sym (map-append f (take i xs) (get_or xs i x ∷ drop (suc i) xs)) ∙ ap (λ l. map f (take i xs ++ l)) (sym (drop-cons xs i x h)) ∙ ap (map f) (take-append-drop i xs)

-- what holds of all holds of the next
pub kept_at : {X : Type 0} (P : X → Type 0) (xs : List X) (i : ℕ) (x : X) → i < length xs → x ≡ get_or xs i x → All P xs → P x
kept_at P xs i x within is all = rw is (all i x within)

-- ---- files

module _ {X : Type 0} (f : X → File) (xs : List X) (i : ℕ) (x : X) (h : i < length xs) (is : x ≡ get_or xs i x) where
  -- the lines of the first files and of one more
  pub files_next : lines_of_files (map f (take (i + 1) xs)) ≡ lines_of_files (map f (take i xs)) ++ (f x).lines
  files_next = cc (map_next f xs i x h is, flat_map-append (λ (file : File). file.lines) (map f (take i xs)) (f x ∷ []), append-nil (f x).lines)

  -- the lines of the first files, of the next, and of the rest
  pub files_with_parts : (lines_of_files (map f (take i xs)) ++ (f x).lines) ++ lines_of_files (map f (drop (suc i) xs)) ≡ lines_of_files (map f xs)
  files_with_parts =
      append_assoc (lines_of_files (map f (take i xs))) (f x).lines (lines_of_files (map f (drop (suc i) xs)))
      ∙ sym (flat_map-append (λ (file : File). file.lines) (map f (take i xs)) (f x ∷ map f (drop (suc i) xs))) ∙ ap lines_of_files (map_with_parts f xs i x h is)
