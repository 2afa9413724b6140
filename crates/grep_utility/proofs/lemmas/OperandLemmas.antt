-- The sources that words name, opened in order.
use Rattle.grep_utility.proofs.Prelude.{◌≡◌, ℕ, zero, suc, ◌+◌, ◌<◌, List, [], ◌∷◌, length, drop, get_or, refl, sym, ap, ◌∙◌, arith, add-one, drop-cons, Text, source_at, Folder, display_name, source_named, after_use, sources_named, StandsAt}

-- the number of sources is that of the words
pub length-sources_named : (folder : Folder) (words : List Text) → length (sources_named folder words) ≡ length words
length-sources_named folder [] = refl
length-sources_named folder (word ∷ words) = rw (length-sources_named (after_use folder word) words)

-- the name of a source is that of its word
pub name-sources_named : (folder : Folder) (words : List Text) (k : ℕ) → k < length words → (source_at (sources_named folder words) k).name ≡ display_name (get_or words k [])
name-sources_named folder [] k h = absurd (omega arith)
name-sources_named folder (word ∷ words) zero h = refl
name-sources_named folder (word ∷ words) (suc k) h = name-sources_named (after_use folder word) words k (omega arith)

-- the next word names the source at its place; after its use the word after it is the next
pub StandsAt-next : (start now : Folder) (words : List Text) (k : ℕ) → k < length words → StandsAt start now words k
    → (source_at (sources_named start words) k ≡ source_named now (get_or words k [])) × StandsAt start (after_use now (get_or words k [])) words (k + 1)
StandsAt-next start now words k h s =
    let word = get_or words k [] in
    let sources = sources_named start words in
    let cut : source_at sources k ∷ drop (suc k) sources ≡ source_named now word ∷ sources_named (after_use now word) (drop (suc k) words) =
    sym (drop-cons sources k _ (omega (arith, length-sources_named start words))) ∙ sym s ∙ ap (sources_named now) (drop-cons words k [] h) in
    let first : source_at sources k ≡ source_named now word = cc in
    let rest : drop (suc k) sources ≡ sources_named (after_use now word) (drop (suc k) words) = cc in
    (first, rw (add-one k) (sym rest))
