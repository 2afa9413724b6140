-- Lists as one list, with the places where each of them begins.
use Rattle.std.specs.{Prelude.{◌≡◌, ℕ, ◌+◌, ◌-◌, List, [], ◌∷◌, length, take, drop}, List.flat_map}

-- the lists one after the other
abbrev pub all_items : {X : Type 0} → List (List X) → List X
all_items lists = flat_map (λ list. list) lists

-- where each of the lists begins, if the first begins at `from`
abbrev pub starts_from : {X : Type 0} → ℕ → List (List X) → List ℕ
starts_from from [] = []
starts_from from (list ∷ lists) = from ∷ starts_from (from + length list) lists

-- the lists that begin at these places; the items are those from the first place on
abbrev pub cut : {X : Type 0} → List ℕ → List X → List (List X)
cut [] items = []
cut (start ∷ []) items = items ∷ []
cut (start ∷ next ∷ starts) items = take (next - start) items ∷ cut (next ∷ starts) (drop (next - start) items)

-- the items are the lists one after the other, which begin at these places
pub record AreLists {X : Type 0} (lists : List (List X)) (items : List X) (starts : List ℕ) : Type 0 where
  pub items_are : items ≡ all_items lists
  pub starts_are : starts ≡ starts_from 0 lists
