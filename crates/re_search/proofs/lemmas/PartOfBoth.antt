-- The next part for two lists of expressions together, by the parts for each.
use Rattle.{re_search.proofs.Prelude.{◌≡◌, ℕ, ◌≤◌, ◌⊎◌, inl, inr, Bool, List, ◌++◌, Option, None, Some, refl, arith, Text, Expression, Holds, IsFound, IsPart, FindsPart, Span}, re_syntax.proofs.lemmas.SomeOfJoined.{Any-left, Any-right, Any-append-cases}}

-- the stretch from i to j begins before that from k to l, or with it and ends no earlier
pub record Leads (i j k l : ℕ) : Type 0 where
  pub first : i ≤ k
  pub longer : i ≡ k → l ≤ j

-- what leads a stretch leads what that one leads
leads-through : (i j k l m n : ℕ) → Leads i j k l → Leads k l m n → Leads i j m n
leads-through i j k l m n a b = record {
  first = omega (arith, a.first, b.first);
  longer = λ e. let middle : i ≡ k = omega (arith, a.first, b.first) in let c : l ≤ j = a.longer middle in let d : n ≤ l = b.longer (omega arith) in omega arith;
}

-- a part leads each stretch found
part-leads : (es : List Expression) (line : Text) (whole : Bool) (from i j : ℕ) → IsPart es line whole from i j → (k l : ℕ) → IsFound es line whole from k l → Leads i j k l
part-leads es line whole from i j p k l f = record {
  first = p.earliest k l f;
  longer = λ e. p.longest l (rw (← e) at f);
}

module _ (es fs : List Expression) (line : Text) (whole : Bool) (from : ℕ) where
  -- a stretch found for the first list is found for both
  found-left : (i j : ℕ) → IsFound es line whole from i j → IsFound (es ++ fs) line whole from i j
  found-left i j f = record { begins = f.begins; not_empty = f.not_empty; on_line = f.on_line; is_whole = f.is_whole; holds = Any-left (λ e. Holds line e i j) es fs f.holds }

  -- so is one found for the second
  found-right : (i j : ℕ) → IsFound fs line whole from i j → IsFound (es ++ fs) line whole from i j
  found-right i j f = record { begins = f.begins; not_empty = f.not_empty; on_line = f.on_line; is_whole = f.is_whole; holds = Any-right (λ e. Holds line e i j) es fs f.holds }

  -- a stretch found for both is found for one of them
  found-cases : (i j : ℕ) → IsFound (es ++ fs) line whole from i j → IsFound es line whole from i j ⊎ IsFound fs line whole from i j
  found-cases i j f =
      elim (Any-append-cases (λ e. Holds line e i j) es fs f.holds) [
        | inl h ↦ inl (record { begins = f.begins; not_empty = f.not_empty; on_line = f.on_line; is_whole = f.is_whole; holds = h })
        | inr h ↦ inr (record { begins = f.begins; not_empty = f.not_empty; on_line = f.on_line; is_whole = f.is_whole; holds = h })
      ]

  -- a stretch found for one of them that leads each found for either is the part for both
  part-together : (i j : ℕ) → IsFound (es ++ fs) line whole from i j → ((k l : ℕ) → IsFound es line whole from k l → Leads i j k l) →
      ((k l : ℕ) → IsFound fs line whole from k l → Leads i j k l) → IsPart (es ++ fs) line whole from i j
  part-together i j found a b =
      record { found = found; earliest = λ k l f. (leads k l f).first; longest = λ l f. (leads i l f).longer refl }
    where
      leads : (k l : ℕ) → IsFound (es ++ fs) line whole from k l → Leads i j k l
      leads k l f = elim (found-cases k l f) [ inl h ↦ a k l h | inr h ↦ b k l h ]

  -- where nothing is found for the first list the part for the second is that for both
  pub second_alone : (found : Option Span) → ((i j : ℕ) → IsFound es line whole from i j → ⊥) → FindsPart fs line whole from found → FindsPart (es ++ fs) line whole from found
  second_alone None none others = λ i j f. elim (found-cases i j f) [ inl h ↦ none i j h | inr h ↦ others i j h ]
  second_alone (Some span) none p = part-together span.start span.end (found-right span.start span.end p.found) (λ k l f. absurd (none k l f)) (part-leads fs line whole from span.start span.end p)

  -- and the other way round
  pub first_alone : (i j : ℕ) → IsPart es line whole from i j → ((k l : ℕ) → IsFound fs line whole from k l → ⊥) → IsPart (es ++ fs) line whole from i j
  first_alone i j p none = part-together i j (found-left i j p.found) (part-leads es line whole from i j p) (λ k l f. absurd (none k l f))

  -- of two parts the one that leads the other is the part for both
  pub first_leads : (i j k l : ℕ) → IsPart es line whole from i j → IsPart fs line whole from k l → Leads i j k l → IsPart (es ++ fs) line whole from i j
  first_leads i j k l p q h =
      part-together i j (found-left i j p.found) (part-leads es line whole from i j p) (λ m n f. leads-through i j k l m n h (part-leads fs line whole from k l q m n f))

  pub second_leads : (i j k l : ℕ) → IsPart es line whole from i j → IsPart fs line whole from k l → Leads k l i j → IsPart (es ++ fs) line whole from k l
  second_leads i j k l p q h =
      part-together k l (found-right k l q.found) (λ m n f. leads-through k l i j m n h (part-leads es line whole from i j p m n f)) (part-leads fs line whole from k l q)
