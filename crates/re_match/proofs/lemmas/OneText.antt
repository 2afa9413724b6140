-- What is matched of a line by one text, by where a search for the text finds it.
use Rattle.{re_match.proofs.Prelude.{◌≡◌, ℕ, ◌+◌, ◌-◌, ◌<◌, ◌≤◌, true, false, IsTrue, [], ◌∷◌, ◌++◌, length, map, drop, Option, None, Some, ◌↔◌, refl, sym, ap, ◌∙◌, arith, zero-add, length-append, length-drop, is_some, bytes_eq, Text, byte, sequence, Holds, Matches, IsFound, IsPart, OccursAt, FindsNeedle, false≢true, bytes_eq-Decides, dec_le, drop-length, drop-drop, append-nil}, re_trees.proofs.lemmas.{Decisions.Any-first, SomeOfJoined.Any-single, FixedStrings.{stands-holds, holds-stands, stands-matches, matches-stands}}, re_runs.proofs.lemmas.Occurrences.{occurs-stands, stands-occurs}}

-- the place after a text at a place
place_after : (line text : Text) (i j : ℕ) → i < j → j ≤ length line → drop i line ≡ text ++ drop j line → j ≡ i + length text
place_after line text i j h on_line e =
    let lengths : length (drop i line) ≡ length text + length (drop j line) = cc (length-append text (drop j line)) in
    omega (arith, length-drop i line, length-drop j line)

module _ (text line : Text) where
  -- a stretch found from a place on is an occurrence in what is left from there
  found-occurs : {from i j : ℕ} → IsFound (sequence (map byte text) ∷ []) line false from i j → OccursAt (drop from line) text (i - from) × (j ≡ i + length text)
  found-occurs {from} {i} {j} f =
      let stands = holds-stands line text i j (Any-single (λ e. Holds line e i j) _ f.holds) in
      let same_place : from + (i - from) ≡ i = omega arith in
      let left : drop (i - from) (drop from line) ≡ text ++ drop j line = cc (drop-drop (i - from) from line, stands) in
      (stands-occurs (drop from line) text (drop j line) (i - from) (omega (arith, length-drop from line)) left, place_after _ _ i j f.not_empty f.on_line stands)

  -- an occurrence of a text that is not empty, in what is left from a place on, is a stretch found
  occurs-found : (from k : ℕ) → 0 < length text → OccursAt (drop from line) text k → IsFound (sequence (map byte text) ∷ []) line false from (from + k) (from + k + length text)
  occurs-found from k h o =
      let stands = sym (drop-drop k from line) ∙ occurs-stands (drop from line) text k o in
      let holds = stands-holds line text (from + k) _ stands in
      record { begins = omega arith; not_empty = omega arith; on_line = omega (arith, length-drop from line); is_whole = tt; holds = Any-first (λ e. Holds line e (from + k) (from + k + length text)) _ [] holds }

  -- where a search from a place on finds no occurrence of the text, there is no part
  pub no_part : (from : ℕ) → FindsNeedle (drop from line) text 0 None → (i j : ℕ) → IsFound (sequence (map byte text) ∷ []) line false from i j → ⊥
  no_part from none i j f =
      let o = found-occurs f in none (i - from) (omega arith) (omega (arith, o.0.fits)) o.0

  -- the first occurrence from a place on of a text that is not empty is the part
  pub first_part : (from k : ℕ) → 0 < length text → FindsNeedle (drop from line) text 0 (Some k) → IsPart (sequence (map byte text) ∷ []) line false from (from + k) (from + k + length text)
  first_part from k h finds =
      record {
        found = occurs-found from k h finds.1;
        earliest = λ i j f. elim (dec_le k (i - from)) [
          | yes e ↦ omega arith
          | no e ↦ absurd (finds.0.before (i - from) (omega arith) (omega arith) (found-occurs f).0)
        ];
        longest = λ j f. let o = found-occurs f in omega arith;
      }

  -- the occurrences of a text that is not empty are the stretches found
  pub past_found : 0 < length text → (start i m : ℕ) → i < length line → ((m < start + (i + length text)) × OccursAt line text i) ↔ ((j : ℕ) × (m < start + j) × IsFound (sequence (map byte text) ∷ []) line false 0 i j)
  past_found some start i m lt = (
    λ (past, o). (let same : 0 + i ≡ i = omega arith in (i + length text, past, rw same at (occurs-found 0 i some o))),
    λ (j, past, f). (let same : i - 0 ≡ i = omega arith in let o = found-occurs f in (omega arith, rw same at o.0)),
  )

  -- a text matches the line where a search for it finds it
  pub finds-decides : (r : Option ℕ) → FindsNeedle line text 0 r → IsTrue (is_some r) ↔ Matches (sequence (map byte text)) line false
  finds-decides None none = (
    λ h. absurd (false≢true h),
    λ m. let (k, near, rest, stands) = matches-stands line text m in absurd (none k (omega arith) (omega arith) (stands-occurs line text rest k near stands)),
  )
  finds-decides (Some k) finds = (λ _. stands-matches line text k _ (omega arith) (occurs-stands line text k finds.1), λ _. refl)

  -- it matches the line as a whole where it is the line
  pub equals-decides : IsTrue (bytes_eq line text) ↔ Matches (sequence (map byte text)) line true
  equals-decides =
      let same = bytes_eq-Decides line text in (
        λ h.
            let end : 0 + length text ≡ length line = zero-add (length text) ∙ sym (rw (same.0 h)) in
            rw end at (stands-holds line text 0 [] (same.0 h ∙ sym (append-nil text))),
        λ m. same.1 (cc (holds-stands line text 0 (length line) m, drop-length line, append-nil text)),
      )
