-- The parts of a line stay the same when patterns that do not match it go, and others come.
use Rattle.{grep_session.proofs.Prelude.{◌≡◌, ℕ, ◌+◌, ◌-◌, ◌<◌, ◌≤◌, ◌⊎◌, Bool, true, false, List, [], ◌∷◌, ◌++◌, inl, inr, length, Any, get_or, cases_lt, sym, ap, ◌∙◌, arith, length-append, OnTrue, Text, Expression, Holds, Matches, IsFound, ArePartsFrom}, std.proofs.Math.{ListN.get_or-append, Seq.get_or-append_right}}

-- the expression is one of these
abbrev pub In : Expression → List Expression → Type 0
In e es = (k : ℕ) × (k < length es) × (get_or es k e ≡ e)

module _ (e : Expression) (xs ys : List Expression) where
  in_first : In e xs → In e (xs ++ ys)
  in_first at = (at.0, omega (arith, length-append xs ys), get_or-append xs ys e at.0 at.1 ∙ at.2)

  in_rest : In e ys → In e (xs ++ ys)
  in_rest at =
      let place : length xs + at.0 - length xs ≡ at.0 = omega arith in
      (length xs + at.0, omega (arith, length-append xs ys), get_or-append_right xs ys (length xs + at.0) e (omega arith) ∙ ap (λ k. get_or ys k e) place ∙ at.2)

  in_either : In e (xs ++ ys) → In e xs ⊎ In e ys
  in_either at = elim (cases_lt at.0 (length xs)) [
    | inl low ↦ inl (at.0, low, sym (get_or-append xs ys e at.0 low) ∙ at.2)
    | inr high ↦ inr (at.0 - length xs, omega (arith, length-append xs ys), sym (get_or-append_right xs ys at.0 e high) ∙ at.2)
  ]

module _ (line : Text) (entire : Bool) where
  abbrev pub M : Expression → Type 0
  M e = Matches e line entire

  -- an expression that holds on a part that may be found matches the line
  pub found_matches : (e : Expression) (i j : ℕ) → i < j → j ≤ length line → OnTrue entire ((i ≡ 0) × (j ≡ length line)) → Holds line e i j → M e
  found_matches e i j apart on_line is_whole h = by_whole entire is_whole
    where
      by_whole : (w : Bool) → OnTrue w ((i ≡ 0) × (j ≡ length line)) → Matches e line w
      by_whole true both = rw both.0 at (rw both.1 at h)
      by_whole false both = (i, j, on_line, h)

  -- those of the first list that match are in the second
  abbrev pub Among : List Expression → List Expression → Type 0
  Among es fs = (e : Expression) → M e → In e es → In e fs

  found_too : (es fs : List Expression) → Among es fs → (from i j : ℕ) → IsFound es line entire from i j → IsFound fs line entire from i j
  found_too es fs among from i j f =
      let h = f.holds in
      let at = among h.1 (found_matches h.1 i j f.not_empty f.on_line f.is_whole h.4) (h.0, h.2, h.3) in
      record { begins = f.begins; not_empty = f.not_empty; on_line = f.on_line; is_whole = f.is_whole; holds = (at.0, h.1, at.1, at.2, h.4) }

  same_parts : (es fs : List Expression) → Among es fs → Among fs es → (from : ℕ) (ps : List (ℕ × ℕ)) → ArePartsFrom es line entire from ps → ArePartsFrom fs line entire from ps
  same_parts es fs there back from [] none = λ i j found. none i j (found_too fs es back from i j found)
  same_parts es fs there back from ((i, j) ∷ ps) p = (
    record {
      found = found_too es fs there from i j p.0.found;
      earliest = λ k l found. p.0.earliest k l (found_too fs es back from k l found);
      longest = λ l found. p.0.longest l (found_too fs es back from i l found);
    },
    same_parts es fs there back j ps p.1,
  )

  -- expressions that do not match the line are put in the place of others
  pub parts_survive : (front gone come back : List Expression) → (Any M gone → ⊥) → (Any M come → ⊥) → (from : ℕ) (ps : List (ℕ × ℕ)) → ArePartsFrom (front ++ (gone ++ back)) line entire from ps → ArePartsFrom (front ++ (come ++ back)) line entire from ps
  parts_survive front gone come back no_more none = same_parts (front ++ (gone ++ back)) (front ++ (come ++ back)) (others gone come no_more) (others come gone none)
    where
      others : (xs ys : List Expression) → (Any M xs → ⊥) → Among (front ++ (xs ++ back)) (front ++ (ys ++ back))
      others xs ys none e m at = elim (in_either e front (xs ++ back) at) [
        | inl f ↦ in_first e front (ys ++ back) f
        | inr r ↦ in_rest e front (ys ++ back) (elim (in_either e xs back r) [
          | inl x ↦ absurd (none (x.0, e, x.1, x.2, m))
          | inr b ↦ in_rest e ys back b
        ])
      ]
