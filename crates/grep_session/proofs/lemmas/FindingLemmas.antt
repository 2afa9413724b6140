-- The parts of a line, one more at a time.
use Rattle.{grep_session.proofs.Prelude.{◌≡◌, ℕ, ◌+◌, ◌*◌, ◌≤◌, true, List, [], ◌∷◌, ◌++◌, length, map, refl, sym, ap, ◌∙◌, append_assoc, append-nil, map-append, Text, Expression, IsFound, IsPart, ArePartsFrom, AreParts, Span, Steps, AddsAtMost, Options, search_cost, parting, span_places, subst, if◌then◌else◌}, re_syntax.proofs.lemmas.{PartsLaws.IsPart-unique, PartsExist.AreParts-exist}}

module _ (es : List Expression) (options : Options) (line : Text) where
  -- the parts before a place are known, and these are the parts from there on
  pub record SpansSoFar (from : ℕ) (spans : List Span) : Type 0 where
    pub left : List (ℕ × ℕ)
    pub are_parts : AreParts es line options.line_regexp (map span_places spans ++ left)
    pub are_left : ArePartsFrom es line options.line_regexp from left
    pub on_line : from ≤ length line

  pub spans_none : {spans : List Span} → spans ≡ [] → 0 ≤ length line → SpansSoFar 0 spans
  spans_none none on =
      let all = AreParts-exist es line options.line_regexp in
      record { left = all.0; are_parts = rw none all.1; are_left = all.1; on_line = on }

  -- the next part is the first of those that are left
  next_left : (from i j : ℕ) (left : List (ℕ × ℕ)) → ArePartsFrom es line options.line_regexp from left → IsPart es line options.line_regexp from i j
      → (rest : List (ℕ × ℕ)) × (left ≡ (i, j) ∷ rest) × ArePartsFrom es line options.line_regexp j rest
  next_left from i j [] none p = absurd (none i j p.found)
  next_left from i j ((k, l) ∷ rest) are p =
      let same = IsPart-unique es line options.line_regexp from k l i j are.0 p in
      (rest, (λ n. (same.0 n, same.1 n) ∷ rest), rw same.1 at are.1)

  none_left : {from : ℕ} (left : List (ℕ × ℕ)) → ArePartsFrom es line options.line_regexp from left → ((i j : ℕ) → IsFound es line options.line_regexp from i j → ⊥) → left ≡ []
  none_left [] are none = refl
  none_left ((k, l) ∷ rest) are none = absurd (none k l are.0.found)

  -- one part more is known
  pub spans_next : (from : ℕ) (spans : List Span) (span : Span) → SpansSoFar from spans → IsPart es line options.line_regexp from span.start span.end → SpansSoFar span.end (spans ++ span ∷ [])
  spans_next from spans span s p =
      let next = next_left from span.start span.end s.left s.are_left p in
      let same =
      ap (λ l. map span_places spans ++ l) next.1 ∙ sym (append_assoc (map span_places spans) (span_places span ∷ []) next.0) ∙ ap (λ l. l ++ next.0) (sym (map-append span_places spans (span ∷ []))) in
      record { left = next.0; are_parts = rw same at s.are_parts; are_left = next.2; on_line = p.found.on_line }

  -- all parts are known
  pub spans_done : {from : ℕ} (spans : List Span) → SpansSoFar from spans → ((i j : ℕ) → IsFound es line options.line_regexp from i j → ⊥) → AreParts es line options.line_regexp (map span_places spans)
  spans_done spans s none =
      rw (ap (λ l. map span_places spans ++ l) (none_left _ s.are_left none) ∙ append-nil (map span_places spans)) at s.are_parts

  -- the cost of the search for the parts of a line, where it is asked for
  pub asked_cost : options.only_matching ≡ true → (matchers : ℕ) (begun ended : Steps) → matchers ≡ length es → AddsAtMost (matchers * (length line + 1)) begun ended → AddsAtMost (search_cost (parting es options) line) begun ended
  asked_cost asked matchers begun ended many few = subst (λ n. AddsAtMost (n * (length line + 1)) begun ended) (many ∙ sym (ap (λ b. if b then length es else 0) asked)) few
