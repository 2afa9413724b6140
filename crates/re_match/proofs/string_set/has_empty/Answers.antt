use Rattle.re_match.proofs.Prelude.{◌≡◌, inl, inr, [], length, map, sym, ap, ◌∙◌, arith, get_or-map, eqb-false, cases_lt, text_at}
use Rattle.re_match.proofs.string_set.has_empty.Goals as goal

pub places-preserved : goal.places-preserved
places-preserved c = λ i lt empty.
    elim (cases_lt i c.places.place) [
      | inl early ↦ c.places.invariant i early empty
      | inr at ↦
          let same : c.places.place ≡ i = omega arith in
          let here : text_at (map (λ s. s.now) c.args.strings.now) c.places.place ≡ [] = rw same empty in
          let read =
          get_or-map (λ s. s.now) c.args.strings.now c.places.place (record { ref_ptr = (0, 0); now = [] }) [] c.places-test.true in
          let none = ap length (sym read ∙ here) in eqb-false _ _ (sym c.is_empty.ensures ∙ c.if-is_empty.false) none
    ]
