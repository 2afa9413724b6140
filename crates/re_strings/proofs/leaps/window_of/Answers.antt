use Rattle.re_strings.proofs.Prelude.{◌≡◌, ◌≤◌, inl, inr, [], length, map, ap, subst, arith, get_or-map, cases_lt, text_at}
use Rattle.re_strings.proofs.leaps.window_of.Goals as goal

pub strings-preserved : goal.strings-preserved
strings-preserved c =
    let few = c.strings.invariant.few in
    let least = c.min-window.ensures in
    record {
      few = omega arith;
      long = λ i lt.
          elim (cases_lt i c.strings.place) [
            | inl early ↦ let long = c.strings.invariant.long i early in omega arith
            | inr late ↦
                let at : c.strings.place ≡ i = omega arith in
                let read =
                get_or-map (λ s. s.now) c.args.strings.now c.strings.place (record { ref_ptr = (0, 0); now = [] }) [] c.strings-test.true in
                let size = ap length read in
                subst (λ n. c.min-window.result ≤ length (text_at (map (λ s. s.now) c.args.strings.now) n)) at (omega arith)
          ];
    }
