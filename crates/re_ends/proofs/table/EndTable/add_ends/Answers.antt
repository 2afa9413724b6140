use Rattle.{re_ends.proofs.Prelude.{arith, inl, inr, drop, length, ◌≡◌, ◌-◌, ◌∙◌, sym}, std.{specs.Prelude.slice_range, proofs.lemmas.List.{length-drop, length-take}}}
use Rattle.re_ends.proofs.table.EndTable.add_ends.Goals as goal

pub returns-clause-added : goal.returns-clause-added
returns-clause-added c =
    let added = c.go_back.ensures.added in
    let cut = length-take (c.args.window.end - c.args.window.start) (drop c.args.window.start c.args.asked.now.line.now) in
    let rest = length-drop c.args.window.start c.args.asked.now.line.now in
    let long : length (slice_range c.args.asked.now.line.now c.args.window.start c.args.window.end) ≡ c.args.window.end - c.args.window.start = omega (arith, cut, rest, c.begin-from.ensures.at.1.within, c.begin-from.ensures.place) in (
      added.0 ∙ c.requires.room ∙ sym long,
      λ i m lt.
          let said = added.1 i m (omega (arith, lt, long, c.begin-from.ensures.place)) in (
            (λ h. elim (said.0 h) [ inl o ↦ inl o | inr o ↦ inr o.1 ]),
            (λ h. said.1 (elim h [ inl o ↦ inl o | inr o ↦ inr (omega arith, o) ])),
          ),
    )
