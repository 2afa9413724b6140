use Rattle.re_search.proofs.{Prelude.{◌≡◌, ◌∙◌, false, inr, arith, ap, subst, sym, AreAllEnds, sought_of, LineEnds, Window, with_items_is, length}, lemmas.LinePartsLaws.all_known}
use Rattle.re_search.proofs.line_parts.LineParts.look_over.Goals as goal

pub returns-clause-right : goal.returns-clause-right
returns-clause-right c = λ from.
    let opened = c.self.view_is ∙ c.open.ensures in
    let seen : c.self.inside.seen ≡ length c.args.line.now = omega (arith, ap (λ (p : LineEnds). p.seen) opened, ap (λ (w : Window). w.end) c.rest_of.ensures) in
    let items = with_items_is c.self.inside.ends c.put_ends.new.ends (c.put_ends.ensures.room ∙ c.deref_mut.ensures.len) in
    let are = subst (AreAllEnds (sought_of false c.args.matchers.now) c.args.line.now) (sym items) c.put_ends.ensures.right in
    record {
      on_line = omega (arith, seen);
      at_once = inr (inr seen);
      are_ends = λ i m ge lt. all_known _ _ from _ _ (ap (λ (p : LineEnds). p.first) opened ∙ ap (λ (w : Window). w.start) c.rest_of.ensures) are i m ge (omega (arith, lt, seen));
    }
