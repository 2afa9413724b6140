use Rattle.re_search.proofs.{Prelude.{◌∙◌, ◌+◌, ◌-◌, ◌<◌, ◌↔◌, false, [], ◌∷◌, ap, subst, sym, FoundPast, LineEnds, with_items_is, length, slice_index, matched_expression}, lemmas.LinePartsLaws.zeros_added}
use Rattle.re_search.proofs.line_parts.LineParts.look_at.Goals as goal

pub returns-clause-right : goal.returns-clause-right
returns-clause-right c =
    let opened = c.self.view_is ∙ c.open.ensures in
    let zeros = c.deref_mut.ensures.value ∙ ap (λ (p : LineEnds). p.ends) opened in
    let added = zeros_added _ _ _ (c.args.window.end - c.args.window.start) zeros c.add_ends.ensures.added in
    let items = with_items_is c.self.inside.ends c.add_ends.new.ends (c.add_ends.ensures.added.0 ∙ c.deref_mut.ensures.len) in
    record {
      first = ap (λ (p : LineEnds). p.first) opened;
      long = ap length items ∙ added.0;
      are_ends = λ i m lt.
          subst (λ l. (m < slice_index l i) ↔ FoundPast (matched_expression c.args.matcher.now ∷ []) c.args.line.now false (c.args.window.start + i) m) (sym items) (added.1 i m lt);
    }
