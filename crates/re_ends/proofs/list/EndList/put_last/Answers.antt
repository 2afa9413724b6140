use Rattle.{re_ends.proofs.{Prelude.{arith, ap, length, take, drop, refl, ◌≡◌, ◌+◌, ◌<◌, ◌∙◌, ◌∷◌, ◌++◌, [], with_items_is}, list.EndList.put_last.Goals.{then-self-len, else-self-len}}, std.proofs.lemmas.List.{drop-set-add, length-drop, length-take, take_more_set}}
use Rattle.re_ends.proofs.list.EndList.put_last.Goals as goal

pub returns-clause-last : goal.returns-clause-last
returns-clause-last c =
    let s = c.if-self-len.self-inside in
    let old = c.self.inside in
    let long = length-take old.count (drop old.base old.buffer.items) in
    let held : (s.base + s.count < length s.buffer.items) × (take s.count (drop s.base s.buffer.items) ≡ take old.count (drop old.base old.buffer.items)) = elim c.if-self-len.branch [
      | then-self-len w ↦
          let items = with_items_is old.buffer w.move_back.new.buffer (w.move_back.ensures.len ∙ w.deref_mut.ensures.len) in
          rw (w.self-inside-is, items) (omega (arith, w.move_back.ensures.len, ap length w.deref_mut.ensures.value, c.requires, ap (λ e. length e.ends) c.self.view_is, ap (λ e. e.most) c.self.view_is, long, length-drop old.base old.buffer.items, c.self.invariant), w.move_back.ensures.moved ∙ ap (λ l. take old.count (drop old.base l)) w.deref_mut.ensures.value)
      | else-self-len w ↦ rw w.self-inside-is (omega (arith, w.if-self-len.false, c.self.invariant, c.len.ensures, old.buffer.ok), refl)
    ] in
    ap (take (s.count + 1)) (drop-set-add s.base s.buffer.items s.count c.args.place) ∙ take_more_set (drop s.base s.buffer.items) s.count c.args.place (omega (arith, length-drop s.base s.buffer.items, held.0)) ∙ ap (λ l. l ++ c.args.place ∷ []) (held.1 ∙ ap (λ e. e.ends) c.self.view_is)
