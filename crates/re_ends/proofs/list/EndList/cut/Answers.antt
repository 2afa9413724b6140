use Rattle.{re_ends.proofs.Prelude.{arith, ap, sym, length, length-append, take, drop, ◌≡◌, ◌+◌, ◌-◌, ◌∙◌, ◌++◌, ◌∷◌, []}, std.proofs.lemmas.{List.{drop-drop, drop-take, length-take, take-take}, Simd.pick_l-range_with_len}}
use Rattle.re_ends.proofs.list.EndList.cut.Goals as goal

pub invariant_of-self : goal.invariant_of-self
invariant_of-self c =
    let s = c.self.inside in
    omega (arith, c.self.invariant, c.requires.few, ap (λ e. length e.ends) c.self.view_is, ap length c.put_last.ensures.last, length-take s.count (drop s.base s.buffer.items), length-append c.args.self.now.ends (c.args.place ∷ []))

pub returns-clause-cut : goal.returns-clause-cut
returns-clause-cut c =
    let s = c.self.inside in
    let ends = c.args.self.now.ends ++ c.args.place ∷ [] in
    let first = c.args.first in
    let count = c.args.count in
    let is = ap (λ e. e.ends) c.self.view_is ∙ c.put_last.ensures.last in
    let long = length-append c.args.self.now.ends (c.args.place ∷ []) in
    let rest : s.count ≡ first + (s.count - first) = omega (arith, c.requires.few, ap length is, length-take s.count (drop s.base s.buffer.items), long) in
    sym
    (pick_l-range_with_len 0 ends first count (omega (arith, c.requires.few, long)) ∙ ap (λ l. take count (drop first l)) (sym is) ∙ ap (λ n. take count (drop first (take n (drop s.base s.buffer.items)))) rest ∙ ap (take count) (drop-take first (s.count - first) (drop s.base s.buffer.items)) ∙ take-take count (s.count - first) (drop first (drop s.base s.buffer.items)) (omega (arith, c.requires.few, ap length is, length-take s.count (drop s.base s.buffer.items), long)) ∙ ap (take count) (drop-drop first s.base s.buffer.items))
