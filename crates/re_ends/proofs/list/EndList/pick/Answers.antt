use Rattle.{re_ends.{proofs.{Prelude.{arith, ap, sym, length, length-append, map, slice_index, take, drop, ◌≡◌, ◌+◌, ◌<◌, ◌∙◌, ◌++◌, ◌∷◌, [], with_items_is}, list.EndList.pick.Goals.After-self}, specs.Working.Groups.numbers_of}, std.proofs.lemmas.List.{ext_get_or, get_or-drop, get_or-map, get_or-take, length-drop, length-map, length-take}}
use Rattle.re_ends.proofs.list.EndList.pick.Goals as goal

-- the ends that there are, and how many
held : (c : After-self) → (take c.self.inside.count (drop c.self.inside.base c.self.inside.buffer.items) ≡ c.args.self.now.ends ++ c.args.place ∷ []) × (c.self.inside.count ≡ length c.args.self.now.ends + 1)
held c =
    let s = c.self.inside in
    let is = ap (λ e. e.ends) c.self.view_is ∙ c.put_last.ensures.last in
    (is, omega (arith, ap length is, length-take s.count (drop s.base s.buffer.items), length-drop s.base s.buffer.items, c.self.invariant, length-append c.args.self.now.ends (c.args.place ∷ [])))

pub join_runs-at-requires : goal.join_runs-at-requires
join_runs-at-requires c =
    let many = (held (goal.at.join_runs-at-requires c).After-self).1 in
    record {
      base = omega (arith, c.self.invariant, ap length c.deref_mut.ensures.value);
      grow = c.requires.fits.1;
      within = λ k lt. let le = c.requires.fits.2 k lt in omega (arith, le, many, c.self.invariant, ap length c.deref_mut.ensures.value);
    }

pub returns-clause-picked : goal.returns-clause-picked
returns-clause-picked c =
    let s = c.self.inside in
    let (is, many) = held (goal.at.returns-clause-picked c).After-self in
    let kept = numbers_of c.args.runs.now in
    let j = c.join_runs-at in
    let all = take s.count (drop s.base s.buffer.items) in
    rw (with_items_is s.buffer j.new.buffer (j.ensures.len ∙ c.deref_mut.ensures.len))
    (rw is at (ext_get_or 0 (take c.args.count (drop (s.base + j.result) j.new.buffer)) (map (λ k. slice_index all k) kept) (omega (arith, length-take c.args.count (drop (s.base + j.result) j.new.buffer), length-drop (s.base + j.result) j.new.buffer, length-map kept (λ k. slice_index all k), c.requires.count, j.ensures.within, j.ensures.len))
    (λ i lt.
    let less : i < length kept = omega (arith, lt, length-take c.args.count (drop (s.base + j.result) j.new.buffer), c.requires.count) in
    let le = c.requires.fits.2 i less in
    get_or-take c.args.count (drop (s.base + j.result) j.new.buffer) i 0 (omega (arith, less, c.requires.count)) ∙ get_or-drop (s.base + j.result) j.new.buffer i 0 ∙ j.ensures.joined i less ∙ ap (λ l. slice_index l (s.base + slice_index kept i)) c.deref_mut.ensures.value
    ∙ sym (get_or-map (λ k. slice_index all k) kept i 0 0 less ∙ get_or-take s.count (drop s.base s.buffer.items) (slice_index kept i) 0 (omega (arith, le, many)) ∙ get_or-drop s.base s.buffer.items (slice_index kept i) 0))))

pub invariant_of-self : goal.invariant_of-self
invariant_of-self c = omega (arith, c.join_runs-at.ensures.within, c.requires.count, c.join_runs-at.ensures.len, ap length c.deref_mut.ensures.value, ap length (with_items_is c.self.inside.buffer c.join_runs-at.new.buffer (c.join_runs-at.ensures.len ∙ c.deref_mut.ensures.len)))

pub overflow_add-self : goal.overflow_add-self
overflow_add-self c = omega (arith, c.join_runs-at.ensures.within, ap length c.deref_mut.ensures.value, c.self.inside.buffer.ok)
