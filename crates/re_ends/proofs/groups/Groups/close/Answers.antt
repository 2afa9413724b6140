use Rattle.re_ends.{proofs.Prelude.{arith, ap, ℕ, ◌∙◌, ◌∷◌, [], length, length-append, sym, true≢false, with_items_is}, specs.Working.Groups.{In, numbers_of}}
use Rattle.re_ends.proofs.lemmas.ClosingLaws as laws
use Rattle.re_ends.proofs.groups.Groups.close.Goals as goal

pub take_met-requires : goal.take_met-requires
take_met-requires c =
    let (b, made, (closed, count)) = c.requires.made in
    record {
      covers = rw c.deref_mut.ensures.value c.requires.covers;
      same = omega (arith, ap length c.deref_mut.ensures.value, ap length c.deref_mut-2.ensures.value, made.left, made.met);
      few = omega (arith, ap length c.deref_mut-2.ensures.value, made.left, made.few);
      fresh = λ j q h. (closed.ready q (rw c.deref_mut-2.ensures.value at h)).1 j;
      small = λ q h. let less = laws.small_left closed q (rw c.deref_mut-2.ensures.value at h) in omega (arith, less, made.row);
      made = rw count closed.made_of;
      below = λ j q h. let less = laws.small_in closed j q h in omega (arith, less, made.row);
    }

pub overflow_add-self : goal.overflow_add-self
overflow_add-self c =
    let (b, made, (closed, count)) = c.requires.made in
    omega (arith, laws.few_kept closed, laws.few_closed closed, made.few, count)

pub returns-then-has_last-clause-closed : goal.returns-then-has_last-clause-closed
returns-then-has_last-clause-closed c = λ b made closed is.
    let left = with_items_is c.args.self.now.left c.take_met.new.left (c.take_met.ensures.same.1 ∙ c.deref_mut-2.ensures.len) in
    let (q, last) : (q : ℕ) × In c.take_met.new.row.items (length (numbers_of c.args.self.now.runs.items)) q = rw (c.deref.ensures.value, closed.1) at (c.has_last.ensures.0 c.if-has_last.true) in
    let next = laws.closed_some c.args.self.now.met.items c.take_met.new.left closed.0 is
    (rw (c.deref_mut.ensures.value, c.deref_mut-2.ensures.value) at c.take_met.ensures.left) (rw (closed.1, c.deref_mut.ensures.value, c.deref_mut-2.ensures.value) at c.take_met.ensures.added) (rw closed.1 at c.take_met.ensures.made) q last in
    let added = c.add_number.ensures.added (omega (arith, laws.few_kept next, laws.few_closed next, made.runs, length-append (numbers_of c.args.self.now.runs.items) (c.args.group ∷ []))) in
    rw (left, added) (next, omega (arith, closed.1, length-append (numbers_of c.args.self.now.runs.items) (c.args.group ∷ [])))

pub returns-else-has_last-clause-closed : goal.returns-else-has_last-clause-closed
returns-else-has_last-clause-closed c = λ b made closed is.
    let left = with_items_is c.args.self.now.left c.take_met.new.left (c.take_met.ensures.same.1 ∙ c.deref_mut-2.ensures.len) in
    rw left (
      laws.closed_none c.args.self.now.met.items c.take_met.new.left closed.0 is
          (rw (c.deref_mut.ensures.value, c.deref_mut-2.ensures.value) at c.take_met.ensures.left) (rw (closed.1, c.deref_mut.ensures.value, c.deref_mut-2.ensures.value) at c.take_met.ensures.added) (rw closed.1 at c.take_met.ensures.made)
          (λ last. absurd (true≢false (sym (c.has_last.ensures.1 (rw (c.deref.ensures.value, closed.1) last)) ∙ c.if-has_last.false))),
      closed.1,
    )
