use Rattle.{re_ends.{proofs.Prelude.{arith, ap, refl, suc, sym, ◌∙◌, ◌≡◌, length, expression_of, with_items_is}, specs.Working.{Closing.{AreClosed, Byte}, Groups.AreGroupsFor}}, re_auto.proofs.lemmas.BitLemmas.within}
use Rattle.re_ends.proofs.lemmas.ClosingLaws as laws
use Rattle.re_ends.proofs.groups.Groups.step.Goals as goal

pub close_all-count-requires : goal.close_all-count-requires
close_all-count-requires c = (_, refl, c.begin.ensures c.args.at_end c.args.after.now c.requires.after.count c.requires.after c.requires.after.groups)

pub close-requires-clause-made : goal.close-requires-clause-made
close-requires-clause-made c =
    let b : Byte = record { e = expression_of c.args.automaton.now; code = c.args.byte; at_end = c.args.at_end; after = c.args.after.now; count = c.requires.after.count } in
    let (count, made, closed) = c.close_all-count.ensures b refl (c.begin.ensures c.args.at_end c.args.after.now c.requires.after.count c.requires.after c.requires.after.groups) in
    let met = with_items_is c.close_all-count.new.self.met c.copy.new.into (let e : length c.copy.new.into ≡ c.close_all-count.new.self.met.len = omega (arith, ap length c.copy.ensures, c.ending.ensures.0, made.met, c.close_all-count.new.self.met.ok) in e) in
    (b, laws.with_met _ made (ap length met ∙ ap length c.copy.ensures ∙ c.ending.ensures.0 ∙ sym made.met), rw count closed)

pub close-requires-clause-covers : goal.close-requires-clause-covers
close-requires-clause-covers c =
    let (count, made, closed) = c.close_all-count.ensures _ refl (c.begin.ensures c.args.at_end c.args.after.now c.requires.after.count c.requires.after c.requires.after.groups) in
    let met = with_items_is c.close_all-count.new.self.met c.copy.new.into (let e : length c.copy.new.into ≡ c.close_all-count.new.self.met.len = omega (arith, ap length c.copy.ensures, c.ending.ensures.0, made.met, c.close_all-count.new.self.met.ok) in e) in
    record {
      ordered = omega arith;
      within = omega (arith, ap length met, ap length c.copy.ensures, c.ending.ensures.0, made.met, c.len.ensures, c.close_all-count.new.self.met.ok);
      members = λ q h. (omega arith, (let lt = within _ q h in omega (arith, lt, ap length met, ap length c.copy.ensures, c.ending.ensures.0, made.met, c.len.ensures, c.close_all-count.new.self.met.ok)));
    }

pub copy-requires : goal.copy-requires
copy-requires c =
    let (count, made, closed) = c.close_all-count.ensures _ refl (c.begin.ensures c.args.at_end c.args.after.now c.requires.after.count c.requires.after c.requires.after.groups) in
    omega (arith, ap length c.deref_mut.ensures.value, made.met, c.ending.ensures.0)

-- all groups are closed, and that of the place
module _ (c : goal.After-self-2-1) where
  abbrev b : Byte
  b = record { e = expression_of c.args.automaton.now; code = c.args.byte; at_end = c.args.at_end; after = c.args.after.now; count = c.requires.after.count }

  next : AreGroupsFor b.e c.close.new.self × AreClosed b (suc b.count) c.close.new.self
  next =
      let (count, made, closed) = c.close_all-count.ensures b refl (c.begin.ensures c.args.at_end c.args.after.now c.requires.after.count c.requires.after c.requires.after.groups) in
      let met = with_items_is c.close_all-count.new.self.met c.copy.new.into (let e : length c.copy.new.into ≡ c.close_all-count.new.self.met.len = omega (arith, ap length c.copy.ensures, c.ending.ensures.0, made.met, c.close_all-count.new.self.met.ok) in e) in
      let made' = laws.with_met _ made (ap length met ∙ ap length c.copy.ensures ∙ c.ending.ensures.0 ∙ sym made.met) in (
        c.close.ensures.made b.e made',
        rw count at
            (c.close.ensures.closed b made' (rw count closed) (rw (met, c.copy.ensures, count) (laws.is_own b c.ending.result.now c.requires.after.groups c.ending.ensures.1))),
      )

pub returns-clause-made : goal.returns-clause-made
returns-clause-made c = let made = (next c).0 in record { few = made.few; preceding = made.preceding; left = made.left; met = made.met; row = made.row; runs = made.runs }

pub returns-clause-row : goal.returns-clause-row
returns-clause-row c = laws.closed_row (next c).1.0

pub returns-clause-right : goal.returns-clause-right
returns-clause-right c = laws.closed_step c.requires.after.groups (next c).1.0

pub returns-clause-count : goal.returns-clause-count
returns-clause-count c = (next c).1.1
