use Rattle.re_ends.{proofs.Prelude.{arith, ap, sym, ◌∙◌, ◌≡◌, length, with_items_is}, specs.Working.Groups.numbers_of}
use Rattle.re_ends.proofs.lemmas.ClosingLaws as laws
use Rattle.re_ends.proofs.groups.Groups.begin.Goals as goal

pub returns : goal.returns
returns c = λ at_end after count row groups.
    let left = with_items_is c.args.self.now.left c.copy.new.into (let e : length c.copy.new.into ≡ c.args.self.now.left.len = omega (arith, ap length c.copy.ensures, c.taking.ensures.0, c.requires.left, c.args.self.now.left.ok) in e) in
    let met = with_items_is c.args.self.now.met c.clear.new.into (c.clear.ensures.len ∙ c.deref_mut-2.ensures.len) in
    laws.start _ _
    (record {
      few = c.requires.few;
      preceding = c.requires.preceding;
      left = ap length left ∙ ap length c.copy.ensures ∙ c.taking.ensures.0;
      met = ap length met ∙ c.clear.ensures.len ∙ ap length c.deref_mut-2.ensures.value ∙ c.requires.met;
      row = omega (arith, c.requires.row, c.clear-2.ensures.capacity);
      runs = omega (arith, c.requires.runs, c.clear-3.ensures.capacity);
    })
    row groups (λ q h. c.clear.ensures.none q (rw met at h))
    (laws.none_closed _ _ (λ q. rw (left, c.copy.ensures) (c.taking.ensures.1 q)) (ap numbers_of c.clear-3.ensures.items) c.clear-2.ensures.items, sym (ap (λ l. length (numbers_of l)) c.clear-3.ensures.items))
