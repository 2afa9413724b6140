use Rattle.{gaxtrel.proofs.{Prelude.{◌≡◌, ◌∙◌, get_or, arith, refl, sym, drop_all, length-map, expressions_of, matched_expression, wants_whole}, ArrayLemmas.all_put, WhichLemmas.one_asked}, re_search.proofs.lemmas.{KeptMatchers.one_kept, OneMatcherMore.{steps_more, value_at, within}}}
use Rattle.gaxtrel.proofs.which.put_numbers.Goals as goal

pub loop-matcher-preserved : goal.loop-matcher-preserved
loop-matcher-preserved c =
    let old = c.args.matchers.now in
    let now = c.loop-matcher.matchers in
    let i = c.loop-matcher.matcher-index in
    let d = c.matcher-item.result in
    let inv = c.loop-matcher.invariant in
    let es = inv.same.same_expressions in
    let ws = inv.same.same_wholes in
    let h = c.loop-matcher-test.true in
    let m = get_or now i d in
    let is_whole : wants_whole m ≡ c.args._whole = sym (value_at wants_whole old now ws i d h (wants_whole m)) ∙ c.requires i (wants_whole m) (within wants_whole old now ws i d h).1 in
    record {
      found = one_asked c.args._whole c.args.line.now (expressions_of old) i (matched_expression m) (within matched_expression old now es i d h).1 (value_at matched_expression old now es i d h (matched_expression m)) c.is_match-matched.result c.loop-matcher.count c.put_if-count.result _ _ _
          (rw is_whole at c.is_match-matched.ensures.reported) inv.found (rw inv.number at c.put_if-count.ensures.put);
      number = omega (arith, inv.number);
      few = omega (arith, inv.few, c.put_if-count.ensures.few);
      same = one_kept inv.same i d _ c.is_match-matched.ensures.same;
      steps = steps_more i _ _ _ _ inv.steps c.is_match-matched.ensures.steps;
    }

pub returns-clause-put : goal.returns-clause-put
returns-clause-put c =
    let old = c.args.matchers.now in
    let i = c.loop-matcher.matcher-index in
    all_put c.loop-matcher.invariant.found (rw (drop_all i (expressions_of old) (omega (arith, length-map old matched_expression, c.loop-matcher-test.false))) refl)
