use Rattle.re_runs.proofs.{Prelude.{◌≡◌, ◌%◌, inl, inr, IsTrue, get_or, map, refl, sym, ap, ◌∙◌, subst, arith, cases_lt, bit_at, bits_of, members, set_at, sets_of_each}, lemmas.RunLaws.{each_at, its_members}}
use Rattle.re_runs.proofs.nibbles.Nibbles.of_each.Goals as goal

pub runs-preserved : goal.runs-preserved
runs-preserved c = λ n d lt within x small has. elim (cases_lt n c.runs.number) [
  | inl early ↦ c.runs.invariant n d early within x small has
  | inr late ↦
      let runs = c.args.runs.now in let number = c.runs.number in let items = c.deref.result.now in
      let set = c.in_ok-set.set.now in let same : n ≡ number = omega arith in let look = c.in_ok-set.ensures.lookup in
      let there : set_at (map members items) c.args.at ≡ members set = its_members items c.args.at set look.3.0 (look.3.1 set) in
      let here =
      ap (λ r. set_at r c.args.at) (each_at _ _ d _ _ c.runs-test.true c.index-runs-number.is c.deref.ensures.value) ∙ there in
      let own : bit_at (bits_of c.tables_of_each-nibbles.result x) (number % 8) ≡ 1 = c.if-not-has_bit_for.ensures refl x small (subst (λ s. IsTrue (s x)) (subst (λ m. set_at (get_or (sets_of_each runs) m d) c.args.at ≡ members set) (sym same) here) has) in
      subst (λ m. bit_at (bits_of c.tables_of_each-nibbles.result x) (m % 8) ≡ 1) (sym same) own
]
