use Rattle.re_auto.proofs.{Prelude.{rules, arith, cases_lt, inl, inr, ◌≡◌, ◌+◌, ◌<◌, ◌++◌, ◌∷◌, [], length, length-append, max, get_or, sym, ap, ◌∙◌, row_of}, lemmas.{RowLemmas.row_within, ClassLemmas.pushed}}
use Rattle.re_auto.proofs.build.classes.classes_of.Goals as goal

pub row-requires : goal.row-requires
row-requires c = rw c.requires (row_within c.bytes.c 256 c.args.width (omega arith))

pub add_class-requires-clause-table : goal.add_class-requires-clause-table
add_class-requires-clause-table c = c.bytes.invariant.table

pub add_class-requires-clause-same : goal.add_class-requires-clause-same
add_class-requires-clause-same c = c.row.ensures.len

pub bytes-preserved : goal.bytes-preserved
bytes-preserved c =
    let was = c.bytes.invariant in
    let classed = c.in_ok-class.ensures in
    let next : c.max-count.result ≡ max c.bytes.count (c.in_ok-class.class + 1) = omega arith in
    let items : c.push.new.self.items ≡ c.bytes.class_of.items ++ (c.in_ok-class.class ∷ []) = search rules in
    record {
      bytes = omega (arith, ap length items, length-append c.bytes.class_of.items (c.in_ok-class.class ∷ []));
      few = omega arith;
      table = cc classed.longer;
      known = λ b lt. rw items (pushed (λ b k. k < c.max-count.result) _ _ _ was.bytes (λ b lt. omega (arith, was.known b lt)) (omega arith) b lt);
      same = λ b lt. rw items (pushed (λ b k. row_of c.add_class.new.takes.items c.args.width k ≡ row_of c.args.rows.now c.args.width b) _ _ _ was.bytes
          (λ b lt. classed.kept (get_or c.bytes.class_of.items b 0) (was.known b lt) ∙ was.same b lt) (classed.same ∙ c.row.ensures.is) b lt);
      apart = λ j k lt in_new both.
          let left = sym (classed.kept j (omega arith)) ∙ both in
          elim (cases_lt k c.bytes.count) [
            | inl old ↦ was.apart j k lt old (left ∙ classed.kept k old)
            | inr late ↦
                let is : k ≡ c.in_ok-class.class = omega arith in
                classed.first j (omega arith) (cc classed.same)
          ];
    }

pub returns : goal.returns
returns c =
    let was = c.bytes.invariant in
    let all : c.bytes.c ≡ 256 = omega arith in record {
      bytes = was.bytes ∙ all;
      within = λ b lt. rw was.table (row_within (get_or c.bytes.class_of.items b 0) c.bytes.count c.args.width (was.known b (omega arith)));
      same = λ b lt. was.same b (omega arith);
      shared = λ a b in_a in_b alike.
          let both = was.same a (omega arith) ∙ alike ∙ sym (was.same b (omega arith)) in
          let x = get_or c.bytes.class_of.items a 0 in
          let y = get_or c.bytes.class_of.items b 0 in
          elim (cases_lt x y) [
            | inl lt ↦ absurd (was.apart x y lt (was.known b (omega arith)) both)
            | inr ge ↦ elim (cases_lt y x) [ inl lt ↦ absurd (was.apart y x lt (was.known a (omega arith)) (sym both)) | inr le ↦ omega arith ]
          ];
    }
