use Rattle.{re_ends.proofs.{Prelude.{arith, refl, subst, inl, inr, ℕ, suc, ◌≡◌, ◌+◌, ◌*◌, ◌<◌, ◌∙◌, ◌↔◌, ◌⊎◌, bit_and, bit_at, bit_not, part_of, w64}, lemmas.PrecedingLaws.{in_second, word_split}}, std.proofs.lemmas.List.get_or_read_under}
use Rattle.re_ends.proofs.preceding.Preceding.add_to.Goals as goal

pub add_rows-requires-clause-made : goal.add_rows-requires-clause-made
add_rows-requires-clause-made c =
    let (e, made, small, len) = c.requires.made in
    (e, made, (λ b lt h. small b lt ((word_split _ _ b lt c.ranges.members.fits).1 (inr h))), c.add_before-range.ensures.len ∙ len)

pub returns-clause-added : goal.returns-clause-added
returns-clause-added c = λ e p made.
    let split : (b : ℕ) → b < 64 → (bit_at c.args.members b ≡ 1) ↔ ((bit_at (bit_and c.args.members c.index.result.now) b ≡ 1) ⊎ (bit_at (bit_and c.args.members (bit_not w64 (bit_and c.args.members c.index.result.now))) b ≡ 1)) = λ b lt. word_split c.args.members c.index.result.now b lt c.ranges.members.fits in
    let before = c.add_before-range.ensures.added p in
    let rows = c.add_rows.ensures.added e p made in
    let (e', made', small, len) = c.requires.made in
    let at = get_or_read_under c.args.self.now.chained.items c.args.k _ c.index.result.now 0 c.index.ensures (omega (arith, made'.chained.0, made'.width, len, c.requires.word.0)) refl in
    let chain : (b : ℕ) → b < 64 → bit_at (bit_and c.args.members c.index.result.now) b ≡ 1 → (part_of e 0).follow p (c.args.k * 64 + b) ↔ (suc p ≡ c.args.k * 64 + b) = λ b lt h. made.chained.1 (c.args.k * 64 + b) p (in_second _ _ _ b lt (subst (λ w. bit_at (bit_and c.args.members w) b ≡ 1) at h)) in (
      (λ h. elim (rows.0 h) [
        | inl mid ↦ elim (before.0 mid) [ inl old ↦ inl old | inr (b, lt, bit, same) ↦ inr (b, lt, (split b lt).1 (inl bit), (chain b lt bit).1 same) ]
        | inr (b, lt, bit, follow) ↦ inr (b, lt, (split b lt).1 (inr bit), follow)
      ]),
      (λ h. elim h [
        | inl old ↦ rows.1 (inl (before.1 (inl old)))
        | inr (b, lt, bit, follow) ↦ elim ((split b lt).0 bit) [
          | inl in_both ↦ rows.1 (inl (before.1 (inr (b, lt, in_both, (chain b lt in_both).0 follow))))
          | inr other ↦ rows.1 (inr (b, lt, other, follow))
        ]
      ]),
    )
