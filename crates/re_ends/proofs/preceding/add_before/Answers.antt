use Rattle.{re_ends.proofs.{Prelude.{arith, inl, inr, ◌≡◌, ◌⊎◌, ◌%◌, ◌/◌, ◌∙◌, length-set, cases_lt}, lemmas.PrecedingLaws.{before_added, not_first, word_added}, preceding.add_before.Goals.{then-members-eq0-via-then-members-eq0, then-members-eq0-via-else-members-eq0+then-k-eq0}}, std.proofs.lemmas.Nat.Bits.bit_at_lowest}
use Rattle.re_ends.proofs.preceding.add_before.Goals as goal

pub returns-then-members-eq0-clause-covers : goal.returns-then-members-eq0-clause-covers
returns-then-members-eq0-clause-covers c =
    let len = length-set c.args.set.now c.args.k _ in
    c.with_word-here.ensures c.args.set.now _ c.requires.covers (omega (arith, len, c.requires.word.0)) len (λ q h. elim ((word_added _ _ _ c.requires.word.0 q).0 h) [ inl old ↦ inl old | inr new ↦ inr new.0 ])

pub returns-then-members-eq0-clause-added : goal.returns-then-members-eq0-clause-added
returns-then-members-eq0-clause-added c = λ p.
    let is = before_added c.args.set.now c.args.k c.args.members c.requires.word.0 c.ranges.members.fits p in
    let how : (c.args.members % 2 ≡ 0) ⊎ (c.args.k ≡ 0) = elim c.then-members-eq0.branch [ then-members-eq0-via-then-members-eq0 w ↦ inl w.if-members-eq0.true | then-members-eq0-via-else-members-eq0+then-k-eq0 w ↦ inr w.if-k-eq0.true ] in (
      (λ h. elim (is.0 h) [ inl old ↦ inl old | inr (b, lt, bit, some, same) ↦ inr (b, lt, bit, same) ]),
      (λ h. elim h [ inl old ↦ is.1 (inl old) | inr (b, lt, bit, same) ↦ is.1 (inr (b, lt, bit, not_first _ _ p b how bit same, same)) ]),
    )

pub returns-clause-covers : goal.returns-clause-covers
returns-clause-covers c =
    let len = length-set c.args.set.now c.args.k _ in
    let here = c.with_word-here.ensures c.args.set.now _ c.requires.covers (omega (arith, len, c.requires.word.0)) len (λ q h. elim ((word_added c.args.set.now c.args.k (c.args.members / 2) c.requires.word.0 q).0 h) [ inl old ↦ inl old | inr new ↦ inr new.0 ]) in
    c.with_word.ensures _ c.insert.new.into here (omega (arith, c.insert.ensures.len, len, c.requires.word.0)) c.insert.ensures.len (λ q h. elim ((c.insert.ensures.inserted q).0 h) [ inl old ↦ inl old | inr same ↦ inr (omega (arith, same, c.if-k-eq0.false)) ])

pub returns-clause-added : goal.returns-clause-added
returns-clause-added c = λ p.
    let is = before_added c.args.set.now c.args.k c.args.members c.requires.word.0 c.ranges.members.fits p in
    let put = c.insert.ensures.inserted p in (
      (λ h. elim (put.0 h) [
        | inl one ↦ elim (is.0 one) [ inl old ↦ inl old | inr (b, lt, bit, some, same) ↦ inr (b, lt, bit, same) ]
        | inr last ↦ inr (0, omega arith, bit_at_lowest c.args.members ∙ omega (arith, c.if-members-eq0.false), omega (arith, last, c.if-k-eq0.false))
      ]),
      (λ h. elim h [
        | inl old ↦ put.1 (inl (is.1 (inl old)))
        | inr (b, lt, bit, same) ↦ elim (cases_lt 0 b) [ inl some ↦ put.1 (inl (is.1 (inr (b, lt, bit, some, same)))) | inr none ↦ put.1 (inr (omega (arith, none, same))) ]
      ]),
    )
