use Rattle.{re_ends.{proofs.Prelude.{arith, inl, inr, ◌≡◌, ◌+◌, ◌*◌, ◌/◌, ◌<◌, ◌↔◌, ◌⊎◌, ℕ}, specs.Working.Groups.Names}, std.specs.{Prelude.{◌%◌, ◌^◌}, Int.bit_at}}
use Rattle.re_ends.proofs.lemmas.ClosingLaws as laws
use Rattle.re_ends.proofs.groups.put_word.Goals as goal

-- the positions of both pieces together are those of the word
module _ (g k word : ℕ) (few : k < 64) (fits : word < 2 ^ 64) where
  low : (q : ℕ) → Names (g * 281474976710656 + k * 2 * 4294967296 + word % 4294967296) q ↔ ((q / 32 ≡ k * 2) × (bit_at (word % 2 ^ 32) (q % 32) ≡ 1))
  low = laws.piece_names _ g (k * 2) (word % 4294967296) (omega arith) (omega (arith, few)) (omega arith)

  high : (q : ℕ) → Names (g * 281474976710656 + k * 2 * 4294967296 + 4294967296 + word / 4294967296) q ↔ ((q / 32 ≡ k * 2 + 1) × (bit_at (word / 2 ^ 32) (q % 32) ≡ 1))
  high = laws.piece_names _ g (k * 2 + 1) (word / 4294967296) (omega arith) (omega (arith, few)) (omega (arith, fits))

  in_word : (q : ℕ) → (Names (g * 281474976710656 + k * 2 * 4294967296 + word % 4294967296) q ⊎ Names (g * 281474976710656 + k * 2 * 4294967296 + 4294967296 + word / 4294967296) q) ↔ ((b : ℕ) × (b < 64) × (bit_at word b ≡ 1) × (q ≡ k * 64 + b))
  in_word q =
      let is = laws.halves k word q fits in (
        (λ h. is.0 (elim h [ inl a ↦ inl ((low q).0 a) | inr a ↦ inr ((high q).0 a) ])),
        (λ h. elim (is.1 h) [ inl a ↦ inl ((low q).1 a) | inr a ↦ inr ((high q).1 a) ]),
      )

  apart : (q : ℕ) → Names (g * 281474976710656 + k * 2 * 4294967296 + word % 4294967296) q → Names (g * 281474976710656 + k * 2 * 4294967296 + 4294967296 + word / 4294967296) q → ⊥
  apart q a b = let one = ((low q).0 a).0 in let two = ((high q).0 b).0 in omega (arith, one, two)

pub put_piece-requires-clause-fresh : goal.put_piece-requires-clause-fresh
put_piece-requires-clause-fresh c = λ j q names here.
    let (b, lt, bit, same) = (in_word _ _ _ c.requires.few c.ranges.word.fits q).0 (inl names) in
    c.requires.fresh j b lt bit (rw same at here)

pub put_piece-requires-clause-small : goal.put_piece-requires-clause-small
put_piece-requires-clause-small c = λ q names.
    let (b, lt, bit, same) = (in_word _ _ _ c.requires.few c.ranges.word.fits q).0 (inl names) in
    let less = c.requires.small b lt bit in omega (arith, less, same)

pub put_piece-requires-2-clause-fresh : goal.put_piece-requires-2-clause-fresh
put_piece-requires-2-clause-fresh c = λ j q names here.
    let is = in_word c.args.group c.args.k c.args.word c.requires.few c.ranges.word.fits q in
    elim ((c.put_piece.ensures.added j q).0 here) [
      | inl old ↦ let (b, lt, bit, same) = is.0 (inr names) in c.requires.fresh j b lt bit (rw same at old)
      | inr first ↦ apart _ _ _ c.requires.few c.ranges.word.fits q first.1 names
    ]

pub put_piece-requires-2-clause-small : goal.put_piece-requires-2-clause-small
put_piece-requires-2-clause-small c = λ q names.
    let (b, lt, bit, same) = (in_word _ _ _ c.requires.few c.ranges.word.fits q).0 (inr names) in
    let less = c.requires.small b lt bit in omega (arith, less, same, c.put_piece.ensures.room)

pub put_piece-requires-2-clause-below : goal.put_piece-requires-2-clause-below
put_piece-requires-2-clause-below c = λ j q here.
    elim ((c.put_piece.ensures.added j q).0 here) [
      | inl old ↦ let less = c.requires.below j q old in omega (arith, less, c.put_piece.ensures.room)
      | inr first ↦
          let (b, lt, bit, same) = (in_word _ _ _ c.requires.few c.ranges.word.fits q).0 (inl first.1) in
          let less = c.requires.small b lt bit in omega (arith, less, same, c.put_piece.ensures.room)
    ]

pub returns-clause-added : goal.returns-clause-added
returns-clause-added c = λ j q.
    let is = in_word c.args.group c.args.k c.args.word c.requires.few c.ranges.word.fits q in
    let one = c.put_piece.ensures.added j q in
    let two = c.put_piece-2.ensures.added j q in (
      (λ h. elim (two.0 h) [
        | inl before ↦ elim (one.0 before) [
          | inl old ↦ inl old
          | inr (group, names) ↦ let (b, lt, bit, same) = is.0 (inl names) in inr (b, lt, bit, (omega (arith, group, c.requires.few), same))
        ]
        | inr (group, names) ↦ let (b, lt, bit, same) = is.0 (inr names) in inr (b, lt, bit, (omega (arith, group, c.requires.few, c.ranges.word.fits), same))
      ]),
      (λ h. elim h [
        | inl old ↦ two.1 (inl (one.1 (inl old)))
        | inr (b, lt, bit, (group, same)) ↦ elim (is.1 (b, lt, bit, same)) [
          | inl first ↦ two.1 (inl (one.1 (inr (omega (arith, group, c.requires.few), first))))
          | inr second ↦ two.1 (inr (omega (arith, group, c.requires.few, c.ranges.word.fits), second))
        ]
      ]),
    )
