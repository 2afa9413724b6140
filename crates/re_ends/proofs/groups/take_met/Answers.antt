use Rattle.{re_ends.proofs.Prelude.{arith, ℕ, inl, inr, refl, ◌∙◌, ◌≡◌, ◌<◌, ◌≤◌, ◌+◌, ◌*◌, ◌/◌, length-set, subst, sym, Has, cases_lt, get_or}, std.{specs.Prelude.◌%◌, proofs.lemmas.{Nat.and_le_l, Bool.cases_eq}}}
use Rattle.re_ends.proofs.lemmas.ClosingLaws as laws
use Rattle.re_ends.proofs.groups.take_met.Goals as goal

pub words-init : goal.words-init
words-init c =
    let reached : (q : ℕ) → Has c.args.met.now q → c.next_word-k.result ≤ q / 64 = λ q h. c.next_word-k.ensures.first q h (c.requires.covers.members q h).0 in
    record {
      met_length = refl;
      left_length = refl;
      met = λ q. ((λ h. (reached q h, h)), (λ h. h.1));
      left = λ q. ((λ h. (h, λ lt met. let low = reached q met in omega (arith, lt, low))), (λ h. h.0));
      added = λ j q. ((λ h. inl h), (λ h. elim h [ inl old ↦ old | inr more ↦ absurd (let low = reached q more.2 in omega (arith, low, more.1)) ]));
      made = c.requires.made;
      room = omega arith;
    }

pub words-preserved : goal.words-preserved
words-preserved c =
    let inv = c.words.invariant in
    let k = c.words.k in
    let next = c.next_word-k-in-words.ensures in
    let now = laws.met_now c.words.met c.words.left k (omega (arith, c.words-test.true, c.requires.covers.within, inv.met_length)) in
    let upto : (q : ℕ) → q / 64 < c.next_word-k-in-words.result → Has c.args.met.now q → q / 64 ≤ k = λ q lt h. elim (cases_lt k (q / 64)) [
      | inl less ↦ let late = next.first q ((now q).1 ((inv.met q).1 (omega (arith, less), h), λ same. omega (arith, same, less))) (omega (arith, less)) in absurd (omega (arith, late, lt))
      | inr ge ↦ ge
    ] in
    record {
      met_length = length-set c.words.met k 0 ∙ inv.met_length;
      left_length = length-set c.words.left k _ ∙ inv.left_length;
      met = λ q. (
        (λ h. let was = (now q).0 h in let old = (inv.met q).0 was.0 in (next.first q h (omega (arith, was.1, old.0)), old.1)),
        (λ h. (now q).1 ((inv.met q).1 (omega (arith, h.0, next.from), h.1), λ same. omega (arith, same, h.0, next.from))),
      );
      left = λ q.
          let now = laws.left_now c.words.met c.words.left k (let le = and_le_l (get_or c.words.met k 0) (get_or c.words.left k 0) in omega (arith, le)) (omega (arith, c.words-test.true, c.requires.covers.within, inv.met_length, inv.left_length, c.requires.same)) q in (
            (λ h. let was = now.0 h in let old = (inv.left q).0 was.0 in (old.0, λ lt met. let le = upto q lt met in elim (cases_eq (q / 64) k) [ inl same ↦ was.1 same ((inv.met q).1 (omega (arith, same), met)) | inr other ↦ old.1 (omega (arith, other, le)) met ])),
            (λ h. now.1 ((inv.left q).1 (h.0, λ lt met. h.1 (omega (arith, lt, next.from)) met), λ same met. h.1 (omega (arith, same, next.from)) ((inv.met q).0 met).1)),
          );
      added = λ j q.
          let put = c.put_word.ensures.added j q in
          let word = laws.in_word c.words.met c.words.left k in (
            (λ h. elim (put.0 h) [
              | inl old ↦ elim ((inv.added j q).0 old) [ inl first ↦ inl first | inr (same, lt, m, l) ↦ inr (same, omega (arith, lt, next.from), m, l) ]
              | inr (b, lt, bit, (same, at)) ↦ let both = (word b lt).0 bit in inr (same, omega (arith, at, lt, next.from), rw (sym at) at ((inv.met _).0 both.0).1, rw (sym at) at ((inv.left _).0 both.1).0)
            ]),
            (λ h. elim h [
              | inl first ↦ put.1 (inl ((inv.added j q).1 (inl first)))
              | inr (same, lt, met, left) ↦ elim (cases_lt (q / 64) k) [
                | inl less ↦ put.1 (inl ((inv.added j q).1 (inr (same, less, met, left))))
                | inr ge ↦
                    let le = upto q lt met in
                    let at : q ≡ k * 64 + q % 64 = omega (arith, ge, le) in
                    put.1 (inr (q % 64, omega arith, (word (q % 64) (omega arith)).1 (subst (Has c.words.met) at ((inv.met q).1 (ge, met)), subst (Has c.words.left) at ((inv.left q).1 (left, λ less m. omega (arith, less, ge)))), (same, at)))
              ]
            ]),
          );
      made = c.put_word.ensures.made;
      room = omega (arith, inv.room, c.put_word.ensures.room);
    }

pub put_word-requires : goal.put_word-requires
put_word-requires c =
    let inv = c.words.invariant in
    let word = laws.in_word c.words.met c.words.left c.words.k in
    record {
      few = omega (arith, c.words-test.true, c.requires.covers.within, c.requires.same, c.requires.few);
      fresh = λ j b lt h here. elim ((inv.added j (c.words.k * 64 + b)).0 here) [
        | inl old ↦ c.requires.fresh j _ ((inv.left _).0 ((word b lt).0 h).1).0 old
        | inr more ↦ absurd (omega (arith, more.1, lt))
      ];
      small = λ b lt h. let less = c.requires.small _ ((inv.left _).0 ((word b lt).0 h).1).0 in omega (arith, less, inv.room);
      made = inv.made;
      below = λ j q h. elim ((inv.added j q).0 h) [ inl old ↦ let less = c.requires.below j q old in omega (arith, less, inv.room) | inr more ↦ let less = c.requires.small q more.3 in omega (arith, less, inv.room) ];
    }

pub returns-clause-none : goal.returns-clause-none
returns-clause-none c = λ q h. let was = (c.words.invariant.met q).0 h in let high = (c.requires.covers.members q was.1).1 in omega (arith, was.0, high, c.words-test.false)

pub returns-clause-left : goal.returns-clause-left
returns-clause-left c = λ q.
    let is = c.words.invariant.left q in
    ((λ h. let was = is.0 h in (was.0, λ met. was.1 (let high = (c.requires.covers.members q met).1 in omega (arith, high, c.words-test.false)) met)), (λ h. is.1 (h.0, λ lt met. h.1 met)))

pub returns-clause-added : goal.returns-clause-added
returns-clause-added c = λ j q.
    let is = c.words.invariant.added j q in
    ((λ h. elim (is.0 h) [ inl old ↦ inl old | inr (same, lt, m, l) ↦ inr (same, m, l) ]), (λ h. is.1 (elim h [ inl old ↦ inl old | inr (same, met, left) ↦ inr (same, (let high = (c.requires.covers.members q met).1 in omega (arith, high, c.words-test.false)), met, left) ])))
