use Rattle.grep_session.proofs.{Prelude.{inl, inr, arith, refl}, lemmas.NearLemmas.shown_next}
use Rattle.grep_session.proofs.shown.next_shown.Goals as goal

pub returns-then-near-len-clause-shown : goal.returns-then-near-len-clause-shown
returns-then-near-len-clause-shown c =
    shown_next _ c.args.context _ c.args.k _ c.requires.inside c.saturating_sub.ensures c.find_near-near.ensures (inr (inr (omega arith, refl)))

pub returns-then-first-k-clause-shown : goal.returns-then-first-k-clause-shown
returns-then-first-k-clause-shown c =
    shown_next _ c.args.context _ c.args.k _ c.requires.inside c.saturating_sub.ensures c.find_near-near.ensures (inl (refl, omega arith, omega arith))

pub returns-clause-shown : goal.returns-clause-shown
returns-clause-shown c =
    shown_next _ c.args.context _ c.args.k _ c.requires.inside c.saturating_sub.ensures c.find_near-near.ensures (inr (inl (omega arith, omega arith, omega arith)))
