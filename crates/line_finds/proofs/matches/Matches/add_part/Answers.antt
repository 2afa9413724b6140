use Rattle.line_finds.proofs.{Prelude.{length, ap, arith, length-map, pair_of}, lemmas.PairLaws.{added_old, added_new, added_below, cut_back}}
use Rattle.line_finds.proofs.matches.Matches.add_part.Goals as goal

pub returns-in-Err-clause-err : goal.returns-in-Err-clause-err
returns-in-Err-clause-err c = cut_back c.self-2.inside.pairs.items c.len-len.result c.truncate.ensures.items c.self-2.view_is (omega (arith, length-map c.self.inside.pairs.items pair_of, ap length c.self.view_is)) c.in-Err.ensures.err

pub returns-clause-old : goal.returns-clause-old
returns-clause-old c = λ k low. cc (c.in_default.ensures.ok, added_old c.args.at c.args.from c.args.to c.args.self.now c.args.other.now k low)

pub returns-clause-new : goal.returns-clause-new
returns-clause-new c = λ k low. cc (c.in_default.ensures.ok, added_new c.args.at c.args.from c.args.to c.args.self.now c.args.other.now c.requires.before c.requires.in_order k low)

pub returns-clause-within : goal.returns-clause-within
returns-clause-within c = rw c.in_default.ensures.ok (added_below c.args.at c.args.from c.args.to c.args.self.now c.args.other.now c.requires.before c.requires.in_order)
