use Rattle.{re_ends.proofs.Prelude.{arith, ap, ◌≡◌, ◌+◌, ◌*◌, ◌≤◌, sym, length, ◌∙◌, expression_of}, std.specs.Prelude.◌^◌}
use Rattle.re_ends.proofs.lemmas.KeptLaws as laws
use Rattle.re_ends.proofs.kept.KeptSteps.add.Goals as goal

pub returns-in_err-lengthen-clause-rows : goal.returns-in_err-lengthen-clause-rows
returns-in_err-lengthen-clause-rows c =
    let number : c.len-number.result ≡ length c.args.self.now.rows.items = omega (arith, c.len-number.ensures, c.args.self.now.rows.ok) in (c.requires.sound.rows, rw number at c.lengthen.ensures.least)

pub returns-in_err-lengthen-clause-kept : goal.returns-in_err-lengthen-clause-kept
returns-in_err-lengthen-clause-kept c = λ row end of is. is

pub returns-in_err-push-clause-rows : goal.returns-in_err-push-clause-rows
returns-in_err-push-clause-rows c =
    let number : c.len-number.result ≡ length c.args.self.now.rows.items = omega (arith, c.len-number.ensures, c.args.self.now.rows.ok) in rw c.in_err-push.ensures.items (c.requires.sound.rows, rw number at c.lengthen.ensures.least)

pub returns-in_err-push-clause-kept : goal.returns-in_err-push-clause-kept
returns-in_err-push-clause-kept c = λ row end of is. rw c.in_err-push.ensures.items is

pub returns-clause-sound : goal.returns-clause-sound
returns-clause-sound c =
    let e = expression_of c.args.automaton.now in
    let number : c.len-number.result ≡ length c.args.self.now.rows.items = omega (arith, c.len-number.ensures, c.args.self.now.rows.ok) in
    let right = c.requires.sound in
    let same = c.in_ok-row.ensures.items ∙ c.deref.ensures.value in
    let filled : c.len-number.result * c.args.self.now.width + c.args.self.now.width ≤ length c.lengthen.new.cells.items = omega (arith, c.in_ok-lengthen.ensures.len) in
    let small : c.len-number.result * c.args.self.now.width + c.args.self.now.width ≤ 2 ^ 30 = omega (arith, c.if-first.false, right.rows.classes.narrow) in (
      rw (c.count_bytes-2.ensures, c.count_bytes.ensures, c.in_ok-push.ensures.items) (laws.right_more right c.in_ok-row.row c.lengthen.new.cells.items (rw same c.requires.row) (rw number at filled) (rw number at small) (rw number at c.lengthen.ensures.same) (rw number at c.lengthen.ensures.none)),
      rw (c.count_bytes-2.ensures, c.count_bytes.ensures, c.in_ok-push.ensures.items) (laws.row_at c.args.self.now.width c.len-number.result c.in_ok-row.row (omega (arith, ap length right.rows.begin.4, number)) (rw number (laws.get_last c.args.self.now.rows.items c.in_ok-row.row)) (sym same)),
    )

pub returns-clause-rows : goal.returns-clause-rows
returns-clause-rows c = let all = (returns-clause-sound c).0 in (all.rows, all.filled)

pub returns-clause-kept : goal.returns-clause-kept
returns-clause-kept c = λ row end of is. rw (c.count_bytes-2.ensures, c.count_bytes.ensures, c.in_ok-push.ensures.items) (laws.row_longer _ is)
