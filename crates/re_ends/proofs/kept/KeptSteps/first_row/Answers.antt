use Rattle.re_ends.proofs.Prelude.{arith, ap, sym, slice_get, ◌≡◌, ◌*◌}
use Rattle.re_ends.proofs.kept.KeptSteps.first_row.Goals as goal

pub returns-then-at_end : goal.returns-then-at_end
returns-then-at_end c =
    let (first, second, third, more, begin, none, none-2, room) = c.requires.sound.1.rows.begin in
    let row : 0 ≡ 0 * c.args.self.now.width = omega arith in record { number = 0; list = first; row = row; is = ap (λ l. slice_get l 0) begin; same = sym none; last = c.if-at_end.true }

pub returns : goal.returns
returns c =
    let (first, second, third, more, begin, none, none-2, room) = c.requires.sound.1.rows.begin in
    let row : c.args.self.now.width ≡ 1 * c.args.self.now.width = omega arith in record { number = 1; list = second; row = row; is = ap (λ l. slice_get l 1) begin; same = sym none-2; last = c.if-at_end.false }
