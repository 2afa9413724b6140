use Rattle.re_needle.proofs.{Prelude.{◌≡◌, ◌≤◌, IfSome, arith, members}, lemmas.OutlineLaws.{adds_at_least, adds_just, adds_least, ok_with}}
use Rattle.re_needle.proofs.outline.add_repeated.Goals as goal

pub returns-then-turns-least : goal.returns-then-turns-least
returns-then-turns-least c =
    ok_with _ (adds_least c.args.marks.now.items c.add_turns.new.marks.items c.add_mark.new.marks.items (members c.args.set) c.min-turns.result c.args.least c.args.most (omega arith) c.in_ok-add_turns.ensures)
    c.add_mark.ensures

pub returns-in_default : goal.returns-in_default
returns-in_default c =
    let full : c.min-turns.result ≡ c.args.least = omega (arith, c.if-turns-least.false) in
    ok_with _ (adds_at_least c.args.marks.now.items c.add_turns.new.marks.items c.add_mark-in_default.new.marks.items (members c.args.set) c.min-turns.result c.args.least c.args.most full (rw c.in_default.is tt) c.in_ok-add_turns.ensures)
    c.add_mark-in_default.ensures

pub returns-then-top-least : goal.returns-then-top-least
returns-then-top-least c =
    ok_with _ (adds_least c.args.marks.now.items c.add_turns.new.marks.items c.add_mark-then-top-least.new.marks.items (members c.args.set) c.min-turns.result c.args.least c.args.most (omega arith) c.in_ok-add_turns.ensures)
    c.add_mark-then-top-least.ensures

pub returns-then-top-least-2 : goal.returns-then-top-least-2
returns-then-top-least-2 c =
    let full : c.min-turns.result ≡ c.args.least = omega (arith, c.if-turns-least.false) in
    adds_just _ _ _ _ _ full (rw c.if-top-least-2.true at c.in-Some.is) c.in_ok-add_turns.ensures

pub returns : goal.returns
returns c =
    let full : c.min-turns.result ≡ c.args.least = omega (arith, c.if-turns-least.false) in
    let within : c.args.least ≤ c.in-Some.top = omega (arith, c.if-top-least.false) in
    ok_with _ (adds_at_least c.args.marks.now.items c.add_turns.new.marks.items c.add_mark-2.new.marks.items (members c.args.set) c.min-turns.result c.args.least c.args.most full (rw c.in-Some.is within) c.in_ok-add_turns.ensures)
    c.add_mark-2.ensures
