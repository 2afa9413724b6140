use Rattle.grep_io.proofs.{Prelude.{◌≡◌, [], ap, arith, length_push, Numbered, Text}, lemmas.{WindowLemmas.{none_in_nothing, one_line, one_line_and_few}, HandedLemmas.{HandsLines-line, HandsLines-stays, has_read_before, stands_broken, stands_cut, stands_whole, still_open}}}
use Rattle.grep_io.proofs.input.lines.Lines.next_numbered.Goals as goal

pub returns-in-Ok-true-clause-next : goal.returns-in-Ok-true-clause-next
returns-in-Ok-true-clause-next g c = λ reader handed s name.
    let handed_out = rw c.in-Ok-true.field-0-test at c.in-Ok-true.ensures.line in
    let same : c.self.inside.number ≡ c.next_line.new.self.number = ap (λ (n : Numbered _). n.number) c.self.view_is in
    stands_cut _ _ _ reader c.next_line.new.self.lines _ _ (HandsLines-line _ _ reader handed s.hands handed_out) (omega arith)

pub returns-in-Ok-true-2-clause-next : goal.returns-in-Ok-true-2-clause-next
returns-in-Ok-true-2-clause-next g c = λ reader handed s.
    let reported = rw c.in-Ok-true.field-0-test at c.in-Ok-true.ensures.line in
    let handed_out = rw (← c.self.view_is) at reported in
    let same = rw (← c.self.view_is) at c.next_line.ensures.same_number in
    record { hands = HandsLines-line _ _ reader handed s.hands handed_out; counted = omega (arith, length_push {X = Text}); few = omega (arith, length_push {X = Text}) }

pub returns-in-Ok-false-clause-next : goal.returns-in-Ok-false-clause-next
returns-in-Ok-false-clause-next g c = λ reader handed s name.
    let used_up = rw c.in-Ok-false.field-0-test at c.in-Ok-false.ensures.line in
    stands_whole _ _ _ reader _ _ _ s.hands s.few used_up

pub returns-in-Err-Device-clause-next : goal.returns-in-Err-Device-clause-next
returns-in-Err-Device-clause-next g c = λ reader handed s name.
    let cut_off = c.in-Err-Device.ensures.device (rw c.in-Err-Device.field-0-is) in
    let was_open = still_open c.args.self.now.lines.stage s.hands.given handed s.hands.are_handed (λ e. let no = c.in-Err-Device.ensures.over e in cc) in
    stands_broken _ _ _ reader _ _ _ s.hands s.few was_open cut_off

pub returns-in-Err-Memory-clause-next : goal.returns-in-Err-Memory-clause-next
returns-in-Err-Memory-clause-next g c = λ reader handed s.
    let refused = c.in-Err-Memory.ensures.memory (rw c.in-Err-Memory.field-0-is) in
    let was_open = still_open c.args.self.now.lines.stage s.hands.given handed s.hands.are_handed (λ e. let no = c.in-Err-Memory.ensures.over e in cc) in
    record { hands = HandsLines-stays _ _ reader _ _ handed s.hands was_open refused; counted = omega arith; few = s.few }

pub returns-in-Ok-true-clause-held : goal.returns-in-Ok-true-clause-held
returns-in-Ok-true-clause-held g c =
    let handed_out = rw c.in-Ok-true.field-0-test at c.in-Ok-true.ensures.line in
    one_line_and_few [] c.next_line.new.self.lines.ahead none_in_nothing (omega arith)

pub returns-in-Ok-true-2-clause-held : goal.returns-in-Ok-true-2-clause-held
returns-in-Ok-true-2-clause-held g c =
    let reported = rw c.in-Ok-true.field-0-test at c.in-Ok-true.ensures.line in
    let handed_out = rw (← c.self.view_is) at reported in
    one_line_and_few [] c.self.inside.window.ahead none_in_nothing (omega arith)

pub returns-in-Ok-false-clause-held : goal.returns-in-Ok-false-clause-held
returns-in-Ok-false-clause-held g c =
    let used_up = rw c.in-Ok-false.field-0-test at c.in-Ok-false.ensures.line in
    rw used_up.none_held none_in_nothing

pub returns-in-Err-Device-clause-held : goal.returns-in-Err-Device-clause-held
returns-in-Err-Device-clause-held g c =
    let cut_off = c.in-Err-Device.ensures.device (rw c.in-Err-Device.field-0-is) in
    one_line c.next_line.new.self.lines.ahead cut_off.unfinished

pub returns-in-Err-Memory-clause-held : goal.returns-in-Err-Memory-clause-held
returns-in-Err-Memory-clause-held g c =
    let refused = c.in-Err-Memory.ensures.memory (rw c.in-Err-Memory.field-0-is) in
    refused.few_held

pub returns-in-Ok-true-2-clause-before : goal.returns-in-Ok-true-2-clause-before
returns-in-Ok-true-2-clause-before g c = λ reader handed s name.
    let reported = rw c.in-Ok-true.field-0-test at c.in-Ok-true.ensures.line in
    let handed_out = rw (← c.self.view_is) at reported in
    has_read_before _ _ name reader _ _ handed s.hands handed_out
