use Rattle.grep_io.proofs.{Prelude.{◌≡◌, length, take, arith, length-take-le}, lemmas.SentLemmas.{front_sent, some_sent}}
use Rattle.grep_io.proofs.devices.byte_buffer.send_front.Goals as goal

pub returns-clause-sent : goal.returns-clause-sent
returns-clause-sent g c =
    let long = length-take-le c.args.end c.deref.result.now (omega arith) in
    let all : c.push_most-sent.result ≡ length (take c.args.end c.deref.result.now) = omega arith in
    front_sent _ _ c.args.out.now c.push_most-sent.new.out c.args.buffer.now.items _ c.push_most-sent.result _ (omega arith) (omega arith) c.if-sent-end.false (rw c.deref.ensures.value at c.push_most-sent.ensures.written) c.take_off.ensures.items (c.push_most-sent.ensures.none_failed all)

pub returns-then-sent-end-clause-sent : goal.returns-then-sent-end-clause-sent
returns-then-sent-end-clause-sent g c =
    let long = length-take-le c.args.end c.deref.result.now (omega arith) in
    some_sent _ _ c.args.out.now c.push_most-sent.new.out c.args.buffer.now.items c.push_most-sent.result c.args.end (omega arith) (rw c.deref.ensures.value at c.push_most-sent.ensures.written) c.take_off.ensures.items (c.push_most-sent.ensures.one_failed (omega arith))
