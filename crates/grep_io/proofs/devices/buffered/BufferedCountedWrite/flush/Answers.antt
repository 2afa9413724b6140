use Rattle.grep_io.proofs.lemmas.BufferLemmas.{flushed, none_waits_after, stops_with_none}
use Rattle.grep_io.proofs.devices.buffered.BufferedCountedWrite.flush.Goals as goal

pub returns-in-Ok-clause-kept : goal.returns-in-Ok-clause-kept
returns-in-Ok-clause-kept g c = flushed _ _ c.args.self.now c.self.inside.inner c.flush.new.self c.self.inside.buffer.items c.flush.result (rw (← c.self.view_is) at c.in-Ok.ensures) c.flush.ensures.kept

pub returns-in-Err-clause-kept : goal.returns-in-Err-clause-kept
returns-in-Err-clause-kept g c = stops_with_none _ _ c.in-Err.ensures

pub returns-in-Ok-clause-sent : goal.returns-in-Ok-clause-sent
returns-in-Ok-clause-sent g c = none_waits_after _ _ g.W.CountedWrite.waiting c.flush.new.self c.self.inside.buffer.items c.flush.result (rw (← c.self.view_is) at c.in-Ok.ensures) c.flush.ensures.sent
