use Rattle.grep_core.specs.Run.{writer}
use Rattle.grep.proofs.run.Goals as goal

pub returns : goal.returns
returns g c = record {
  found = c.run_grep-found.result;
  out = c.run_grep-found.new.out;
  messages = writer g.M.CountedWrite.contents g.M.CountedWrite.failures c.run_grep-found.new.messages;
  command = c.run_grep-found.ensures;
  ended = c.finish-ended.result;
  reported = writer g.M.CountedWrite.contents g.M.CountedWrite.failures c.finish-ended.new.messages;
  ends = c.finish-ended.ensures;
  sends = c.send_messages.ensures;
}
