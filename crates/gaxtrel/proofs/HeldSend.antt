-- Patterns and a session may go to another thread.
use denote.Param.Send.{IsSend, sendable}
use Rattle.re_auto.proofs.tables.Tables.TheSendSync as tables
use Rattle.re_match.below.re_ends.proofs.table.EndTable.TheSendSync as ends
use Rattle.re_match.below.re_steps.proofs.sets.SetPair.TheSendSync as sets
use Rattle.re_match.below.re_steps.proofs.table.StepTable.TheSendSync as table
use Rattle.re_match.proofs.prefilter.Prefilter.TheSendSync as prefilter
use Rattle.re_match.proofs.strings.Strings.TheSendSync as strings
use Rattle.re_trees.proofs.bytes.ByteSet.TheSendSync as byte_set
use Rattle.re_trees.proofs.tree.Tree.TheLaws.TheKnot
use Rattle.std_alloc.proofs.boxed.Box.TheSendSync as box
use Rattle.std.below.std_heap.proofs.GlobalAllocator.TheSendSync as heap
use Rattle.std.proofs.Crossing
use Rattle.std.proofs.MapsCrossing
use Rattle.std.proofs.alloc.Global.TheSendSync as global
use Rattle.grep_session.proofs.kept.KeptFile.TheSendSync as kept
use Rattle.line_marks.proofs.mark.Mark.TheSendSync as mark
use Rattle.re_match.specs.contracts.cached.Cached as cached_row
use Rattle.re_search.specs.contracts.matcher.Matcher as matcher_row
use Rattle.grep_session.specs.contracts.session.Session as session_row
use Rattle.grep_cmd.specs.contracts.script.Script as script_row
use Rattle.gaxtrel.specs.contracts.held.Held as kind

cached : IsSend cached_row.the_row
cached =
    search (
      tables.the_field_send,
      ends.the_field_send,
      sets.the_field_send,
      table.the_field_send,
      prefilter.the_field_send,
      byte_set.the_field_send,
      global.the_field_send,
      MapsCrossing.crosses,
      Crossing.crosses,
      TheKnot.crosses,
      sendable,
    ) depth 60 fits 20000

matcher : IsSend matcher_row.the_row
matcher = search (strings.the_send, cached, box.the_send, global.the_send, heap.the_frees, sendable) depth 60 fits 20000

session : IsSend session_row.the_row
session = search (matcher, kept.the_field_send, mark.the_send, global.the_field_send, Crossing.crosses, sendable) depth 60 fits 20000

script : IsSend script_row.the_row
script = search (session, sendable) depth 60 fits 20000

pub held : IsSend kind.the_row
held = search (matcher, script, Crossing.crosses, sendable) depth 60 fits 20000
