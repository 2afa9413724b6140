use Rattle.{grep_session.proofs.{Prelude.{◌≡◌, length, refl, sym, ◌∙◌, take_all, arith, take}, lemmas.{ColumnLemmas.{map_next, map_with_parts}, ReadingLemmas.reported_refused, RoomLemmas.{keep_none, keep_one}}}, grep_core.proofs.lemmas.MatcherLemmas.{refused_or_memory, AreMatchers-push, AreMatchers-none}}
use Rattle.grep_session.proofs.pattern_matchers.read_matchers.Goals as goal

pub loop-text-init : goal.loop-text-init
loop-text-init c = record {
  read = AreMatchers-none _ _ _ _ refl c.new-matchers.ensures.items;
  rooms = keep_none _ _ c.new-matchers.ensures.items;
}

pub loop-text-preserved : goal.loop-text-preserved
loop-text-preserved c =
    let next = map_next (λ text. text.items) c.args.texts.now c.loop-text.text-index c.text-item.result c.loop-text-test.true c.text-item.is in
    let meant = rw c.deref.ensures.value at c.in-Ok.ensures.meant in
    record {
      read = AreMatchers-push c.args.syntax c.args.options.now _ c.loop-text.matchers.items c.text-item.result.items c.loop-text.invariant.read _ c.push.new.all.items c.in-Ok.matcher next c.in-Ok-push.ensures.ok meant c.in-Ok.ensures.whole c.in-Ok.ensures.small;
      rooms = keep_one _ _ _ _ c.in-Ok-push.ensures.ok c.loop-text.invariant.rooms c.in-Ok.ensures.room;
    }

pub returns-in-Err-clause-err : goal.returns-in-Err-clause-err
returns-in-Err-clause-err c =
    let with_parts = map_with_parts (λ text. text.items) c.args.texts.now c.loop-text.text-index c.text-item.result c.loop-text-test.true c.text-item.is in
    let refused = rw c.deref.ensures.value at c.in-Err.ensures.refused in
    let place : length c.loop-text.matchers.items ≡ c.len.result = omega arith in
    let first = refused_or_memory c.args.syntax c.args.options.now.ignore_case _ c.text-item.result.items c.loop-text.invariant.read.readable _ _ with_parts c.in-Err.fault refused c.len.result (sym c.loop-text.invariant.read.counted ∙ place) in
    reported_refused _ c.fault_at.ensures first

pub returns-clause-ok : goal.returns-clause-ok
returns-clause-ok c =
    let all : take c.loop-text.text-index c.args.texts.now ≡ c.args.texts.now = take_all _ _ (omega arith) in
    rw all at c.loop-text.invariant.read
