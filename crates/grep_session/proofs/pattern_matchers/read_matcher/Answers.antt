use Rattle.{grep_session.proofs.{Prelude.{[], ◌∷◌, refl}, lemmas.{ReadingLemmas.reported_refused, RoomLemmas.{keep_none, keep_one}}}, grep_core.proofs.lemmas.MatcherLemmas.{AreMatchers-none, AreMatchers-push, refused_or_memory}}
use Rattle.grep_session.proofs.pattern_matchers.read_matcher.Goals as goal

pub returns-in-Ok-clause-ok : goal.returns-in-Ok-clause-ok
returns-in-Ok-clause-ok c =
    AreMatchers-push c.args.syntax c.args.options.now [] [] c.args.text.now (AreMatchers-none c.args.syntax c.args.options.now [] [] refl refl) (c.args.text.now ∷ []) (c.in-Ok.matcher ∷ []) c.in-Ok.matcher refl refl c.in-Ok.ensures.meant c.in-Ok.ensures.whole c.in-Ok.ensures.small

pub returns-in-Ok-clause-rooms : goal.returns-in-Ok-clause-rooms
returns-in-Ok-clause-rooms c = keep_one c.args.states [] c.in-Ok.matcher (c.in-Ok.matcher ∷ []) refl (keep_none c.args.states [] refl) c.in-Ok.ensures.room

pub returns-in-Err-clause-err : goal.returns-in-Err-clause-err
returns-in-Err-clause-err c =
    let first = refused_or_memory c.args.syntax c.args.options.now.ignore_case [] c.args.text.now (AreMatchers-none c.args.syntax c.args.options.now [] [] refl refl).readable [] (c.args.text.now ∷ []) refl c.in-Err.fault c.in-Err.ensures.refused 0 refl in
    reported_refused 0 c.fault_at.ensures first
