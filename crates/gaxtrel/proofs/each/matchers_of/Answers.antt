use Rattle.{gaxtrel.proofs.Prelude.{◌≡◌, ◌∙◌, ◌≤◌, [], ◌∷◌, ◌++◌, ap, append_assoc, arith, length, map, refl, rules, sym, map-append, All-push, lines_of, room_of, most_kept}, grep_core.proofs.lemmas.MatcherLemmas.{AreMatchers-push, refused_or_memory}}
use Rattle.gaxtrel.proofs.each.matchers_of.Goals as goal

pub loop-text-preserved : goal.loop-text-preserved
loop-text-preserved c =
    let s = c.loop-text.invariant in
    let text = c.in-Some.text.now in
    let left = append_assoc s.2 (text ∷ []) c.next.new.self ∙ ap (λ l. s.2 ++ l) (sym c.in-Some.ensures.steps) ∙ s.3 in (
      tt,
      tt,
      s.2 ++ text ∷ [],
      left,
      AreMatchers-push c.args.syntax c.args.options.now s.2 c.loop-text.matchers.items text s.4 _ _ c.in-Ok.matcher refl c.in-Ok-add.ensures c.in-Ok.ensures.meant c.in-Ok.ensures.whole c.in-Ok.ensures.small,
      rw c.in-Ok-add.ensures (rw (map-append room_of c.loop-text.matchers.items (c.in-Ok.matcher ∷ [])) (All-push (λ n. n ≤ most_kept) (map room_of c.loop-text.matchers.items) (room_of c.in-Ok.matcher) s.5 (omega (arith, c.in-Ok.ensures.room)))),
    )

pub returns-in-Err-clause-refused : goal.returns-in-Err-clause-refused
returns-in-Err-clause-refused c =
    let s = c.loop-text.invariant in
    let left = ap (λ l. s.2 ++ l) (sym c.in-Some.ensures.steps) ∙ s.3 in
    let place : length c.loop-text.matchers.items ≡ c.len.result = search rules in
    refused_or_memory c.args.syntax c.args.options.now.ignore_case s.2 c.in-Some.text.now s.4.readable c.next.new.self (lines_of c.args.texts.now) left c.in-Err.fault c.in-Err.ensures.refused c.len.result (sym s.4.counted ∙ place)
