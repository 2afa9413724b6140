use Rattle.{grep_utility.proofs.{Prelude.{false≢true, map, ap, ◌∙◌, arith, length-map, alt}, lemmas.GroupLemmas.{choice_closes, not_none}}, re_syntax.specs.Working.Trees.expression_of, grep_core.proofs.lemmas.SameChoice.alt-is_same}
use Rattle.grep_utility.proofs.joined.Groups.close.Goals as goal

pub returns-clause-closed : goal.returns-clause-closed
returns-clause-closed c es g =
    let choice = c.args.self.now.choice in
    let means = c.in_ok-matcher.ensures.expression ∙ ap (λ ts. alt (map expression_of ts)) c.replace-choice.ensures.value in
    choice_closes _ es c.args.self.now.matchers.items (map expression_of choice) g c.in_ok-matcher.matcher _ c.in_ok-push.ensures.items (omega (arith, not_none choice (λ none. false≢true (c.if-is_empty.ensures.1 none)), length-map choice expression_of)) (rw means (alt-is_same (map expression_of choice))) c.in_ok-matcher.ensures.whole c.in_ok-matcher.ensures.room
