use Rattle.grep_session.proofs.Prelude.{[], ◌∷◌, ◌++◌, map, sym, ap, ◌∙◌, append_assoc, map-append}
use Rattle.grep_session.proofs.patterns.texts_of.Goals as goal

pub loop-part-preserved : goal.loop-part-preserved
loop-part-preserved c =
    let done = map (λ text. text.items) c.loop-part.texts.items in
    let more = ap (map (λ text. text.items)) c.in_ok-push.ensures.ok ∙ map-append (λ text. text.items) c.loop-part.texts.items (c.in_ok-text.text ∷ []) ∙ ap (λ t. done ++ t ∷ []) c.in_ok-text.ensures.items in
    (tt, tt, ap (λ l. l ++ c.next.new.self) more ∙ append_assoc done (c.in-Some.part.now ∷ []) c.next.new.self ∙ ap (λ l. done ++ l) (sym c.in-Some.ensures.steps) ∙ c.loop-part.invariant.2)
