use Rattle.{grep_session.proofs.{Prelude.{refl, map, All-push, matched_expression, IsFileKept}, lemmas.{EditLemmas.{asked_session, left_session}, FitLemmas.fit_pushed}}, re_search.proofs.lemmas.KeptMatchers.none_asked}
use Rattle.grep_session.proofs.session.Session.add_missing.Goals as goal

pub invariant_of-self : goal.invariant_of-self
invariant_of-self c = left_session _ _ refl refl c.self.invariant none_asked c.in-Err.ensures.err.0 c.in-Err.ensures.err.1

pub invariant_of-self-2 : goal.invariant_of-self-2
invariant_of-self-2 c =
    let s = c.self.inside in
    let Kept = IsFileKept (map matched_expression s.matchers.items) s.options in
    asked_session s _ refl refl c.self.invariant none_asked (rw c.in-Ok.ensures.ok.0 (All-push Kept s.files.items _ c.self.invariant.kept tt))
    (fit_pushed s.files.items s.marks.items _ _ _ c.in-Ok.ensures.ok.0 c.in-Ok.ensures.ok.1 c.self.invariant.fit)
