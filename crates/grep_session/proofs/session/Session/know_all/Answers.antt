use Rattle.{grep_session.proofs.{Prelude.{◌∙◌, refl, map, kept_file}, lemmas.{EditLemmas.asked_session, FitLemmas.{known_fit, known_marks_are}}}, re_search.proofs.lemmas.KeptMatchers.none_asked}
use Rattle.grep_session.proofs.session.Session.know_all.Goals as goal

pub invariant_of-self : goal.invariant_of-self
invariant_of-self c =
    let s = c.self.inside in
    let files = map kept_file s.files.items in
    let known = c.know_all.ensures ∙ known_marks_are files s.marks.items c.self.invariant.fit in
    asked_session s _ refl refl c.self.invariant none_asked c.self.invariant.kept (rw known (known_fit files))

pub returns : goal.returns
returns c =
    let files = map kept_file c.self.inside.files.items in
    let known = c.know_all.ensures ∙ known_marks_are files c.self.inside.marks.items c.self.invariant.fit in
    rw (← c.self.view_is) (rw known)
