use Rattle.{grep_session.proofs.{Prelude.{Ok, refl, inl, map, arith, ap, length-map, with_files, matched_expression, IsFileKept, kept_file, inputs_of}, lemmas.{DroppingLemmas.All-remove, SessionLemmas.map-remove, EditLemmas.asked_session, FitLemmas.{as_many, fit_as, fit_dropped}}}, re_search.proofs.lemmas.KeptMatchers.none_asked}
use Rattle.grep_session.proofs.session.Session.drop_file.Goals as goal

pub returns-clause-gives : goal.returns-clause-gives
returns-clause-gives c =
    rw (← c.self.view_is) (inl (omega (arith, length-map c.self.inside.files.items kept_file), ap (λ fs. Ok (with_files fs (inputs_of c.self.inside))) (map-remove kept_file _ _ _ c.remove.ensures.items)))

pub invariant_of-self : goal.invariant_of-self
invariant_of-self c =
    let s = c.self.inside in
    let Kept = IsFileKept (map matched_expression s.matchers.items) s.options in
    asked_session s _ refl refl c.self.invariant none_asked (rw c.remove.ensures.items (All-remove Kept _ _ c.self.invariant.kept))
    (fit_as _ _ _ _ (map-remove kept_file _ _ _ c.remove.ensures.items) c.remove-2.ensures.items
    (fit_dropped (map kept_file s.files.items) s.marks.items c.self.invariant.fit c.args.k))

pub remove-requires-2 : goal.remove-requires-2
remove-requires-2 c =
    let s = c.self.inside in
    omega (arith, length-map s.files.items kept_file, as_many (map kept_file s.files.items) s.marks.items c.self.invariant.fit)
