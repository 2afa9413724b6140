use Rattle.grep_session.proofs.{Prelude.{◌≡◌, [], map, get_or, MatchOption, refl, File, Selected, Hit, ListedParts, span_places}, lemmas.{CountLemmas.of_file, LookingLemmas.{there, file_is}, SessionLemmas.inputs_are}}
use Rattle.grep_session.proofs.session.Session.hit.Goals as goal

pub hit-requires : goal.hit-requires
hit-requires c =
    let here = rw (← inputs_are c.self.view_is) at c.requires in
    rw (file_is c.self.inside.files.items c.args.k c.args.place c.index.result.now here c.index.ensures) at here

pub returns : goal.returns
returns c =
    let here = rw (← inputs_are c.self.view_is) at c.requires in
    of_file
    (λ es options (file : File). MatchOption c.hit.result (Selected es options (get_or file.lines c.args.place []) → ⊥)
    (λ (hit : Hit). Selected es options (get_or file.lines c.args.place []) × (hit.text.now ≡ get_or file.lines c.args.place []) × ListedParts es options (get_or file.lines c.args.place []) (map span_places hit.parts.now)))
    c.args.k c.self.invariant (inputs_are c.self.view_is) refl (there c.self.inside.files.items c.args.k c.args.place here) c.index.ensures c.hit.ensures
