use Rattle.grep_utility.proofs.{Prelude.{[], ◌∷◌, ◌++◌, refl, ap, ◌∙◌, newline, IfOk-weaker}, lemmas.SourceLemmas.list_added}
use Rattle.grep_utility.proofs.patterns.add_source.Goals as goal

pub returns-in-Ok-clause-ok : goal.returns-in-Ok-clause-ok
returns-in-Ok-clause-ok g c =
    let folder = g.F.Files.folder c.args.files.now in
    let added = c.in-Ok.ensures ∙ ap (λ t. c.args.texts.now.items ++ (t ++ newline ∷ [])) c.as_bytes.ensures.value in
    (rw c.in-List.is (list_added folder c.args.texts.now.items _ _ added), refl)

pub returns-in-File-clause-back : goal.returns-in-File-clause-back
returns-in-File-clause-back g c = IfOk-weaker c.add_pattern_file.result _ _ (λ x h. (h.0 ∷ [], rw c.in-File.is (h.0, [], refl, refl), h.1)) c.add_pattern_file.ensures.back

pub returns-in-File-clause-ok : goal.returns-in-File-clause-ok
returns-in-File-clause-ok g c = rw (c.in-File.is, ← c.deref.ensures) c.add_pattern_file.ensures.ok

pub returns-in-File-clause-err : goal.returns-in-File-clause-err
returns-in-File-clause-err g c = rw (c.in-File.is, ← c.deref.ensures) c.add_pattern_file.ensures.err
