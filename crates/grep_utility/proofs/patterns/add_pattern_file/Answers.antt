use Rattle.{grep_utility.proofs.{Prelude.{[], ◌∷◌, refl, not_opened, source_named}, lemmas.SourceLemmas.{file_whole, file_broken}}, grep_core.proofs.lemmas.SourceLaws.gives_both}
use Rattle.grep_utility.proofs.patterns.add_pattern_file.Goals as goal

pub returns-in-Ok-true-clause-ok : goal.returns-in-Ok-true-clause-ok
returns-in-Ok-true-clause-ok g c =
    let opened = c.in-Some.ensures.opened in
    file_whole g.F.Reader.CountedRead.remaining g.F.Reader.CountedRead.failures (source_named (g.F.Files.folder c.args.files.now) c.args.word.now) _ _ opened.0 opened.1 opened.2 _ _
    (cc (c.close.ensures.counted, opened.3))
    _ _ (rw (c.in-Ok-true.is, c.in-Ok-true.field-0-test) at c.add_all_lines-reader.ensures.ok)

pub returns-in-Ok-false-clause-err : goal.returns-in-Ok-false-clause-err
returns-in-Ok-false-clause-err g c =
    let opened = c.in-Some.ensures.opened in
    file_broken g.F.Reader.CountedRead.remaining g.F.Reader.CountedRead.failures (source_named (g.F.Files.folder c.args.files.now) c.args.word.now) _ _ opened.0 opened.1 opened.2 _ _
    (cc (c.close.ensures.counted, opened.3))
    _ _ (rw (c.in-Ok-false.is, c.in-Ok-false.field-0-test) at c.add_all_lines-reader.ensures.ok)

pub returns-in-Ok-true-clause-back : goal.returns-in-Ok-true-clause-back
returns-in-Ok-true-clause-back g c =
    (_, gives_both g.F.Files.returned_readers c.args.files.now c.open_named.new.files c.close.new.self [] (g.F.Reader.CountedRead.remaining c.add_all_lines-reader.result.0 ∷ []) c.open_named.ensures.none_back c.close.ensures.back)

pub returns-in_default-clause-err : goal.returns-in_default-clause-err
returns-in_default-clause-err g c = let opened = c.in_default.ensures.opened in (1, (not_opened, opened.0, refl), opened.1)
