use Rattle.{grep_utility.proofs.{Prelude.{[], ◌++◌, map, refl, ap, ◌∙◌, arith, append_assoc, append-nil, drop_all, given_source}, lemmas.SourceLemmas.{each_more, next_source, sources_more, sources_stop, sources_all}}, grep_core.proofs.lemmas.SourceLaws.gives_both}
use Rattle.grep_utility.proofs.patterns.read_patterns.Goals as goal

pub returns-in-Err-clause-err : goal.returns-in-Err-clause-err
returns-in-Err-clause-err g c =
    let s = c.loop-source.invariant in
    let start = g.F.Files.folder c.args.files.now in
    let all = map given_source c.args.sources.now in
    let now = g.F.Files.folder c.loop-source.files in
    let here = next_source c.args.sources.now c.loop-source.source-index _ c.loop-source-test.true c.source-item.is in
    let so_far = rw here at s.so_far in
    sources_stop start all now _ _ _ so_far _ _ _ s.none_failed c.in-Err.fault c.in-Err.ensures.err

pub loop-source-preserved : goal.loop-source-preserved
loop-source-preserved g c =
    let s = c.loop-source.invariant in
    let start = g.F.Files.folder c.args.files.now in
    let all = map given_source c.args.sources.now in
    let now = g.F.Files.folder c.loop-source.files in
    let here = next_source c.args.sources.now c.loop-source.source-index _ c.loop-source-test.true c.source-item.is in
    let so_far = rw here at s.so_far in
    let own = c.in-Ok.ensures.back in
    let more = sources_more start all now _ _ _ so_far c.add_source.new.texts.items c.in-Ok.ensures.ok.0 in
    record {
      so_far = rw c.in-Ok.ensures.used more;
      none_failed = c.in-Ok.ensures.ok.1 ∙ s.none_failed;
      back = (
        s.back.0 ++ own.0,
        λ others h. rw (append_assoc s.back.0 own.0 others) (s.back.1 (own.0 ++ others) (rw here (each_more _ _ own.0 others own.1 h))),
        gives_both g.F.Files.returned_readers c.args.files.now c.loop-source.files c.add_source.new.files s.back.0 own.0 s.back.2 own.2,
      );
    }

pub returns-clause-ok : goal.returns-clause-ok
returns-clause-ok g c =
    let start = g.F.Files.folder c.args.files.now in
    let all = map given_source c.args.sources.now in
    let now = g.F.Files.folder c.loop-source.files in
    let none = ap (map given_source) (drop_all c.loop-source.source-index c.args.sources.now (omega arith)) in
    sources_all start all now c.loop-source.texts.items (rw none at c.loop-source.invariant.so_far)

pub returns-clause-back : goal.returns-clause-back
returns-clause-back g c =
    let s = c.loop-source.invariant in
    let none = ap (map given_source) (drop_all c.loop-source.source-index c.args.sources.now (omega arith)) in
    (s.back.0, rw (append-nil s.back.0) at (s.back.1 [] (rw none refl)), s.back.2)
