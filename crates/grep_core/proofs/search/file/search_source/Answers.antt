use Rattle.grep_core.proofs.{Prelude.{◌+◌, [], Ok, refl, ap, ◌∙◌, Bor, Text, Numbered, Missing, writer, count_more, source_at}, lemmas.{SourceLaws.gives_both, OpenedLemmas.{source_missing, source_unread, given_in}, SummaryLemmas.source_ended_as}}
use Rattle.grep_core.proofs.search.file.search_source.Goals as goal

pub returns-in_default-clause-given : goal.returns-in_default-clause-given
returns-in_default-clause-given g c =
    let w = c.args.source.now in
    let named = ap (λ (b : Bor Text). b.now) c.of_file-missing.ensures.name ∙ c.name.ensures ∙ ap (λ l. (source_at l w.place).name) c.open.ensures.listed in
    source_ended_as _ _ _ _ _ _ named _ _ _ (writer g.W.CountedWrite.contents g.W.CountedWrite.failures c.args.out.now) c.of_file-missing.ensures.options c.of_file-missing.ensures.many (Ok (record { end = Missing; selected = 0 })) _
    (source_missing _ _ _ _ _ _ _ _ _ c.in_default.ensures.given.0 c.in_default.ensures.given.1 c.open.ensures.none_back) c.end_source.ensures

pub returns-in-Err-clause-given : goal.returns-in-Err-clause-given
returns-in-Err-clause-given g c =
    let opened = c.in-Some.ensures.given in
    let counted = c.close.ensures.counted ∙ (λ i. count_more (opened.3 i) (g.S.Reader.CountedRead.failures (c.in-Err.ensures.err i))) ∙ ap (count_more (g.S.Sources.failures c.args.sources.now)) opened.2 in (
      refl {a = c.args.source.now.place},
      source_unread _ _ _ _ _ _ _ _ counted _ (ap g.S.Reader.CountedRead.remaining c.in-Err.ensures.err ∙ opened.1) (gives_both g.S.Sources.returned_readers c.args.sources.now c.open.new.self c.close.new.self [] _ c.open.ensures.none_back c.close.ensures.back),
      refl {a = writer g.N.CountedWrite.contents g.N.CountedWrite.failures c.args.messages.now},
    )

pub returns-clause-given : goal.returns-clause-given
returns-clause-given g c =
    let w = c.args.source.now in
    let opened = c.in-Some.ensures.given in
    let named = ap (λ (b : Bor Text). b.now) c.of_file-request.ensures.name ∙ c.name-2.ensures ∙ ap (λ l. (source_at l w.place).name) c.open.ensures.listed in
    let counted = c.close-2.ensures.counted ∙ (λ i. count_more (opened.3 i) (g.S.Reader.CountedRead.failures (c.into_reader.ensures i))) in
    let gives = rw (ap g.S.Reader.CountedRead.remaining c.into_reader.ensures) at
    (gives_both g.S.Sources.returned_readers c.args.sources.now c.open.new.self c.close-2.new.self [] _ c.open.ensures.none_back c.close-2.ensures.back) in
    source_ended_as _ _ _ _ _ _ named _ _ _ (writer g.W.CountedWrite.contents g.W.CountedWrite.failures c.search_opened-found.new.out) c.of_file-request.ensures.options c.of_file-request.ensures.many c.search_opened-found.result _
    (given_in g.S.Reader.CountedRead.remaining g.S.Reader.CountedRead.failures _ _ _ _ _ _ _ gives opened.0 opened.1 opened.2 c.in-Ok.lines.lines (ap (λ (n : Numbered _). n.lines.reader) c.in-Ok.ensures.ok) named _ _ _ _ (g.S.Sources.failures c.args.sources.now) _ counted _ c.search_opened-found.ensures.given) c.end_source-ended.ensures

pub returns-clause-same : goal.returns-clause-same
returns-clause-same g c = c.search_opened-found.ensures.same

pub returns-clause-same_loan : goal.returns-clause-same_loan
returns-clause-same_loan g c = c.close-2.ensures.same_loan ∙ c.open.ensures.same_loan

pub returns-clause-next : goal.returns-clause-next
returns-clause-next g c = c.close-2.ensures.same_place (c.args.source.now.place + 1) c.open.ensures.next

pub search_opened-found-requires-clause-alike : goal.search_opened-found-requires-clause-alike
search_opened-found-requires-clause-alike g c = rw c.of_file-request.ensures.options c.requires.alike

pub search_opened-found-requires-clause-still_open : goal.search_opened-found-requires-clause-still_open
search_opened-found-requires-clause-still_open g c = ap (λ (n : Numbered _). n.lines.stage) c.in-Ok.ensures.ok
