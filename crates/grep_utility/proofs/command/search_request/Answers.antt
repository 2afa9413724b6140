use Rattle.{grep_utility.proofs.{Prelude.{rules, [], Returns}, lemmas.CommandLemmas.given_ends}, grep_core.proofs.lemmas.SourceLaws.gives_both}
use Rattle.grep_utility.proofs.command.search_request.Goals as goal

pub returns : goal.returns
returns g c =
    let returned = g.F.Files.returned_readers in
    let old = c.args.files.now in
    let start = c.new-operands.result.files.now in
    let end = c.search_sources-status.new.sources.files.now in
    let begun : Returns returned old start [] = search (rules, c.begin_search.ensures.none_back) in
    let ends = given_ends _ _ _ (Returns returned old end) (λ left h. gives_both returned old start end [] left begun h) _ _ _ _ c.search_sources-status.ensures.ends in
    search (rules, ends)
