use Rattle.grep_utility.proofs.{Prelude.{ap, ◌∙◌, searched, after_use, texts_of}, lemmas.OperandLemmas.{length-sources_named, StandsAt-next}}
use Rattle.grep_utility.proofs.operands.OperandsSources.open.Goals as goal

pub word_at-requires : goal.word_at-requires
word_at-requires g c =
    rw (length-sources_named (g.F.Files.folder c.args.self.now.start.value) (searched (texts_of c.args.self.now.words.now))) at c.requires.place

pub returns-clause-next : goal.returns-clause-next
returns-clause-next g c =
    let start = g.F.Files.folder c.args.self.now.start.value in
    let now = g.F.Files.folder c.args.self.now.files.now in
    let words = searched (texts_of c.args.self.now.words.now) in
    let inside = rw (length-sources_named start words) at c.requires.place in
    let next = StandsAt-next start now words c.args.k inside c.requires.in_order in
    rw (c.open_named.ensures.used ∙ ap (after_use now) c.word_at.ensures) next.1
