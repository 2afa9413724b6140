use Rattle.grep_utility.proofs.{Prelude.{sym, ap, ◌∙◌, searched, display_name, texts_of}, lemmas.OperandLemmas.{length-sources_named, name-sources_named}}
use Rattle.grep_utility.proofs.operands.OperandsSources.name.Goals as goal

pub word_at-requires : goal.word_at-requires
word_at-requires g c =
    rw (length-sources_named (g.F.Files.folder c.args.self.now.start.value) (searched (texts_of c.args.self.now.words.now))) at c.requires

pub returns : goal.returns
returns g c =
    let start = g.F.Files.folder c.args.self.now.start.value in
    let words = searched (texts_of c.args.self.now.words.now) in
    let inside = rw (length-sources_named start words) at c.requires in
    c.display_name.ensures ∙ ap display_name c.word_at.ensures ∙ sym (name-sources_named start words c.args.k inside)
