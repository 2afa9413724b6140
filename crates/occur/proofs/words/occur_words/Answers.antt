use Rattle.occur.proofs.{Prelude.texts_of, lemmas.FormsLemmas.{reads_form, reads_help, reads_version}}
use Rattle.occur.proofs.words.occur_words.Goals as goal

pub returns-clause-forms : goal.returns-clause-forms
returns-clause-forms c name number script =
    reads_form (texts_of c.args.words.now) c.parse_words.result c.parse_words.ensures.chosen c.parse_words.ensures.faults name number script

pub returns-clause-help : goal.returns-clause-help
returns-clause-help c name = reads_help (texts_of c.args.words.now) c.parse_words.result c.parse_words.ensures.faults name

pub returns-clause-version : goal.returns-clause-version
returns-clause-version c name = reads_version (texts_of c.args.words.now) c.parse_words.result c.parse_words.ensures.faults name
