use Rattle.{occur.proofs.{Prelude.{◌∙◌, ap, sym, is_simple_and_free, texts_of}, lemmas.StatesLemmas.states_found}, clap.specs.Words.fault_of}
use Rattle.occur.proofs.words.parse_words.Goals as goal

pub request_of-requires : goal.request_of-requires
request_of-requires c = states_found _ c.in_ok-matches.matches c.in_ok-occur_command.ensures c.in_ok-matches.ensures.parsed

pub returns-clause-faults : goal.returns-clause-faults
returns-clause-faults c =
    let is = c.in_ok-occur_command.ensures in
    ap (λ a. fault_of a (texts_of c.args.words.now)) (sym is) ∙ c.in_ok-matches.ensures.kinds (ap is_simple_and_free is)
