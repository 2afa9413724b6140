use Rattle.{occur.proofs.{Prelude.{rules, ◌∙◌, sym, codes, arith, ExplainsUnsignedError, HasUnsignedDigitsIfOk, ParsesUnsigned}, lemmas.StatesLemmas.unsigned_reads}, clap.{specs.Words.found_of, proofs.WalkLemmas.{first_value-rows, one_text-rows}}}
use Rattle.occur.proofs.words.request_of.Goals as goal

pub returns-clause-found : goal.returns-clause-found
returns-clause-found c =
    let found = found_of c.args.matches.now in
    let text = c.requires.0 in
    let one = c.get_one.ensures.value text c.requires.1 in
    let got = unsigned_reads _ (λ bs r. ParsesUnsigned 64 10 bs r × ExplainsUnsignedError 10 bs r × HasUnsignedDigitsIfOk bs r) 64 1 65536 text
    c.get_one.result one (λ u x g. g.0) (omega arith) c.requires.2 in
    record {
      number = text;
      has_number = sym (one_text-rows found (codes "states")) ∙ c.requires.1;
      states = search (rules, got);
      script = search (rules, first_value-rows found (codes "script"));
    }
