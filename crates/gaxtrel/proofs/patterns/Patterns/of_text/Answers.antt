use Rattle.{gaxtrel.proofs.{Prelude.{[], ◌∷◌, refl, All-cons, All-nil, IsReadable, matched_expression}, ServedLemmas.serves_itself}, grep_core.proofs.lemmas.MatcherLemmas.refused_or_memory}
use Rattle.gaxtrel.proofs.patterns.Patterns.of_text.Goals as goal

pub returns-clause-made : goal.returns-clause-made
returns-clause-made c =
    let e = matched_expression c.in-Ok.matcher in
    let readable = IsReadable c.args.syntax c.args.options.now.fold in
    record {
      es = e ∷ [];
      meant = (c.in-Ok.ensures.meant, tt);
      readable = All-cons readable c.args.text.now [] (e, c.in-Ok.ensures.meant, c.in-Ok.ensures.small) (All-nil readable);
      is_apart = refl;
      is_limited = refl;
      serves = serves_itself _ _ _ (rw c.in-Ok-alone.ensures);
    }

pub returns-in-Err-clause-refused : goal.returns-in-Err-clause-refused
returns-in-Err-clause-refused c =
    let readable = IsReadable c.args.syntax c.args.options.now.fold in
    refused_or_memory c.args.syntax c.args.options.now.fold [] c.args.text.now (All-nil readable) [] (c.args.text.now ∷ []) refl c.in-Err.fault c.in-Err.ensures.refused 0 refl
