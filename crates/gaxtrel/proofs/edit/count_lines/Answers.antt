use Rattle.gaxtrel.proofs.{Prelude.{rules, length, ◌+◌, ◌<◌, ◌^◌, inl, ap, arith}, CommandLemmas.few_lines}
use Rattle.gaxtrel.proofs.edit.count_lines.Goals as goal

pub count-requires-clause-fits : goal.count-requires-clause-fits
count-requires-clause-fits c =
    let short : length c.args.text.now < 2 ^ 64 = search rules in
    let fits : 0 + length c.split_file.result < 2 ^ 64 = omega (arith, ap length c.split_file.ensures, few_lines c.args.text.now) in
    inl fits
