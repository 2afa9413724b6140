use Rattle.re_runs.proofs.Prelude.{◌≡◌, ◌%◌, length, get_or, refl, ◌∙◌, arith, take, ◌++◌, get_or-take, length-take-le, get_or-map-range_with_len, get_or_append_left}
use Rattle.re_runs.proofs.lanes.twice.Goals as goal

pub returns : goal.returns
returns c =
    let half = take 16 c.args.table.now in let long : length half ≡ 16 = length-take-le 16 _ (omega arith) in
    record {
      long = refl;
      each = λ k l.
          get_or-map-range_with_len (λ j. get_or (half ++ half) (j % 16) 0) 0 32 k k 0 l (omega arith) ∙ get_or_append_left half half 0 (k % 16) (omega arith) ∙ get_or-take 16 _ (k % 16) 0 (omega arith);
    }
