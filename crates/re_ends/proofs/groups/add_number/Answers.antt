use Rattle.{re_ends.{proofs.{Prelude.{arith, ap, length, refl, set, sym, ◌+◌, ◌-◌, ◌++◌, ◌∷◌, [], ◌∙◌}, lemmas.ListLaws.{few_runs, run_added}}, specs.{declared.list.Run.Run, Working.Groups.{numbers, numbers_of}}}, std.proofs.lemmas.{Grind.flat_map-append, List.get_or_read_under}}
use Rattle.re_ends.proofs.groups.add_number.Goals as goal

pub returns-then-last-number-clause-added : goal.returns-then-last-number-clause-added
returns-then-last-number-clause-added c = λ room.
    let xs = c.args.runs.now.items in
    let k = c.len-count.result - 1 in
    let d = c.index_mut.result.now in
    let last = get_or_read_under xs k (length xs) c.index-last.result.now d c.index-last.ensures (omega (arith, c.len-count.ensures, c.args.runs.now.ok, c.if-count-gt0.true)) refl in
    ap (λ (r : Run). numbers_of (set xs k (record { first = r.first; more = r.more + 1 }))) c.index_mut.ensures.value ∙ run_added xs k d (omega (arith, c.len-count.ensures, c.args.runs.now.ok, c.if-count-gt0.true)) ∙ ap (λ n. numbers_of xs ++ n ∷ []) (ap (λ (r : Run). r.first + r.more + 1) (sym last) ∙ c.if-last-number.true)

pub returns-clause-added : goal.returns-clause-added
returns-clause-added c = λ room. ap numbers_of (rw (c.push.ensures.succeeds (omega (arith, few_runs c.args.runs.now.items, room, c.args.runs.now.ok))) at c.push.ensures.items) ∙ flat_map-append numbers c.args.runs.now.items (record { first = c.args.number; more = 0 } ∷ [])
