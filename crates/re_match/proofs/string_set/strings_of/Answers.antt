use Rattle.{re_match.proofs.Prelude.{List, ◌++◌, map, sym, ap, ◌∙◌, append-nil, Text, lines_of}, re_strings.proofs.lemmas.SetSorted.{sorted_ascends, same_strings}}
use Rattle.re_match.proofs.string_set.strings_of.Goals as goal

pub returns-clause-ordered : goal.returns-clause-ordered
returns-clause-ordered c = sorted_ascends (λ s. s.now) c.sort.new.self.items c.in_ok-sort.ensures.sorted

pub returns-clause-same : goal.returns-clause-same
returns-clause-same c =
    let all =
    sym (append-nil (map (λ s. s.now) c.lines.strings.items)) ∙ ap (λ (l : List Text). map (λ s. s.now) c.lines.strings.items ++ l) (sym c.in-None.ensures.steps.0) ∙ c.lines.invariant.2 in
    same_strings (λ s. s.now) c.lines.strings.items c.sort.new.self.items (lines_of c.args.texts.now) c.sort.ensures.permutation all
