use Rattle.{grep_utility.proofs.{Prelude.{◌≡◌, rules, [], ◌∷◌, ◌++◌, length, sym, ap, ◌∙◌, append_assoc, IsPattern}, lemmas.ServingLemmas.patterns_meant}, re_syntax.specs.Lines.lines_of, std.proofs.lemmas.Slice.Zip.AllZip-long, grep_core.proofs.lemmas.MatcherLemmas.{AllZip-append, refused_or_memory}}
use Rattle.grep_utility.proofs.pattern_list.patterns_of.Goals as goal

pub loop-text-preserved : goal.loop-text-preserved
loop-text-preserved c =
    let s = c.loop-text.invariant in
    let text = c.in-Some.text.now in
    let left = append_assoc s.2 (text ∷ []) c.next.new.self ∙ ap (λ l. s.2 ++ l) (sym c.in-Some.ensures.steps) ∙ s.3 in
    (tt, tt, s.2 ++ text ∷ [], left, rw c.in-Ok-add_pattern.ensures (AllZip-append (IsPattern c.args.syntax c.args.fold) s.2 (text ∷ []) c.loop-text.patterns.items (c.in-Ok.pattern ∷ []) s.4 (c.in-Ok.ensures.read, tt)))

pub returns-in-Err-clause-err : goal.returns-in-Err-clause-err
returns-in-Err-clause-err c =
    let s = c.loop-text.invariant in
    let left = ap (λ l. s.2 ++ l) (sym c.in-Some.ensures.steps) ∙ s.3 in
    let place : length c.loop-text.patterns.items ≡ c.len.result = search rules in
    refused_or_memory c.args.syntax c.args.fold s.2 c.in-Some.text.now (patterns_meant c.args.syntax c.args.fold s.2 c.loop-text.patterns.items s.4).1 c.next.new.self (lines_of c.args.texts.now) left c.in-Err.fault c.in-Err.ensures.refused c.len.result
    (sym (AllZip-long (IsPattern c.args.syntax c.args.fold) s.2 c.loop-text.patterns.items s.4) ∙ place)
