use Rattle.{grep_utility.proofs.{Prelude.{◌≡◌, rules, [], ap, ◌∙◌, append-nil}, lemmas.ServingLemmas.next_string}, re_syntax.{specs.Lines.lines_of, proofs.lemmas.LinesLaws.{all_none, lines_of-terminated}}}
use Rattle.grep_utility.proofs.searchers.many_strings.Goals as goal

pub loop-text-init : goal.loop-text-init
loop-text-init c = (tt, tt, ([], search rules, [], c.new-strings.ensures.items, all_none, ([], tt, λ line i j. (λ a. a, λ a. a))))

pub loop-text-preserved : goal.loop-text-preserved
loop-text-preserved c = (tt, tt, next_string _ _ _ _ _ _ _ _ (rw c.in-Some.ensures.steps at c.loop-text.invariant.2) c.in-Ok.ensures.read c.in_ok-add_strings.ensures)

pub loop-text-preserved-in_ok-add_strings : goal.loop-text-preserved-in_ok-add_strings
loop-text-preserved-in_ok-add_strings c = (tt, tt, next_string _ _ _ _ _ _ _ _ (rw c.in-Some.ensures.steps at c.loop-text.invariant.2) c.in-Ok.ensures.read c.in_ok-add_strings.ensures)

pub returns-clause-read : goal.returns-clause-read
returns-clause-read c =
    let (can, ends, (done, left, strings, is, lines, (patterns, are, read))) = c.loop-text.invariant in
    let all : done ≡ lines_of c.args.texts.now = cc (append-nil done, c.in-None.ensures.steps.0) in
    (patterns, rw all at are, rw (ap lines_of is ∙ lines_of-terminated strings lines) read)
