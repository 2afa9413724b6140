use Rattle.grep_session.proofs.{Prelude.{false, ◌≡◌, nil_from_length, length-map, [], length, map, ap, ◌∙◌, arith, into_iter_items, matched_expression, all_of, line_text, with_columns, anew, SearchesEach, IsKept}, lemmas.{FoundLemmas.{fit_all, right_all, texts_with_columns, all_by_chunk}, ChangeLemmas.{all_anew, new_kept}, StepLemmas.not_searched}, search.search_new.Goals.{After-anew, After-find_in_lines}}
use Rattle.grep_session.proofs.search.search_new.Goals as goal

pub returns-then-len-eq0-clause-steps : goal.returns-then-len-eq0-clause-steps
returns-then-len-eq0-clause-steps c = not_searched _ _ _ _ _ _ _

-- all patterns came
all_came : (c : After-anew) → c.anew.result ≡ anew 0 (length (map matched_expression c.args.matchers.now.items))
all_came c = c.anew.ensures ∙ ap (anew 0) (let many : c.len-2.result ≡ length (map matched_expression c.args.matchers.now.items) = omega (arith, length-map c.args.matchers.now.items matched_expression) in many)

-- the steps of the search
spent : (c : After-find_in_lines) → let es = map matched_expression c.args.matchers.now.items in c.anew.result ≡ anew 0 (length es) → SearchesEach (anew 0 (length es)) [] es es c.args.options.now c.args.given c.args.meter.now c.find_in_lines.new.meter
spent c is =
    let es = map matched_expression c.args.matchers.now.items in
    let steps = rw is at c.find_in_lines.ensures.steps in
    rw c.kept_of-lines.ensures.same at (steps (all_anew [] es (record c.args.options.now { only_matching = false }) c.args.options.now) (new_kept c.args.options.now _ c.kept_of-lines.ensures.new))

pub returns-in_err-find_in_lines-clause-steps : goal.returns-in_err-find_in_lines-clause-steps
returns-in_err-find_in_lines-clause-steps c = spent (goal.at.returns-in_err-find_in_lines-clause-steps c).After-find_in_lines (all_came (goal.at.returns-in_err-find_in_lines-clause-steps c).After-anew)

pub returns-clause-steps : goal.returns-clause-steps
returns-clause-steps c = spent (goal.at.returns-clause-steps c).After-find_in_lines (all_came (goal.at.returns-clause-steps c).After-anew)

pub returns-in_err-find_in_lines-clause-memory : goal.returns-in_err-find_in_lines-clause-memory
returns-in_err-find_in_lines-clause-memory c = λ e.
    let none = nil_from_length (all_of c.kept_of-lines.result) (cc (length-map (all_of c.kept_of-lines.result) line_text, c.kept_of-lines.ensures.same ∙ e)) in
    absurd (omega (arith, ap length none))

pub put_columns-requires : goal.put_columns-requires
put_columns-requires c =
    let a = c.in_ok-find_in_lines.ensures.ok in
    let found : into_iter_items c.into_iter.result ≡ a.found = cc (c.into_iter.ensures.rest, a.added, c.new-found.ensures.items) in
    (omega arith, rw found (fit_all _ _ a.fit))

pub returns-clause-texts : goal.returns-clause-texts
returns-clause-texts c = cc (c.put_columns.ensures.lines, texts_with_columns c.kept_of-lines.result (into_iter_items c.into_iter.result), c.kept_of-lines.ensures.same)

pub returns-clause-ok : goal.returns-clause-ok
returns-clause-ok c =
    let a = rw (all_came _) at c.in_ok-find_in_lines.ensures.ok in
    let es = map matched_expression c.args.matchers.now.items in
    let options = c.args.options.now in
    let found : into_iter_items c.into_iter.result ≡ a.found = cc (c.into_iter.ensures.rest, a.added, c.new-found.ensures.items) in
    let kept = all_by_chunk (IsKept [] (record options { only_matching = false })) c.kept_of-lines.result (new_kept options _ c.kept_of-lines.ensures.new) in
    let right = a.are_right (all_anew [] es (record options { only_matching = false }) options) kept in
    rw (c.put_columns.ensures.lines ∙ ap (with_columns c.kept_of-lines.result) found) (right_all es options _ _ right)
