use Rattle.{grep_session.proofs.{Prelude.{◌≡◌, ◌<◌, ◌∙◌, length, map, take, get_or, take_all, refl, ap, arith, [], HasChanged, SearchesEach, IsFileKept, chunks_of, chunks_of_files, kept_file, matched_expression}, lemmas.{FoundLemmas.{adds_columns, adds_no_column, chunks_on, files_by_chunk, no_chunks, its_chunks, its_lines, was_kept}, ColumnLemmas.{files_next, files_with_parts, kept_at}, StepLemmas.{not_searched, each_both, each_front}}, columns.find_columns.Goals.{After-file-item, After-find_in_lines}}, re_search.proofs.lemmas.KeptMatchers.{none_asked, same_over, still_alike}, grep_core.proofs.lemmas.CostLaws.same_length}
use Rattle.grep_session.proofs.columns.find_columns.Goals as goal

-- the next file is one of them
there : (c : After-file-item) → let files = c.args.files.now.items in (c.loop-file.file-index < length files) × (c.file-item.result ≡ get_or files c.loop-file.file-index c.file-item.result)
there c =
    (omega (arith, ap length c.deref-file-items.ensures.value), rw c.deref-file-items.ensures.value at c.file-item.is)

-- its lines were searched
spent : (c : After-find_in_lines) → let es = map matched_expression c.args.matchers.now.items in let options = c.args.options.now in let x = c.file-item.result in (h : HasChanged c.args.change es options)
    → IsFileKept h.before h.was x → SearchesEach c.args.change h.gone h.come es options (kept_file x).lines c.loop-file.meter c.find_in_lines.new.meter
spent c = λ h k.
    let x = c.file-item.result in
    let one = rw c.loop-file.invariant.same_matchers.same_expressions at c.find_in_lines.ensures.steps in
    rw (its_lines x _ c.in-Some.is) (one h (was_kept x _ c.in-Some.is k))

pub loop-file-init : goal.loop-file-init
loop-file-init c = record {
  found = rw c.new-found.ensures.items (adds_no_column _ _ _ []);
  same_matchers = none_asked;
  room = refl;
  steps = λ h k. not_searched _ _ _ _ _ _ _;
}

pub find_in_lines-requires-clause-whole : goal.find_in_lines-requires-clause-whole
find_in_lines-requires-clause-whole c = still_alike c.loop-file.invariant.same_matchers c.requires.whole

pub find_in_lines-requires-clause-within : goal.find_in_lines-requires-clause-within
find_in_lines-requires-clause-within c = rw (same_length matched_expression _ _ c.loop-file.invariant.same_matchers.same_expressions) c.requires.within

pub returns-in_err-find_in_lines-clause-same_matchers : goal.returns-in_err-find_in_lines-clause-same_matchers
returns-in_err-find_in_lines-clause-same_matchers c = same_over c.find_in_lines.ensures.same_matchers c.loop-file.invariant.same_matchers

pub returns-in_err-find_in_lines-clause-room : goal.returns-in_err-find_in_lines-clause-room
returns-in_err-find_in_lines-clause-room c = c.find_in_lines.ensures.room ∙ c.loop-file.invariant.room

pub returns-in_err-find_in_lines-clause-steps : goal.returns-in_err-find_in_lines-clause-steps
returns-in_err-find_in_lines-clause-steps c = λ h k.
    let x = c.file-item.result in
    let i = c.loop-file.file-index in
    let at = there (goal.at.returns-in_err-find_in_lines-clause-steps c).After-file-item in
    each_front _ _ _ _ _ _ _ _ _ _ (files_with_parts kept_file c.args.files.now.items i x at.0 at.1)
    (each_both _ _ _ _ _ _ _ _ _ _ _ refl (c.loop-file.invariant.steps h k) (spent (goal.at.returns-in_err-find_in_lines-clause-steps c).After-find_in_lines h (kept_at (IsFileKept h.before h.was) c.args.files.now.items i x at.0 at.1 k)))

pub loop-file-preserved : goal.loop-file-preserved
loop-file-preserved c =
    let s = c.loop-file.invariant in
    let x = c.file-item.result in
    let files = c.args.files.now.items in
    let i = c.loop-file.file-index in
    let es = map matched_expression c.args.matchers.now.items in
    let at = there (goal.at.loop-file-preserved c).After-file-item in
    let added = rw s.same_matchers.same_expressions at c.in_ok-find_in_lines.ensures.ok in
    let more = rw (← its_chunks x c.in-Some.lines c.in-Some.is) at added in
    record {
      found = adds_columns c.args.change es c.args.options.now (chunks_of_files (take i files)) (chunks_of x) _ _ _ _ (chunks_on files i x at.0 at.1) s.found more;
      same_matchers = same_over c.find_in_lines.ensures.same_matchers s.same_matchers;
      room = c.find_in_lines.ensures.room ∙ s.room;
      steps = λ h k. each_both _ _ _ _ _ _ _ _ _ _ _ (files_next kept_file files i x at.0 at.1) (s.steps h k) (spent (goal.at.loop-file-preserved c).After-find_in_lines h (kept_at (IsFileKept h.before h.was) files i x at.0 at.1 k));
    }

pub loop-file-preserved-in_default : goal.loop-file-preserved-in_default
loop-file-preserved-in_default c =
    let s = c.loop-file.invariant in
    let x = c.file-item.result in
    let files = c.args.files.now.items in
    let i = c.loop-file.file-index in
    let es = map matched_expression c.args.matchers.now.items in
    let found = c.loop-file.found.items in
    let at = there (goal.at.loop-file-preserved-in_default c).After-file-item in
    let none = rw (← no_chunks x c.in_default.is) at (adds_no_column c.args.change es c.args.options.now found) in
    record {
      found = adds_columns c.args.change es c.args.options.now (chunks_of_files (take i files)) (chunks_of x) _ _ _ _ (chunks_on files i x at.0 at.1) s.found none;
      same_matchers = s.same_matchers;
      room = s.room;
      steps = λ h k. each_both _ _ _ _ _ _ _ _ _ _ _ (files_next kept_file files i x at.0 at.1) (s.steps h k) (not_searched _ _ _ _ _ _ _);
    }

pub put_columns-requires : goal.put_columns-requires
put_columns-requires c =
    let all : take c.loop-file.file-index c.args.files.now.items ≡ c.args.files.now.items = take_all _ _ (omega (arith, ap length c.deref-file-items.ensures.value)) in
    let a = rw all at c.loop-file.invariant.found in
    rw a.added a.fit

pub returns-clause-ok : goal.returns-clause-ok
returns-clause-ok c = λ h k.
    let s = c.loop-file.invariant in
    let es = map matched_expression c.args.matchers.now.items in
    let all : take c.loop-file.file-index c.args.files.now.items ≡ c.args.files.now.items = take_all _ _ (omega (arith, ap length c.deref-file-items.ensures.value)) in
    let a = rw all at s.found in
    let right = rw (← a.added) at (a.are_right h (files_by_chunk h.before h.was c.args.files.now.items k)) in
    rw s.same_matchers.same_expressions (c.put_columns.ensures.right es c.args.options.now right)

pub returns-clause-steps : goal.returns-clause-steps
returns-clause-steps c = λ h k.
    let all : take c.loop-file.file-index c.args.files.now.items ≡ c.args.files.now.items = take_all _ _ (omega (arith, ap length c.deref-file-items.ensures.value)) in
    rw all at (c.loop-file.invariant.steps h k)
