use Rattle.grep_session.proofs.{Prelude.{◌≡◌, drop, length, get_or, arith, ap, ◌∙◌, add-one, suc, map, map-set_same, AllWithin-more_set, All-from_all_within, into_iter_items, FitsColumn, IsFileKept, kept_file, IsColumn, chunks_of, chunks_of_files}, lemmas.{AddingLemmas.all_back, FoundLemmas.{same_file, chunks_from, later_on, there_still, fit_first, rest_of, right_file}}}
use Rattle.grep_session.proofs.found.put_columns.Goals as goal

pub put_found_in-requires : goal.put_found_in-requires
put_found_in-requires c =
    let s = c.loop-file.invariant in
    let i = c.loop-file.file-index in
    let now = c.loop-file.file-items in
    let files = c.args.files.now.items in
    let d = c.file-item.result in
    let rest = into_iter_items c.loop-file.rest in
    let here = chunks_from files i d (omega (arith, ap length c.deref_mut-file-items.ensures.value)) in
    let first = fit_first (chunks_of (get_or files i d)) (chunks_of_files (drop (suc i) files)) rest (rw here at s.fit) in
    rw (there_still _ _ i d s.later) first

pub loop-file-preserved : goal.loop-file-preserved
loop-file-preserved c =
    let s = c.loop-file.invariant in
    let i = c.loop-file.file-index in
    let now = c.loop-file.file-items in
    let files = c.args.files.now.items in
    let old = get_or now i c.file-item.result in
    let new = c.put_found_in.new.file in
    let rest = into_iter_items c.loop-file.rest in
    let d = c.file-item.result in
    let still = there_still files now i d s.later in
    let chunks = chunks_of (get_or files i d) in
    let others = chunks_of_files (drop (suc i) files) in
    let here = chunks_from files i d (omega (arith, ap length c.deref_mut-file-items.ensures.value)) in
    let left = into_iter_items c.put_found_in.new.found in
    let left_is : left ≡ drop (length chunks) rest = cc c.put_found_in.ensures.rest in
    let same = same_file old new rest c.put_found_in.ensures.name c.put_found_in.ensures.lines in
    record {
      same = map-set_same kept_file now i new c.file-item.result same ∙ s.same;
      later = later_on files now i new s.later;
      fit = rw (add-one i) (rw left_is (rest_of FitsColumn chunks others rest (rw here at s.fit)));
      right = λ es options all.
          let before = s.right es options all in
          let there = rw here at before.1 in
          let one = right_file es options old new others rest c.put_found_in.ensures.lines (rw still there) in
          let more = rest_of (IsColumn es options) chunks others rest there in
          (AllWithin-more_set now i new (omega arith) (IsFileKept es options) before.0 one, rw (add-one i) (rw left_is more));
    }

pub returns-clause-same : goal.returns-clause-same
returns-clause-same c =
    let back = all_back _ _ c.loop-file.file-items c.args.files.now.ok.0 (omega (arith, ap length c.deref_mut-file-items.ensures.value)) in
    ap (map kept_file) back ∙ c.loop-file.invariant.same

pub returns-clause-right : goal.returns-clause-right
returns-clause-right c = λ es options all.
    let back = all_back _ _ c.loop-file.file-items c.args.files.now.ok.0 (omega (arith, ap length c.deref_mut-file-items.ensures.value)) in
    let end : c.loop-file.file-index ≡ length c.loop-file.file-items = omega arith in
    rw back (All-from_all_within (IsFileKept es options) c.loop-file.file-items (rw end at (c.loop-file.invariant.right es options all).0))
