use Rattle.grep_session.proofs.{Prelude.{◌≡◌, ◌<◌, length, arith, map, ap, ◌∙◌, add-one, map-set_same, AllWithin-more_set, AllWithin-from_all, All-from_all_within, remove, IsFileKept, kept_file}, lemmas.{AddingLemmas.all_back, DroppingLemmas.after_set}}
use Rattle.grep_session.proofs.removal.drop_column.Goals as goal

pub loop-file-init : goal.loop-file-init
loop-file-init c = record {
  same = rw c.deref_mut-file-items.ensures.value;
  kept = λ es options h no_parts all. (
    (λ k d low high. absurd (omega arith)),
    rw c.deref_mut-file-items.ensures.value (AllWithin-from_all (IsFileKept es options) c.args.files.now.items all),
  );
}

pub loop-file-preserved : goal.loop-file-preserved
loop-file-preserved c =
    let i = c.loop-file.file-index in
    let files = c.loop-file.file-items in
    let d = c.file-item.result in
    let less : i < length c.args.files.now.items = omega (arith, ap length c.deref_mut-file-items.ensures.value) in
    let here : i < length files = omega arith in
    record {
      same = map-set_same kept_file files i c.drop_in_file.new.file d c.drop_in_file.ensures.same ∙ c.loop-file.invariant.same;
      kept = λ es options h no_parts all.
          let before = c.loop-file.invariant.kept es options h no_parts all in
          let one = c.drop_in_file.ensures.kept es options h no_parts (before.1 i d (omega arith) less) in
          (AllWithin-more_set files i c.drop_in_file.new.file here (IsFileKept (remove es c.args.p) options) before.0 one, rw (add-one i) (after_set (IsFileKept es options) _ i _ before.1));
    }

pub returns-clause-same : goal.returns-clause-same
returns-clause-same c =
    let back = all_back _ _ c.loop-file.file-items c.args.files.now.ok.0 (omega (arith, ap length c.deref_mut-file-items.ensures.value)) in
    ap (map kept_file) back ∙ c.loop-file.invariant.same

pub returns-clause-kept : goal.returns-clause-kept
returns-clause-kept c = λ es options h no_parts all.
    let back = all_back _ _ c.loop-file.file-items c.args.files.now.ok.0 (omega (arith, ap length c.deref_mut-file-items.ensures.value)) in
    let end : c.loop-file.file-index ≡ length c.loop-file.file-items = omega arith in
    rw back (All-from_all_within (IsFileKept (remove es c.args.p) options) c.loop-file.file-items (rw end at (c.loop-file.invariant.kept es options h no_parts all).0))
