use Rattle.re_match.proofs.Prelude.{rules, ◌≡◌, [], map, lines_of, keys}
use Rattle.re_match.proofs.string_set.StringSet.by_keys.Goals as goal

pub invariant_of-result : goal.invariant_of-result
invariant_of-result c =
    let kept : c.extend_from_slice.new.self.items ≡ c.args.texts.now = search rules in
    let same = c.in_ok-strings.ensures.same in let empty = rw c.deref.ensures.value at c.has_empty-has_empty.ensures in
    let strings : lines_of c.args.keyed.now ≡ map (keys c.in_ok-table.table.fold) (lines_of c.args.texts.now) = cc (c.requires, c.in_ok-table.ensures.fold) in
    rw (kept, ← strings) (c.in_ok-table.ensures.table, ((rw c.deref-2.ensures.value at c.in_ok-table.ensures.right) (lines_of c.args.keyed.now) same), ((λ h. (same []).0 (empty.0 h)), (λ s. empty.1 ((same []).1 s))))
