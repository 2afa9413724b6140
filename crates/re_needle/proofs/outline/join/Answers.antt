use Rattle.{re_needle.proofs.{Prelude.{◌≡◌, ℕ, ◌<◌, ◌≤◌, IsTrue, List, length, map, take, get_or, refl, sym, ap, ◌∙◌, subst, arith, take-map, nothing, members, ByteSet, set_at, or_left, or_right, length-map, length-set, length-take, map-set, get_or-take}, lemmas.ChoiceOutlines.{first_more, second_more}}, std.proofs.lemmas.List.get_or-map, re_runs.proofs.lemmas.RunLaws.its_members}
use Rattle.re_needle.proofs.outline.join.Goals as goal

-- the sets up to a place are those of the whole list
taken : (sets : List ByteSet) (n j : ℕ) → j < n → set_at (map members (take n sets)) j ≡ set_at (map members sets) j
taken sets n j below = cc (take-map members n sets, get_or-take n (map members sets) j nothing below)

pub places-init : goal.places-init
places-init c =
    let cut = c.truncate.ensures.items in let old = c.args.front.now.items in let n = length c.args.sets.now in
    let short : length c.truncate.new.self.items ≤ n = omega (arith, ap length cut, length-take n old) in
    record { same_len = refl; long = omega (arith, ap length cut, length-take n old); first = λ j x below has. rw (ap (λ l. set_at (map members l) j) cut ∙ taken old n j (omega arith)) has; second = λ j x below has. absurd (omega arith) }

pub places-preserved : goal.places-preserved
places-preserved c =
    let s = c.places.invariant in let items = c.places.front.items in let sets = c.args.sets.now in
    let k = c.places.k in let both = map members items in let u = members c.union.result in
    let grown = map-set members items k c.union.result in let within : k < length items = omega arith in
    let lt : k < length both = omega (arith, length-map items members) in
    let held : set_at both k ≡ members c.index.result.now = its_members items k c.index.result.now within c.index.ensures in
    let theirs : set_at (map members sets) k ≡ members (get_or sets k record { low = 0; high = 0 }) = get_or-map members sets k record { low = 0; high = 0 } nothing (omega (arith, within, s.long)) in
    let own : (y : ℕ) → IsTrue (set_at both k y) → IsTrue (u y) = λ y h. subst (λ f. IsTrue (f y)) (sym c.union.ensures) (or_left _ _ (subst (λ f. IsTrue (f y)) held h)) in
    let other : (y : ℕ) → IsTrue (set_at (map members sets) k y) → IsTrue (u y) = λ y h. subst (λ f. IsTrue (f y)) (sym c.union.ensures) (or_right _ _ (subst (λ f. IsTrue (f y)) theirs h)) in
    let long = length-set items k c.union.result in
    record {
      same_len = long ∙ s.same_len;
      long = omega arith;
      first = λ j x below has.
          rw grown (first_more _ _ k u lt own (λ m y b h. s.first m y (omega (arith, length-map items members)) h) j x (omega (arith, length-map items members)) has);
      second = λ j x below has.
          rw grown (second_more _ _ k u lt other s.second j x below has);
    }
