use Rattle.re_strings.proofs.{Prelude.{◌≡◌, ℕ, ◌+◌, ◌<◌, ◌≤◌, length, slice_index, refl, sym, subst, ◌∙◌, arith, length-map, AddsEnds, Labels, List, Text, IsTableOf, StandsAtNode, StepsOn, EndsWith, Occurs, key, keys}, lemmas.{KeyLaws.key_at, SetSearch.{byte_read, node_length, nothing_read}, SetEnds.{OccursBy, adds_no_ends, adds_more_ends, same_ends_added, one_place_more}}}
use Rattle.re_strings.proofs.aho_corasick.AhoCorasick.add_ends.Goals as goal

pub places-init : goal.places-init
places-init c = record {
  in_trie = c.requires.table.trie.some;
  stands = λ all t. nothing_read all 0 (keys c.args.self.now.fold c.args.line.now) t.trie.root (omega arith);
  added = λ all t. adds_no_ends (OccursBy all c.args.start (keys c.args.self.now.fold c.args.line.now) 0) c.args.line.now c.args.ends.now c.requires.fits
      (λ i m lt p. omega arith);
}

-- the ends of the strings that end at one place more
one_place : (all : Labels) (start place node : ℕ) (line keyed : Text) (first ends more : List ℕ) → place < length keyed → StandsAtNode all 0 keyed (place + 1) node → AddsEnds (OccursBy all start keyed place) line first ends
    → (length (all.label node) ≤ place + 1 → AddsEnds (λ i m. (n : ℕ) × (m < start + (place + 1)) × (i + n ≡ place + 1) × EndsWith all.strings (all.label node) n) ends ends more)
    → AddsEnds (OccursBy all start keyed (place + 1)) line first more
one_place all start place node line keyed first ends more inside stands had put =
    let size_read = node_length all 0 keyed (place + 1) node (omega arith) stands in
    adds_more_ends (OccursBy all start keyed place) (λ i m. (n : ℕ) × (m < start + (place + 1)) × (i + n ≡ place + 1) × EndsWith all.strings (all.label node) n) (OccursBy all start keyed (place + 1))
    _ _ _ _ _ had.0 had (put (omega arith)) (λ i m lt. one_place_more all keyed (place + 1) node (omega arith) stands start place refl i m)

pub places-preserved : goal.places-preserved
places-preserved c =
    let fold = c.args.self.now.fold in
    let line = keys fold c.args.line.now in
    let size : length line ≡ length c.args.line.now = length-map c.args.line.now (key fold) in
    let place = c.places.place in
    let start = c.args.start in
    let inside : place < length c.args.line.now = omega (arith, c.places-test.true) in
    let here : c.key_of-byte.result ≡ slice_index line place = c.key_of-byte.ensures ∙ sym (key_at fold c.args.line.now place inside) in
    let node = c.step-node.result in
    let stands : (all : Labels) → IsTableOf all c.args.self.now → StandsAtNode all 0 line (place + 1) node =
    λ all t.
    let steps = (rw c.deref.ensures.value at c.step-node.ensures.step) all t.trie t.steps t.fails in
    byte_read all 0 line place c.places.node c.step-node.result (omega (arith, size, inside)) (c.places.invariant.stands all t) (subst (λ b. StepsOn all c.places.node b c.step-node.result) here steps) in
    record {
      in_trie = c.step-node.ensures.within;
      stands = stands;
      added = λ all t. one_place all start place node c.args.line.now line c.args.ends.now c.places.ends c.put_outputs.new.ends (omega (arith, size, inside)) (stands all t) (c.places.invariant.added all t) (c.put_outputs.ensures all t);
    }

pub returns : goal.returns
returns c = λ all t.
    let line = keys c.args.self.now.fold c.args.line.now in
    let size = length-map c.args.line.now (key c.args.self.now.fold) in
    same_ends_added (OccursBy all c.args.start line c.places.place) (λ i m. (j : ℕ) × (m < c.args.start + j) × Occurs all.strings 0 line i j) _ _ _ (c.places.invariant.added all t)
    (λ i m lt. (
      (λ p. (p.0, p.1, p.3)),
      (λ p. let end = p.2.2 in (p.0, p.1, omega (arith, c.places-test.false), p.2)),
    ))
