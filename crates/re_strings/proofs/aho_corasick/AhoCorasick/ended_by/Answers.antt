use Rattle.re_strings.proofs.{Prelude.{◌≡◌, ℕ, ◌-◌, ◌<◌, length, slice_index, arith, dec_le, length-map, key, keys, Labels, IsTableOf, Occurs}, lemmas.SetSearch.{row_read, longest_ends_since, none_up_to, stands_at_first}}
use Rattle.re_strings.proofs.aho_corasick.AhoCorasick.ended_by.Goals as goal

pub places-init : goal.places-init
places-init c = record {
  within = omega arith;
  in_trie = c.requires.table.trie.some;
  stands = λ all t. stands_at_first all 0 (keys c.args.self.now.fold c.args.line.now) t.trie.root (omega arith);
  none = λ all t i j le o. omega arith;
}

pub returns-then-index-gt0-clause-ends : goal.returns-then-index-gt0-clause-ends
returns-then-index-gt0-clause-ends c = λ all t.
    let line = keys c.args.self.now.fold c.args.line.now in
    let size = length-map c.args.line.now (key c.args.self.now.fold) in
    let outputs = c.args.self.now.outputs.items in
    let node = c.pass-beyond.result.1 in
    let in_rows : node < length outputs = omega arith in
    let read = row_read outputs node in_rows c.index.ensures in
    let stands = c.pass-beyond.ensures.stands all t 0 (omega arith) (c.places.invariant.stands all t) in
    let e = length (all.label (slice_index outputs node)) in (
      (
        c.pass-beyond.result.0 - e,
        longest_ends_since _ 0 _ (omega arith) stands
            (t.outputs node c.pass-beyond.ensures.in_trie).ends ((t.outputs node c.pass-beyond.ensures.in_trie).some (omega (arith, c.if-index-gt0.true))),
      ),
      λ i j below o. before_here all t i j below o,
    )
  where
    before_here : (all : Labels) → IsTableOf all c.args.self.now → (i j : ℕ) → j < c.pass-beyond.result.0 → ¬ Occurs all.strings 0 (keys c.args.self.now.fold c.args.line.now) i j
    before_here all t i j below o = elim (dec_le j c.places.place) [
      | yes le ↦ c.places.invariant.none all t i j le o
      | no gt ↦ c.pass-beyond.ensures.between all t 0 (omega arith) (c.places.invariant.stands all t) i j (omega arith) below o
    ]

pub returns-then-index-gt0-clause-within : goal.returns-then-index-gt0-clause-within
returns-then-index-gt0-clause-within c = let on = c.pass-beyond.ensures.on in (omega (arith, on.0), on.1)

pub places-preserved : goal.places-preserved
places-preserved c =
    let size = length-map c.args.line.now (key c.args.self.now.fold) in
    let outputs = c.args.self.now.outputs.items in
    let node = c.pass-beyond.result.1 in
    let in_rows : node < length outputs = omega arith in
    let read = row_read outputs node in_rows c.index.ensures in
    record {
      within = c.pass-beyond.ensures.on.1;
      in_trie = c.pass-beyond.ensures.in_trie;
      stands = λ all t. c.pass-beyond.ensures.stands all t 0 (omega arith) (c.places.invariant.stands all t);
      none = λ all t.
          none_up_to all 0 (keys c.args.self.now.fold c.args.line.now) c.places.place c.pass-beyond.result.0 c.pass-beyond.result.1 (length (all.label (slice_index outputs node)))
          (omega arith) (c.places.invariant.none all t)
          (c.pass-beyond.ensures.between all t 0 (omega arith) (c.places.invariant.stands all t))
          (c.pass-beyond.ensures.stands all t 0 (omega arith) (c.places.invariant.stands all t))
          (t.outputs node c.pass-beyond.ensures.in_trie).ends
          (let root : slice_index outputs node ≡ 0 = omega (arith, c.if-index-gt0.false) in let empty : length (all.label 0) ≡ 0 = rw t.trie.root in cc);
    }

pub returns-clause-ends : goal.returns-clause-ends
returns-clause-ends c = λ all t i j o.
    let size = length-map c.args.line.now (key c.args.self.now.fold) in
    let within = c.places.invariant.within in
    c.places.invariant.none all t i j (let on_line = o.2 in omega (arith, c.places-test.false)) o
