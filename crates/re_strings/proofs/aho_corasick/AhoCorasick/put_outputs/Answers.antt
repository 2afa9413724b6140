use Rattle.re_strings.proofs.{Prelude.{◌≡◌, ℕ, ◌+◌, ◌<◌, length, refl, arith, EndsWith}, lemmas.{SetSearch.row_read, SetEnds.{PutsLonger, adds_no_ends, adds_more_ends, same_ends_added, first_output, none_longer, next_output, output_put, all_put}}}
use Rattle.re_strings.proofs.aho_corasick.AhoCorasick.put_outputs.Goals as goal

pub outputs-init : goal.outputs-init
outputs-init c =
    let outputs = c.args.self.now.outputs.items in
    let node = c.args.node in
    let in_trie = c.requires.in_trie in
    let rows = c.requires.table.outputs in
    let read = row_read outputs node (omega arith) c.index.ensures in
    let below = c.requires.table.below node (omega arith) in
    record {
      in_trie = omega arith;
      follows = λ all t. first_output all node (rw read at (t.outputs node in_trie));
      added = λ all t le. adds_no_ends (PutsLonger all node c.args.end c.args.top c.index.result.now) c.args.ends.now c.args.ends.now refl
          (λ i m lt. none_longer all node c.index.result.now c.args.end c.args.top (rw read at (t.outputs node in_trie)) i m);
    }

pub outputs-preserved : goal.outputs-preserved
outputs-preserved c =
    let outputs = c.args.self.now.outputs.items in
    let fails = c.args.self.now.fails.items in
    let depths = c.args.self.now.depths.items in
    let node = c.args.node in
    let output = c.outputs.output in
    let fail = c.index-in-outputs-2.result.now in
    let next = c.index-in-outputs-3.result.now in
    let in_trie = c.outputs.invariant.in_trie in
    let inside : 0 < output = omega (arith, c.outputs-test.true) in
    let in_fails = c.requires.table.fails in
    let in_depths = c.requires.table.depths in
    let in_outputs = c.requires.table.outputs in
    let back = row_read fails output (omega arith) c.index-in-outputs-2.ensures in
    let before = c.requires.table.fallbacks output inside (omega arith) in
    let fail_in : fail < length c.args.self.now.trie.bytes.items = omega arith in
    let read = row_read outputs fail (omega arith) c.index-in-outputs-3.ensures in
    let below = c.requires.table.below fail (omega arith) in
    let deep = row_read depths output (omega arith) c.index-in-outputs.ensures in
    record {
      in_trie = omega arith;
      follows = λ all t.
          next_output all node output fail next (c.outputs.invariant.follows all t)
          (rw back at (t.fails output inside (omega arith)))
          (rw read at (t.outputs fail fail_in));
      added = λ all t le.
          let had = c.outputs.invariant.added all t le in
          let long = t.depths output in_trie in
          adds_more_ends (PutsLonger all node c.args.end c.args.top output) (λ i m. (i ≡ c.saturating_sub-start.result) × (m < c.args.top)) (PutsLonger all node c.args.end c.args.top next)
          _ _ _ _ _ had.0 had c.put_end.ensures
          (λ i m lt.
          output_put all node output fail next (c.outputs.invariant.follows all t)
          (rw back at (t.fails output inside (omega arith)))
          (rw read at (t.outputs fail fail_in))
          c.args.end c.args.top c.saturating_sub-start.result inside le (omega (arith, c.saturating_sub-start.ensures)) i m);
    }

pub returns : goal.returns
returns c = λ all t le.
    let root : c.outputs.output ≡ 0 = omega (arith, c.outputs-test.false) in
    let empty : length (all.label c.outputs.output) ≡ 0 = cc t.trie.root in
    same_ends_added (PutsLonger all c.args.node c.args.end c.args.top c.outputs.output) (λ i m. (n : ℕ) × (m < c.args.top) × (i + n ≡ c.args.end) × EndsWith all.strings (all.label c.args.node) n)
    _ _ _ (c.outputs.invariant.added all t le) (λ i m lt. all_put all c.args.node c.args.end c.args.top c.outputs.output empty i m)
