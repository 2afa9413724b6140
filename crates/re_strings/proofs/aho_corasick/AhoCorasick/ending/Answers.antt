use Rattle.re_strings.proofs.{Prelude.{slice_index, sym, ap, ◌∙◌, arith}, lemmas.SetSearch.row_read}
use Rattle.re_strings.proofs.aho_corasick.AhoCorasick.ending.Goals as goal

pub returns : goal.returns
returns c = λ all t.
    let outputs = c.args.self.now.outputs.items in
    let depths = c.args.self.now.depths.items in
    let node = c.args.node in
    let in_trie = c.requires.in_trie in
    let rows = c.requires.table.outputs in
    let output = row_read outputs node (omega arith) c.index.ensures in
    let below = c.requires.table.below node (omega arith) in
    let in_depths = c.requires.table.depths in
    let depth = row_read depths c.index.result.now (omega arith) c.index-2.ensures in
    let long = t.depths (slice_index outputs node) (omega arith) in
    rw (sym long ∙ ap (slice_index depths) output ∙ depth) at (t.outputs node in_trie).ends
