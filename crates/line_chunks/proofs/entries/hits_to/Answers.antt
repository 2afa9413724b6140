use Rattle.line_chunks.proofs.{Prelude.{arith, all_of, chunks_of}, lemmas.Sums.{summed_to, matched_to, matched_within}}
use Rattle.line_chunks.proofs.entries.hits_to.Goals as goal

pub matched_before-requires : goal.matched_before-requires
matched_before-requires c =
    let inside = c.find_seam-chunk.ensures.inside (omega arith) in
    summed_to _ _ (omega arith) c.requires.summed

pub overflow_add-result : goal.overflow_add-result
overflow_add-result c =
    let is = matched_to c.args.entries.now (c.find_seam-chunk.ensures.inside (omega arith)) c.index-entries-chunk.is c.find_seam-chunk.ensures.place c.matched_before.ensures c.count_matched.ensures in
    omega (arith, matched_within (all_of (chunks_of c.args.entries.now)) c.args.place)

pub returns : goal.returns
returns c = matched_to c.args.entries.now (c.find_seam-chunk.ensures.inside (omega arith)) c.index-entries-chunk.is c.find_seam-chunk.ensures.place c.matched_before.ensures c.count_matched.ensures
