use Rattle.grep_io.proofs.{Prelude.{replicate, eqb, take, drop, w8, tops_compared, length-chunk, newline}, lemmas.NewlineLanes.ones_at}
use Rattle.grep_io.proofs.input.newlines.newlines_at.Goals as goal

pub returns : goal.returns
returns c =
    let lanes = take 64 (drop c.args.from c.args.bytes.now) in
    rw (tops_compared w8 eqb lanes (replicate 64 newline)) (ones_at newline 64 lanes (length-chunk c.args.from 64 c.args.bytes.now c.requires))
