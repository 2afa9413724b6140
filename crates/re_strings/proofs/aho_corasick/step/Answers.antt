use Rattle.re_strings.proofs.{Prelude.{rules, ◌≡◌, ◌∙◌, ◌<◌, arith, length, slice_index, get_or_default_zero}, lemmas.{StepRowLaws.{cell_read, not_root}, SetSteps.{goes_on, falls_back}, SetTries.ascends}}
use Rattle.re_strings.proofs.aho_corasick.step.Goals as goal

pub nodes-init : goal.nodes-init
nodes-init c = record {
  within = c.requires.within;
  low = omega arith;
  may = λ all t f w from s. s;
}

pub returns-in-Some-clause-step : goal.returns-in-Some-clause-step
returns-in-Some-clause-step c = λ all t s f w from stands.
    rw (c.in-Some.ensures.reported all t) (goes_on _ _ (c.nodes.invariant.may all t f w from stands))

pub nodes-preserved : goal.nodes-preserved
nodes-preserved c =
    let lt : c.args.byte < 256 = let fits = c.ranges.byte.fits in omega arith in
    let class : c.index.result.now ≡ slice_index c.args.steps.now.classes.items c.args.byte = c.index.ensures ∙ get_or_default_zero c.args.steps.now.classes.items c.args.byte _ (omega (arith, c.requires.steps.all)) in
    let deeper : 0 < c.nodes.at = not_root c.nodes.at c.len-width.result c.index.result.now _ c.nodes-test.true (let root = c.requires.steps.root c.args.byte lt in let count : c.len.result ≡ length c.args.steps.now.cells.items = search rules in rw (class, count) root) in
    record {
      within = let lt = c.requires.fails c.nodes.at deeper c.nodes.invariant.within in omega (arith, c.nodes.invariant.within);
      low = let lt = c.requires.fails c.nodes.at deeper c.nodes.invariant.within in omega arith;
      may = λ all t f w from stands.
          falls_back all.strings c.args.byte w
          (c.nodes.invariant.may all t f w from stands) (c.in_default.ensures.reported all t) (f c.nodes.at deeper c.nodes.invariant.within);
    }

pub returns-clause-step : goal.returns-clause-step
returns-clause-step c =
    let lt : c.args.byte < 256 = let fits = c.ranges.byte.fits in omega arith in
    let cell = cell_read c.args.steps.now c.nodes.at c.args.byte c.len-width.result c.len.result c.requires.steps.all lt c.index.ensures (search rules) (search rules) (omega (arith, c.nodes-test.false)) c.index-2.ensures in
    λ all t s f w from stands. rw cell.1 (s c.nodes.at c.args.byte lt cell.0 w from (c.nodes.invariant.may all t f w from stands))

pub returns-in-Some-clause-near : goal.returns-in-Some-clause-near
returns-in-Some-clause-near c =
    let near = c.in-Some.ensures.beyond.2 in
    let up = ascends c.requires.trie c.nodes.at c.args.node c.nodes.invariant.low (omega arith) in
    omega arith

pub returns-clause-near : goal.returns-clause-near
returns-clause-near c =
    let lt : c.args.byte < 256 = let fits = c.ranges.byte.fits in omega arith in
    let cell = cell_read c.args.steps.now c.nodes.at c.args.byte c.len-width.result c.len.result c.requires.steps.all lt c.index.ensures (search rules) (search rules) (omega (arith, c.nodes-test.false)) c.index-2.ensures in
    let near = c.requires.steps.nodes c.nodes.at c.args.byte lt cell.0 in
    let up = ascends c.requires.trie c.nodes.at c.args.node c.nodes.invariant.low (omega arith) in
    omega (arith, cell.1)

pub returns-clause-within : goal.returns-clause-within
returns-clause-within c =
    let lt : c.args.byte < 256 = let fits = c.ranges.byte.fits in omega arith in
    let cell = cell_read c.args.steps.now c.nodes.at c.args.byte c.len-width.result c.len.result c.requires.steps.all lt c.index.ensures (search rules) (search rules) (omega (arith, c.nodes-test.false)) c.index-2.ensures in
    let near = c.requires.steps.nodes c.nodes.at c.args.byte lt cell.0 in
    let few = c.requires.few in
    let within = c.requires.trie.within c.nodes.at (omega (arith, c.nodes.invariant.within)) in
    omega (arith, cell.1)
