use Rattle.re_strings.proofs.{Prelude.{◌≡◌, ◌+◌, ◌-◌, ◌<◌, slice_index, refl, arith}, lemmas.{SetSteps.may_at_first, SetTries.ascends}}
use Rattle.re_strings.proofs.links.fallback.Goals as goal

pub returns-clause-before : goal.returns-clause-before
returns-clause-before c =
    let first = c.args.trie.now.first.items in
    let inside : 0 < c.args.node = omega arith in
    let earlier = c.requires.fails c.args.node inside c.requires.within in
    let up = ascends c.requires.trie (slice_index c.args.fails.now c.args.node) (c.args.node - 1) (omega arith) (omega arith) in
    let same : c.args.node - 1 + 1 ≡ c.args.node = omega arith in
    let top = rw same at up in
    let near = c.step.ensures.near in
    omega arith

pub returns-clause-right : goal.returns-clause-right
returns-clause-right c = λ all t s f.
    let inside : 0 < c.args.node = omega arith in
    c.step.ensures.step all t s f (all.label c.args.node) 1
    (may_at_first _ _ _ 1 (f c.args.node inside c.requires.within))

pub returns-then-node-eq0-clause-before : goal.returns-then-node-eq0-clause-before
returns-then-node-eq0-clause-before c =
    let beyond = c.requires.trie.beyond c.args.node (omega arith) in omega arith

pub step-requires-clause-within : goal.step-requires-clause-within
step-requires-clause-within c =
    let less = c.requires.fails c.args.node (omega (arith, c.if-node-eq0.false)) c.requires.within in
    let within = c.requires.within in
    omega arith

pub returns-then-node-eq0-clause-right : goal.returns-then-node-eq0-clause-right
returns-then-node-eq0-clause-right c = λ all t _ _.
    rw (c.if-node-eq0.true, t.root) (record { start = 1; low = omega arith; high = omega arith; is = refl; none = λ j low lt _. absurd (omega arith) })
