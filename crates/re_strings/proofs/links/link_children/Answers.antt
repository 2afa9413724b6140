use Rattle.re_strings.proofs.{Prelude.{rules, ◌≡◌, ◌+◌, ◌<◌, [], ◌∷◌, ◌++◌, length, slice_index, sym, ap, ◌∙◌, arith, length-append, get_or_default_zero, StandsFor, own_or}, lemmas.{SetLinks.{own_or_within, linked_more, linked_right}, SetSearch.row_read}}
use Rattle.re_strings.proofs.links.link_children.Goals as goal

pub children-preserved : goal.children-preserved
children-preserved c =
    let first = c.args.trie.now.first.items in
    let bytes = c.args.trie.now.bytes.items in
    let fails = c.children.links.fails.items in
    let outputs = c.children.links.outputs.items in
    let child : c.len-child.result ≡ length fails = search rules in
    let rows = c.requires.trie.rows in
    let within = c.requires.within in
    let end_is : slice_index first (c.args.node + 1) ≡ c.index.result.now = row_read first (c.args.node + 1) (omega arith) c.index.ensures in
    let last : length fails < slice_index first (c.args.node + 1) = omega (arith, c.children-test.true, c.len.ensures) in
    let low = c.children.invariant.low in
    let in_trie = c.requires.trie.within c.args.node c.requires.within in
    let beyond = c.requires.trie.beyond c.args.node c.requires.within in
    let before = c.fallback-fail.ensures.before in
    let fail : c.fallback-fail.result < length fails = omega arith in
    let same = c.children.invariant.linked.all_outputs in
    let read : c.index-in-children-2.result.now ≡ slice_index outputs c.fallback-fail.result = sym (row_read outputs c.fallback-fail.result (omega arith) c.index-in-children-2.ensures) in
    let byte : c.index-in-children.result.now ≡ slice_index bytes (length fails) =
    sym (row_read bytes c.len-child.result (omega arith) c.index-in-children.ensures) ∙ ap (slice_index bytes) child in
    let added = c.in_ok-add_link.ensures in
    let end : c.output_of-output.result ≡ own_or (slice_index c.args.owns.now (length fails)) (length fails) (slice_index outputs c.fallback-fail.result) =
    c.output_of-output.ensures ∙ ap (λ n. own_or (slice_index c.args.owns.now n) n c.index-in-children-2.result.now) child ∙ ap (own_or (slice_index c.args.owns.now (length fails)) (length fails)) read in
    let under = c.children.invariant.linked.below c.fallback-fail.result (omega (arith, fail, same)) in
    let late = own_or_within (slice_index c.args.owns.now (length fails)) (length fails) (slice_index outputs c.fallback-fail.result) (omega (arith, under, fail)) in
    let size : length c.add_link.new.links.fails.items ≡ length fails + 1 = ap length added.0 ∙ length-append fails (c.fallback-fail.result ∷ []) in
    record {
      low = omega arith;
      high = omega arith;
      linked = linked_more c.fallback-fail.result c.output_of-output.result
          c.children.invariant.linked (omega arith) fail (omega arith) added.0 added.1;
      right = λ all t s o old.
          let now = c.children.invariant.right all t s o old in
          let owned = o (length fails) (let w = c.requires.owns in omega (arith, w, last, in_trie)) in
          let stands : StandsFor all.strings (all.label c.fallback-fail.result) (all.label (length fails)) 1 =
          rw (ap (λ b. all.label c.args.node ++ b ∷ []) byte ∙ sym (t.child c.args.node (length fails) c.requires.within (low, last))) at
          (c.fallback-fail.ensures.right all t s (rw c.deref.ensures.value now.fallbacks)) in
          linked_right c.fallback-fail.result (slice_index c.args.owns.now (length fails))
          c.children.invariant.linked added.0 (added.1 ∙ ap (λ e. outputs ++ e ∷ []) end) fail stands owned.0 owned.1 now;
    }

pub children-init : goal.children-init
children-init c =
    let all = c.requires.linked.all_fails in
    let ordered = c.requires.trie.ordered c.args.node c.requires.within in
    record {
      low = omega arith;
      high = omega arith;
      linked = rw all c.requires.linked;
      right = λ _ _ _ _ linked. linked;
    }

pub returns-clause-linked : goal.returns-clause-linked
returns-clause-linked c =
    let first = c.args.trie.now.first.items in
    let end =
    c.index.ensures ∙ get_or_default_zero first (c.args.node + 1) c.index.result.now (omega arith) in
    let all : length c.children.links.fails.items ≡ slice_index first (c.args.node + 1) = omega (arith, c.children.invariant.high, c.children-test.false, c.len.ensures) in
    rw all at c.children.invariant.linked

pub returns-clause-right : goal.returns-clause-right
returns-clause-right c = c.children.invariant.right
