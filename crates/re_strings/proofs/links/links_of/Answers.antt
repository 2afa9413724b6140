use Rattle.re_strings.proofs.{Prelude.{ap, ◌∙◌, ◌∷◌, [], ◌++◌, arith, ◌≡◌, length, slice_index}, lemmas.SetLinks.{root_linked, root_linked_right}}
use Rattle.re_strings.proofs.links.links_of.Goals as goal

pub nodes-init : goal.nodes-init
nodes-init c =
    let fails = c.in_ok-push_number.ensures ∙ ap (λ l. l ++ 0 ∷ []) c.in_ok-fails.ensures.items in
    let outputs = c.in_ok-push_number-2.ensures ∙ ap (λ l. l ++ 0 ∷ []) c.in_ok-outputs.ensures.items in
    record {
      linked = root_linked _ _ c.requires.trie.start fails outputs;
      right = λ all t _ _. root_linked_right all _ _ t.root fails outputs;
    }

pub nodes-preserved : goal.nodes-preserved
nodes-preserved c = record {
  linked = c.in_ok-link_children.ensures.linked;
  right = λ all t starts owns. c.in_ok-link_children.ensures.right all t starts owns (c.nodes.invariant.right all t starts owns);
}

pub returns-clause-linked : goal.returns-clause-linked
returns-clause-linked c =
    let end : c.nodes.node ≡ length c.args.trie.now.bytes.items = omega (arith, c.nodes-test.false, c.nodes.auto.node-end, c.len-node-end.ensures) in
    let count = ap (slice_index c.args.trie.now.first.items) end ∙ c.requires.trie.last in
    rw count at c.nodes.invariant.linked

pub returns-clause-right : goal.returns-clause-right
returns-clause-right c = c.nodes.invariant.right
