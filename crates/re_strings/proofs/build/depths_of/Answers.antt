use Rattle.re_strings.proofs.{Prelude.{rules, ◌≡◌, ℕ, ◌+◌, ◌<◌, ◌≤◌, inl, inr, [], ◌∷◌, length, slice_index, refl, sym, ap, ◌∙◌, arith, length-append, cases_lt}, lemmas.SetSearch.row_read}
use Rattle.re_strings.proofs.build.depths_of.Goals as goal

pub nodes-preserved : goal.nodes-preserved
nodes-preserved c =
    let first = c.args.trie.now.first.items in
    let bytes = c.args.trie.now.bytes.items in
    let old = c.nodes.depths.items in
    let new = c.add_depths.new.depths.items in
    let node = c.nodes.node in
    let in_trie : node < length bytes = search rules in
    let rows = c.requires.trie.rows in
    let beyond = c.requires.trie.beyond node in_trie in
    let all = c.nodes.invariant.all in
    let within : node < length old = omega arith in
    let end = row_read first (node + 1) (omega arith) c.index-in-nodes.ensures in
    let read = row_read old node within c.index.ensures in
    let size = c.in_ok-add_depths.ensures.all ∙ sym end in
    let small = c.nodes.invariant.small node within in
    let depth : (n : ℕ) → length old ≤ n → n < length new → slice_index new n ≡ slice_index old node + 1 = λ n late lt.
    let added = c.in_ok-add_depths.ensures.added n late (omega arith) in
    omega arith in
    record {
      all = size;
      small = λ n lt.
          elim (cases_lt n (length old)) [
            | inl early ↦
                let same = c.in_ok-add_depths.ensures.same n early in
                let kept = c.nodes.invariant.small n early in
                omega arith
            | inr late ↦
                let is = depth n late lt in
                omega arith
          ];
      right = λ these t n lt.
          elim (cases_lt n (length old)) [
            | inl early ↦ c.in_ok-add_depths.ensures.same n early ∙ c.nodes.invariant.right these t n early
            | inr late ↦
                let is = depth n late lt in
                let child = t.child node n in_trie (omega arith, omega arith) in
                let longer = ap length child in
                let one = length-append (these.label node) (slice_index bytes n ∷ []) in
                let known = c.nodes.invariant.right these t node within in
                omega arith
          ];
    }

pub nodes-init : goal.nodes-init
nodes-init c =
    let pushed : c.push.new.self.items ≡ 0 ∷ [] = cc (c.in_ok-push.ensures.items, c.in_ok-depths.ensures.items) in
    let one : length c.push.new.self.items ≡ 1 = rw pushed in
    record {
      all = one ∙ sym c.requires.trie.start;
      small = λ n below. let first : n ≡ 0 = omega arith in rw (first, pushed) (omega arith);
      right = λ all t n below. let first : n ≡ 0 = omega arith in rw (first, pushed, t.root) refl;
    }

pub returns : goal.returns
returns c =
    let end : c.nodes.node ≡ length c.args.trie.now.bytes.items = omega (arith, c.nodes-test.false, c.nodes.auto.node-end, c.len-node-end.ensures) in
    let same : length c.nodes.depths.items ≡ length c.args.trie.now.bytes.items = cc (c.nodes.invariant.all, c.requires.trie.last) in
    record {
      all = same;
      right = λ all t n below. c.nodes.invariant.right all t n (omega arith);
    }
