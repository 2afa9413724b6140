use Rattle.re_strings.proofs.{Prelude.{◌≡◌, ◌+◌, ◌<◌, ◌∷◌, [], ◌++◌, length, slice_index, sym, ap, ◌∙◌, arith, get_or_default_zero}, lemmas.SetTries.{found_between, not_between}}
use Rattle.re_strings.proofs.trie.Trie.child.Goals as goal

pub returns-clause-reported : goal.returns-clause-reported
returns-clause-reported c = λ all t front.
    let found = t.complete c.args.node c.args.byte c.requires.within front in
    let ordered = c.requires.trie.ordered c.args.node c.requires.within in
    let i =
    c.index.ensures ∙ get_or_default_zero c.args.self.now.first.items c.args.node c.index.result.now (omega arith) in
    let j =
    c.index-2.ensures ∙ get_or_default_zero c.args.self.now.first.items (c.args.node + 1) c.index-2.result.now (omega arith) in
    c.children.invariant found.0 (omega arith) (omega arith) found.2

low_of : (c : goal.Then-index-byte) → c.index.result.now ≡ slice_index c.args.self.now.first.items c.args.node
low_of c = c.index.ensures ∙ get_or_default_zero c.args.self.now.first.items c.args.node c.index.result.now (omega arith)

high_of : (c : goal.Then-index-byte) → c.index-2.result.now ≡ slice_index c.args.self.now.first.items (c.args.node + 1)
high_of c = c.index-2.ensures ∙ get_or_default_zero c.args.self.now.first.items (c.args.node + 1) c.index-2.result.now (omega arith)

pub returns-then-index-byte-clause-reported : goal.returns-then-index-byte-clause-reported
returns-then-index-byte-clause-reported c = λ all t.
    let low = c.children.auto.child in
    let high = c.children-test.true in
    let within = c.requires.trie.within c.args.node c.requires.within in
    let byte =
    sym (c.index-in-children.ensures ∙ get_or_default_zero c.args.self.now.bytes.items c.children.child c.index-in-children.result.now (omega (arith, high_of c))) ∙ c.if-index-byte.true in
    t.child c.args.node c.children.child c.requires.within (omega (arith, low_of c), omega (arith, high_of c))
    ∙ ap (λ b. all.label c.args.node ++ b ∷ []) byte

pub returns-then-index-byte-clause-beyond : goal.returns-then-index-byte-clause-beyond
returns-then-index-byte-clause-beyond c =
    let low = c.children.auto.child in
    let high = c.children-test.true in
    let beyond = c.requires.trie.beyond c.args.node c.requires.within in
    let within = c.requires.trie.within c.args.node c.requires.within in
    (omega (arith, low_of c), omega (arith, high_of c), omega (arith, high_of c))

pub returns-in_err-place-clause-reported : goal.returns-in_err-place-clause-reported
returns-in_err-place-clause-reported c = λ all t. rw c.from_residual.ensures (λ front.
    let found = t.complete c.args.node c.args.byte c.requires.within front in
    let i : c.index.result.now ≡ slice_index c.args.self.now.first.items c.args.node =
    c.index.ensures ∙ get_or_default_zero c.args.self.now.first.items c.args.node c.index.result.now (omega arith) in
    let j : c.index-2.result.now ≡ slice_index c.args.self.now.first.items (c.args.node + 1) =
    c.index-2.ensures ∙ get_or_default_zero c.args.self.now.first.items (c.args.node + 1) c.index-2.result.now (omega arith) in
    not_between c.deref.result.now c.index.result.now c.index-2.result.now
    (let o = c.requires.trie.ordered c.args.node c.requires.within in omega (arith, i, j, o))
    (let o = c.requires.trie.within c.args.node c.requires.within in let e = ap length c.deref.ensures.value in omega (arith, j, o, e))
    c.in_err-place.ensures
    found.0 (omega arith) (omega arith) (ap (λ xs. slice_index xs found.0) c.deref.ensures.value ∙ found.2))

first_of : (c : goal.In_ok-place) → c.index.result.now ≡ slice_index c.args.self.now.first.items c.args.node
first_of c = c.index.ensures ∙ get_or_default_zero c.args.self.now.first.items c.args.node c.index.result.now (omega arith)

end_of : (c : goal.In_ok-place) → c.index-2.result.now ≡ slice_index c.args.self.now.first.items (c.args.node + 1)
end_of c = c.index-2.ensures ∙ get_or_default_zero c.args.self.now.first.items (c.args.node + 1) c.index-2.result.now (omega arith)

found_of : (c : goal.In_ok-place) → (c.index.result.now + c.in_ok-place.place < c.index-2.result.now) × (slice_index c.deref.result.now (c.index.result.now + c.in_ok-place.place) ≡ c.args.byte)
found_of c =
    let ordered = c.requires.trie.ordered c.args.node c.requires.within in
    let within = c.requires.trie.within c.args.node c.requires.within in
    let same = ap length c.deref.ensures.value in
    found_between _ _ _ _ _
    (omega (arith, first_of c, end_of c)) (omega (arith, end_of c)) c.in_ok-place.ensures.0.high c.in_ok-place.ensures.1

pub returns-then-to-from-gt-FEW_CHILDREN-clause-beyond : goal.returns-then-to-from-gt-FEW_CHILDREN-clause-beyond
returns-then-to-from-gt-FEW_CHILDREN-clause-beyond c =
    let low = first_of c in
    let high = end_of c in
    let found = (found_of c).0 in
    let beyond = c.requires.trie.beyond c.args.node c.requires.within in
    let within = c.requires.trie.within c.args.node c.requires.within in
    (omega arith, omega arith, omega arith)

pub returns-then-to-from-gt-FEW_CHILDREN-clause-reported : goal.returns-then-to-from-gt-FEW_CHILDREN-clause-reported
returns-then-to-from-gt-FEW_CHILDREN-clause-reported c = λ all t.
    let low = first_of c in
    let high = end_of c in
    let found = found_of c in
    let m = c.index.result.now + c.in_ok-place.place in
    t.child c.args.node m c.requires.within (omega arith, omega (arith, found.0))
    ∙ ap (λ b. all.label c.args.node ++ b ∷ []) (cc (c.deref.ensures.value, found.1))
