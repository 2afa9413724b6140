use Rattle.re_strings.proofs.{Prelude.{◌≡◌, ◌<◌, length, slice_index, sym, subst, ◌∙◌, arith, length-map, StandsAtNode, key, keys}, lemmas.{KeyLaws.key_at, SetSearch.{byte_read, stands_after}}}
use Rattle.re_strings.proofs.aho_corasick.AhoCorasick.pass.Goals as goal

pub returns-then-start-line-clause-between : goal.returns-then-start-line-clause-between
returns-then-start-line-clause-between c = λ all t from low s i k lt inside.
    c.next_start-start.ensures.between all t from low s i k lt (omega arith)

pub returns-clause-stands : goal.returns-clause-stands
returns-clause-stands c = λ all t from low s.
    let fold = c.args.self.now.fold in
    let line = keys fold c.args.line.now in
    let size = length-map c.args.line.now (key fold) in
    let start = c.next_start-start.result in
    let within = c.next_start-start.ensures.within.1 in
    let inside : start < length c.args.line.now = omega (arith, c.if-start-line.false) in
    let is : c.key_of-byte.result ≡ key fold (slice_index c.args.line.now start) = cc (c.key_of-byte.ensures, c.requires.alike) in
    let here = is ∙ sym (key_at _ _ _ inside) in
    let steps = (rw c.deref.ensures.value at c.step-into.ensures.step) all t.trie t.steps t.fails in
    stands_after _ _ _ _ _ _ (omega arith) (c.next_start-start.ensures.stands all t from low s)
    (rw here at steps)

pub returns-clause-begun : goal.returns-clause-begun
returns-clause-begun c = λ all t from some s.
    let fold = c.args.self.now.fold in
    let line = keys fold c.args.line.now in
    let size = length-map c.args.line.now (key fold) in
    let start = c.next_start-start.result in
    let within = c.next_start-start.ensures.within.1 in
    let inside : start < length c.args.line.now = omega (arith, c.if-start-line.false) in
    let is : c.key_of-byte.result ≡ key fold (slice_index c.args.line.now start) = cc (c.key_of-byte.ensures, c.requires.alike) in
    let here = is ∙ sym (key_at _ _ _ inside) in
    let steps = (rw c.deref.ensures.value at c.step-into.ensures.step) all t.trie t.steps t.fails in
    byte_read all from line start c.args.node c.step-into.result (omega (arith, size, inside)) (subst (λ n. StandsAtNode all from line n c.args.node) (sym (c.next_start-start.ensures.begun some)) s)
    (rw here at steps)
