use Rattle.re_strings.proofs.{Prelude.{◌≡◌, length, arith, length-map, NoneBegins, key, keys}, lemmas.SetLeaps.{leap_stands, leap_between}}
use Rattle.re_strings.proofs.aho_corasick.AhoCorasick.next_start.Goals as goal

pub returns-clause-stands : goal.returns-clause-stands
returns-clause-stands c = λ all t from low s.
    let line = keys c.args.self.now.fold c.args.line.now in
    let size : length line ≡ length c.args.line.now = length-map c.args.line.now (key c.args.self.now.fold) in
    let here = c.requires.within in
    let within = c.leap.ensures.within.1 in
    let none : NoneBegins all.strings line c.args.place c.leap.result =
    rw c.requires.alike at (c.leap.ensures.none all.strings t.leaps t.fronts) in
    leap_stands all from line t.trie.root c.args.place c.args.node (omega (arith, c.if-node-gt0.false)) s (omega arith)
    low c.leap.ensures.within.0 (omega arith) none

pub returns-clause-between : goal.returns-clause-between
returns-clause-between c = λ all t from low s.
    let line = keys c.args.self.now.fold c.args.line.now in
    let size = length-map c.args.line.now (key c.args.self.now.fold) in
    let here = c.requires.within in
    let none =
    rw c.requires.alike at (c.leap.ensures.none all.strings t.leaps t.fronts) in
    leap_between _ _ _ t.trie.root _ c.args.node (omega (arith, c.if-node-gt0.false)) s (omega arith) _ none
