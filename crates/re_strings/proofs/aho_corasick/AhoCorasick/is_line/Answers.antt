use Rattle.re_strings.proofs.{Prelude.{[], ◌∷◌, ◌++◌, slice_index, sym, ap, ◌∙◌, arith, key, keys, false≢true, length-map}, lemmas.{KeyLaws.key_at, SetSearch.{goes_on_in_line, ends_whole, all_read, one_more_byte}}}
use Rattle.re_strings.proofs.aho_corasick.AhoCorasick.is_line.Goals as goal

pub returns-in_default : goal.returns-in_default
returns-in_default c = λ all t.
    let fold = c.args.self.now.fold in
    let line = keys fold c.args.line.now in
    let size = length-map c.args.line.now (key fold) in
    let here = c.key_of.ensures ∙ sym (key_at _ _ _ c.places-test.true) in
    let none = rw here at (c.in_default.ensures.reported all t.trie) in (
      (λ h. absurd (false≢true h)),
      (λ whole. absurd (goes_on_in_line _ _ _ _ (omega arith) (c.places.invariant.read all t) none whole)),
    )

pub places-preserved : goal.places-preserved
places-preserved c =
    let fold = c.args.self.now.fold in
    let line = keys fold c.args.line.now in
    let size = length-map c.args.line.now (key fold) in
    let here = c.key_of.ensures ∙ sym (key_at _ _ _ c.places-test.true) in
    record {
      in_trie = c.in-Some.ensures.beyond.1;
      read = λ all t.
          c.in-Some.ensures.reported all t.trie ∙ ap (λ b. all.label c.places.node ++ b ∷ []) here ∙ ap (λ w. w ++ slice_index line c.places.place ∷ []) (c.places.invariant.read all t)
          ∙ sym (one_more_byte _ _ (omega arith));
    }

pub returns : goal.returns
returns c = λ all t.
    let line = keys c.args.self.now.fold c.args.line.now in
    let size = length-map c.args.line.now (key c.args.self.now.fold) in
    let is = c.places.invariant.read all t ∙ all_read line c.places.place (omega arith) in
    rw size at
    (ends_whole _ _ _ (omega arith) is (c.ending.ensures all t))
