use Rattle.re_syntax.{proofs.{Prelude.{◌≢◌, [], sym, ◌∙◌, left}, lemmas.BracketFaultsReading.hyphen_within}, specs.BracketFaults.{cut_off, stray}}
use Rattle.re_syntax.proofs.bracket.stray_hyphen.Goals as goal

pub returns-in-Some : goal.returns-in-Some
returns-in-Some c p n m =
    let cursor = c.args.cursor.now in
    let some : left cursor ≢ [] = λ e. (let f = sym c.in-Some.ensures.1 ∙ e in cc) in
    record {
      within = hyphen_within cursor (left cursor) c.requires.hyphen_before;
      is_fault = rw c.requires.hyphen_before (stray n some m);
    }

pub returns-in-None : goal.returns-in-None
returns-in-None c p n m = record { within = c.requires.opened; is_fault = rw c.in-None.ensures (cut_off n) }
