use Rattle.grep_session.proofs.{Prelude.{length, get_or, ◌<◌, ◌≤◌, ℕ, [], File, Selected}, lemmas.{CountLemmas.of_file, SessionLemmas.inputs_are}}
use Rattle.grep_session.proofs.session.Session.next_hit.Goals as goal

pub returns-clause-passed : goal.returns-clause-passed
returns-clause-passed c = of_file (λ es options (file : File). (i : ℕ) → c.args.place ≤ i → i < c.next_selected.result → Selected es options (get_or file.lines i []) → ⊥) c.args.k c.self.invariant (inputs_are c.self.view_is) c.deref.ensures.value c.in-Some.ensures.lookup.3.0 (c.in-Some.ensures.lookup.3.1 c.in-Some.file.now) c.next_selected.ensures.passed

pub returns-clause-hit : goal.returns-clause-hit
returns-clause-hit c = of_file (λ es options (file : File). c.next_selected.result < length file.lines → Selected es options (get_or file.lines c.next_selected.result [])) c.args.k c.self.invariant (inputs_are c.self.view_is) c.deref.ensures.value c.in-Some.ensures.lookup.3.0 (c.in-Some.ensures.lookup.3.1 c.in-Some.file.now) c.next_selected.ensures.hit
