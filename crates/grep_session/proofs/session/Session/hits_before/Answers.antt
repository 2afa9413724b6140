use Rattle.grep_session.proofs.{Prelude.{take, HoldsOfMany, File, Selected}, lemmas.{CountLemmas.of_file, SessionLemmas.inputs_are}}
use Rattle.grep_session.proofs.session.Session.hits_before.Goals as goal

pub returns : goal.returns
returns c = of_file (λ es options (file : File). HoldsOfMany (Selected es options) (take c.args.place file.lines) c.selected_before.result) c.args.k c.self.invariant (inputs_are c.self.view_is) c.deref.ensures.value c.in-Some.ensures.lookup.3.0 (c.in-Some.ensures.lookup.3.1 c.in-Some.file.now) c.selected_before.ensures
