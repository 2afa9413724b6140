use Rattle.grep_session.proofs.{Prelude.{◌≡◌, map, ◌∙◌, matched_expression}, lemmas.{AllPatternsRead.{kept_files, AreMatchers-options}, SessionLemmas.inputs_are}}
use Rattle.grep_session.proofs.session.Session.put_options.Goals as goal

pub invariant_of-self : goal.invariant_of-self
invariant_of-self c =
    let s = c.self.inside in
    let whole : c.args.options.line_regexp ≡ s.options.line_regexp = c.requires.same_whole ∙ rw (← inputs_are c.self.view_is) in
    let case : c.args.options.ignore_case ≡ s.options.ignore_case = c.requires.same_case ∙ rw (← inputs_are c.self.view_is) in
    let less = rw (← inputs_are c.self.view_is) at c.requires.no_parts in
    record {
      matchers = AreMatchers-options s.syntax s.options c.args.options s.matchers.items whole case c.self.invariant.matchers;
      few = c.self.invariant.few;
      kept = kept_files (map matched_expression s.matchers.items) s.options c.args.options whole less s.files.items c.self.invariant.kept;
      rooms = c.self.invariant.rooms;
      some_states = c.self.invariant.some_states;
      few_states = c.self.invariant.few_states;
      fit = c.self.invariant.fit;
    }
