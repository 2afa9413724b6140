use Rattle.re_steps.proofs.Prelude.{◌≡◌, [], expression_of, Whole, AreSetsFor, Cache, Stage, Goes}
use Rattle.re_steps.proofs.sets.SetPair.rest_is_line.Given as goal

abbrev pub invariant-places : goal.invariant-places
invariant-places l = record {
  made : AreSetsFor (expression_of l.automaton) l.self;
  goes : (first : Stage) (cache : Cache) → cache.entries ≡ []
      → Goes (expression_of l.automaton) Whole l.line l.fn.from first (record { set = l.fn.self.current; cache = cache; steps = l.fn.meter })
      → Goes (expression_of l.automaton) Whole l.line l.place first (record { set = l.self.current; cache = cache; steps = l.meter });
}
