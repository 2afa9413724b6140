use Rattle.re_steps.proofs.Prelude.{◌≡◌, [], ◌-◌, ◌≤◌, length, expression_of, Search, AreSetsFor, Cache, Stage, Goes}
use Rattle.re_steps.proofs.sets.SetPair.rest_stands.Given as goal

abbrev pub invariant-places : goal.invariant-places
invariant-places l = record {
  within : l.place ≤ length l.line;
  made : AreSetsFor (expression_of l.automaton) l.self;
  goes : (first : Stage) (cache : Cache) → cache.entries ≡ []
      → Goes (expression_of l.automaton) Search l.line l.fn.from first (record { set = l.fn.self.current; cache = cache; steps = l.fn.meter })
      → Goes (expression_of l.automaton) Search l.line l.place first (record { set = l.self.current; cache = cache; steps = l.meter });
}

abbrev pub decreases-places : goal.decreases-places
decreases-places l = length l.line - l.place
