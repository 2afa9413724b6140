use Rattle.{re_match.proofs.Prelude.{◌≡◌, ◌-◌, ◌≤◌, length, expression_of, BeginsLater}, re_auto.specs.Searches.AddsAtMost}
use Rattle.re_match.proofs.cached.CachedLineMatch.find.Given as goal

abbrev pub invariant-windows : goal.invariant-windows
invariant-windows l = record { high : l.place ≤ length l.line; same : l.self ≡ l.fn.self; later : BeginsLater (expression_of l.fn.self.tree) l.line l.from l.place; steps : AddsAtMost (l.place - l.from) l.fn.meter l.meter }

abbrev pub decreases-windows : goal.decreases-windows
decreases-windows l = length l.line - l.place
