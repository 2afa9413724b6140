-- The runs that a finder looks for.
use Rattle.std.specs.Prelude.{map}
use Rattle.{re_trees.specs.Bytes.only, re_runs.specs.declared.run_finder.RunFinder.RunFinder}
use Rattle.re_runs.specs.Working.Runs.{one_run, Runs, members_of}
use Rattle.re_runs.specs.declared.run_finder.RunFinder.TheVariants as r

-- the runs that are looked for: for a string the one of its single bytes
abbrev pub runs_of : RunFinder → Runs
runs_of (r.Text text) = one_run (map only text)
runs_of (r.Sets runs) = members_of runs
