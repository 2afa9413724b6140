-- The files that a command searches, as sources that are opened in order.
use Rattle.std.specs.Prelude.{◌≡◌, ℕ, List, drop}
use Rattle.{re_syntax.specs.Bytes.Text, grep_utility.specs.Folder.{Folder, sources_named}}

-- from place k on the words name, by what is known now, what they named by what was known at the
-- start
abbrev pub StandsAt : Folder → Folder → List Text → ℕ → Type 0
StandsAt start now words k = sources_named now (drop k words) ≡ drop k (sources_named start words)
