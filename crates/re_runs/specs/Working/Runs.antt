-- Choices of runs of sets of bytes: where one of the runs is in a line, and tests that its bytes pass.
use Rattle.std.specs.Prelude.{◌≡◌, ◌≢◌, ◌==◌, if◌then◌else◌, ℕ, ◌+◌, ◌/◌, ◌%◌, ◌<◌, ◌≤◌, Bool}
use Rattle.std.specs.Prelude.{IsTrue, List, [], ◌∷◌, All, Any, Option, Some, None, min, max, length}
use Rattle.std.specs.{Prelude.{map, take, bit_and, get_or, slice_index}, Global.Vec, Int.bit_at}
use Rattle.re_trees.specs.{Bytes.{Text, Bytes, nothing}, declared.bytes.ByteSet.ByteSet}
use Rattle.{re_trees.specs.Working.Trees.members, memchr.specs.Find.IsFirst}
use Rattle.re_runs.specs.declared.{probes.{Probe.Probe, Probes.Probes}, nibbles.Nibbles.Nibbles}
use Rattle.re_runs.specs.declared.alike.Alike.{Alike}

-- the set at a place of a run
abbrev pub set_at : List Bytes → ℕ → Bytes
set_at run j = get_or run j nothing

-- a choice of runs
abbrev pub Runs : Type 0
Runs = List (List Bytes)

abbrev pub one_run : List Bytes → Runs
one_run run = run ∷ []

-- the runs as code has them
abbrev pub members_of : List (List ByteSet) → Runs
members_of runs = map (map members) runs

-- the sets of each run that a vector has
abbrev pub sets_of_each : List (Vec ByteSet) → Runs
sets_of_each runs = map (λ run. map members run.items) runs

-- none has fewer sets than this
abbrev pub IsNoWider : ℕ → Runs → Type 0
IsNoWider width runs = All (λ run. width ≤ length run) runs

-- how many sets the longest has
abbrev pub longest_of : Runs → ℕ
longest_of [] = 0
longest_of (run ∷ runs) = max (length run) (longest_of runs)

-- from place k on the line has a byte of each of the run's sets, in their order
pub record RunIsAt (line : Text) (k : ℕ) (run : List Bytes) : Type 0 where
  pub fits : k + length run ≤ length line
  pub takes : (j : ℕ) → j < length run → IsTrue (set_at run j (slice_index line (k + j)))

-- it has those of some run
abbrev pub RunStandsAt : Text → Runs → ℕ → Type 0
RunStandsAt line runs k = Any (RunIsAt line k) runs

-- each run that is there has its bit, one of eight
abbrev pub HaveBitsAt : Text → ℕ → Runs → ℕ → Type 0
HaveBitsAt line k runs bits = (n : ℕ) (d : List Bytes) → n < length runs → RunIsAt line k (get_or runs n d) → bit_at bits (n % 8) ≡ 1

-- the longest of the runs there ends at this place
pub record IsLongestRun (line : Text) (runs : Runs) (k end : ℕ) : Type 0 where
  pub ends : Any (λ run. RunIsAt line k run × (end ≡ k + length run)) runs
  pub longest : All (λ run. RunIsAt line k run → k + length run ≤ end) runs

-- how many sets of a run are looked for at most where several runs are looked for at once
abbrev pub most_sets : ℕ
most_sets = 32

-- the first sets of a run, as many as are looked for there
abbrev pub front_of : List Bytes → List Bytes
front_of run = take most_sets run

-- r is the first place in the line of some run
abbrev pub FindsRun : Text → Runs → Option ℕ → Type 0
FindsRun line runs r = IsFirst (λ k. RunStandsAt line runs k) 0 (length line + 1) r

-- no run is anywhere in the line
abbrev pub LacksRun : Runs → Text → Type 0
LacksRun runs line = (k : ℕ) → ¬ RunStandsAt line runs k

-- how many bytes a look passes that begins at the first byte: those up to the place of what it
-- finds, with the byte there; all if it finds nothing
abbrev pub look_cost : Text → Option ℕ → ℕ
look_cost line None = length line
look_cost line (Some k) = min (k + 1) (length line)

-- the line does not begin with a run
abbrev pub BeginsWithout : Runs → Text → Type 0
BeginsWithout runs line = ¬ RunStandsAt line runs 0

-- the bits that both tables have for the byte
abbrev pub bits_of : Nibbles → ℕ → ℕ
bits_of nibbles x = bit_and (slice_index nibbles.low (x % 16)) (slice_index nibbles.high (x / 16))

-- those that the table of low halves has
abbrev pub half_of : Nibbles → ℕ → ℕ
half_of nibbles x = slice_index nibbles.low (x % 16)

-- for all bytes of the set there are some
abbrev pub Covers : Nibbles → Bytes → Type 0
Covers nibbles set = (x : ℕ) → x < 256 → IsTrue (set x) → bits_of nibbles x ≢ 0

-- the bits that are asked for have their values
abbrev pub HasBits : Alike → ℕ → Type 0
HasBits alike x = bit_and x alike.asked ≡ alike.bits

-- they do in all bytes of the set
abbrev pub AreAlike : Alike → Bytes → Type 0
AreAlike alike set = (x : ℕ) → x < 256 → IsTrue (set x) → HasBits alike x

-- 255 if they do in the byte, and else 0
abbrev pub mark_of : Alike → ℕ → ℕ
mark_of alike x = if bit_and x alike.asked == alike.bits then 255 else 0

-- the byte passes both tests of the probe
abbrev pub IsPassedBy : Probe → ℕ → Type 0
IsPassedBy probe x = (bits_of probe.nibbles x ≢ 0) × HasBits probe.alike x

-- the byte at the probe's distance after place k does
abbrev pub PassesAt : Probe → Text → ℕ → Type 0
PassesAt probe line k = IsPassedBy probe (slice_index line (k + probe.at))

-- the byte there has the bit in the probe's tables
abbrev pub HasBitAt : Probe → Text → ℕ → ℕ → Type 0
HasBitAt probe line k bit = bit_at (bits_of probe.nibbles (slice_index line (k + probe.at))) bit ≡ 1

-- all four do, with a bit in common if they are for each of several runs
pub record AllPass (each : Bool) (probes : Probes) (line : Text) (k : ℕ) : Type 0 where
  pub first : PassesAt probes.first line k
  pub second : PassesAt probes.second line k
  pub third : PassesAt probes.third line k
  pub fourth : PassesAt probes.fourth line k
  pub common : IsTrue each → (bit : ℕ) × HasBitAt probes.first line k bit × HasBitAt probes.second line k bit × HasBitAt probes.third line k bit × HasBitAt probes.fourth line k bit

-- there is a byte at each probe's distance after each place before this one
pub record HaveRoom (probes : Probes) (line : Text) (past : ℕ) : Type 0 where
  pub first : past + probes.first.at ≤ length line
  pub second : past + probes.second.at ≤ length line
  pub third : past + probes.third.at ≤ length line
  pub fourth : past + probes.fourth.at ≤ length line

-- each byte of the set has the bit in the tables
abbrev pub HasBitFor : Nibbles → ℕ → Bytes → Type 0
HasBitFor nibbles bit set = (x : ℕ) → x < 256 → IsTrue (set x) → bit_at (bits_of nibbles x) bit ≡ 1

-- so do those that each run has at the place, with one of eight bits
abbrev pub HasBitsOfEach : Nibbles → Runs → ℕ → Type 0
HasBitsOfEach nibbles runs at = (n : ℕ) (d : List Bytes) → n < length runs → HasBitFor nibbles (n % 8) (set_at (get_or runs n d) at)

-- the bytes that the runs have at the probe's distance pass it; those of several runs have bits of their runs
pub record IsProbeOf (probe : Probe) (width : ℕ) (runs : Runs) : Type 0 where
  pub within : probe.at < width
  pub passes : All (λ run. (x : ℕ) → x < 256 → IsTrue (set_at run probe.at x) → IsPassedBy probe x) runs
  pub each : 2 ≤ length runs → HasBitsOfEach probe.nibbles runs probe.at

-- all four are
pub record AreProbesOf (probes : Probes) (width : ℕ) (runs : Runs) : Type 0 where
  pub first : IsProbeOf probes.first width runs
  pub second : IsProbeOf probes.second width runs
  pub third : IsProbeOf probes.third width runs
  pub fourth : IsProbeOf probes.fourth width runs
