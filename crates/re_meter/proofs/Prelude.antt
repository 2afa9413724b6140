-- The words of specs and of std that proofs of this crate use, passed on from one place. Declares nothing.
pub use Rattle.{
  re_meter.specs.Meters.{AddsUpTo, Steps, many_built, many_passed, many_reused},
  std.proofs.Common.{arith, subst, sym, ℕ, ◌+◌, ◌≡◌, ◌≤◌},
}
