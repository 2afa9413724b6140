-- Why an interval is refused for its numbers (XBD 9.3.6 item 5, 9.4.6 item 5).
use Rattle.std.specs.Prelude.{ℕ, ◌<◌, ◌≤◌, Option, Some}
use Rattle.re_syntax.specs.declared.fault.FaultKind.TheVariants.{BadInterval, IntervalTooLarge}
use Rattle.re_syntax.specs.{declared.fault.FaultKind.FaultKind, Profile.most_repeats}

-- why an interval of these numbers is refused; too large takes precedence over descending
pub data IsDisallowed : FaultKind → ℕ → Option ℕ → Type 0 where
  least_too_large : {least : ℕ} {most : Option ℕ} → most_repeats < least →
      IsDisallowed IntervalTooLarge least most
  most_too_large : {least top : ℕ} → most_repeats < top →
      IsDisallowed IntervalTooLarge least (Some top)
  descending : {least top : ℕ} → top < least → least ≤ most_repeats →
      IsDisallowed BadInterval least (Some top)
