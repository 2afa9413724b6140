use Rattle.re_ends.{proofs.Prelude.{◌-◌, ◌<◌, ◌≡◌, slice_index}, specs.Working.{Closing.{AreMet, AreNoneMet, Byte}, Groups.group_of}}
use Rattle.re_ends.proofs.groups.Groups.close_all.Given as goal

-- the pieces before are met
abbrev pub invariant-pieces : goal.invariant-pieces
invariant-pieces l = record {
  met : (b : Byte) → b.after ≡ l.after → AreNoneMet b l.fn.self → AreMet b l.i l.group l.range l.self;
  first : l.i ≡ 0 → l.group ≡ 0;
  last : 0 < l.i → group_of (slice_index l.after (l.i - 1)) ≡ l.group;
}
