use Rattle.re_strings.proofs.{Prelude.{◌≡◌, ◌+◌, ◌-◌, arith, keys}, lemmas.SetLeaps.{none_begins_at_first, none_begins_on}}
use Rattle.re_strings.proofs.leaps.Leaps.stride.Goals as goal

pub windows-init : goal.windows-init
windows-init c = record {
  low = omega arith;
  high = c.requires.within;
  none = λ strings a. none_begins_at_first strings (keys c.args.fold c.args.line.now) c.args.place;
}

pub windows-preserved : goal.windows-preserved
windows-preserved c =
    let low = c.windows.invariant.low in
    let short = c.shift.ensures.short in
    let longest : c.windows.at + c.shift.result ≡ c.windows.at + (c.args.self.now.window - 1) = omega (arith, c.if-shift-longest.false) in
    record {
      low = omega arith;
      high = omega (arith, c.windows-test.true);
      none = λ strings a.
          let line = keys c.args.fold c.args.line.now in
          none_begins_on _ _ _ _ _ (omega arith) (c.windows.invariant.none strings a)
          (rw longest at (c.shift.ensures.none strings a));
    }
