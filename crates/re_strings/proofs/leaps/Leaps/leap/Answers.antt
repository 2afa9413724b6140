use Rattle.re_strings.proofs.{Prelude.{◌+◌, ◌<◌, length, arith, length-map, key, keys}, lemmas.SetLeaps.{none_begins_on, none_begins_to_end}}
use Rattle.re_strings.proofs.leaps.Leaps.leap.Goals as goal

pub windows-init : goal.windows-init
windows-init c = record {
  low = c.stride-at.ensures.within.0;
  high = c.stride-at.ensures.within.1;
  none = λ strings a b. c.stride-at.ensures.none strings a;
}

pub windows-preserved : goal.windows-preserved
windows-preserved c =
    let low = c.windows.invariant.low in
    let on = c.stride-at-in-windows.ensures.within in
    record {
      low = omega arith;
      high = on.1;
      none = λ strings a b.
          let line = keys c.args.fold c.args.line.now in
          let next = c.windows.at + c.near_shift-shift.result in
          none_begins_on _ _ _ _ _ on.0
          (none_begins_on _ _ _ _ _ (omega arith) (c.windows.invariant.none strings a b) (c.near_shift-shift.ensures.none strings a b))
          (c.stride-at-in-windows.ensures.none strings a);
    }

pub returns-clause-none : goal.returns-clause-none
returns-clause-none c = λ strings a b.
    let line = keys c.args.fold c.args.line.now in
    let size = length-map c.args.line.now (key c.args.fold) in
    let high = c.windows.invariant.high in
    let past : length line < c.windows.at + c.args.self.now.window = omega (arith, c.windows-test.false) in
    rw size at (none_begins_to_end _ _ _ a _ _ past (c.windows.invariant.none strings a b))
