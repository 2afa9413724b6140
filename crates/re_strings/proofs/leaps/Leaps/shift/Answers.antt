use Rattle.re_strings.proofs.{Prelude.{◌≡◌, ◌+◌, ◌-◌, ◌<◌, slice_index, sym, ap, ◌∙◌, arith, length-map, pair_row, key, keys}, lemmas.{KeyLaws.key_at, SetSearch.row_read, SetLeaps.none_begins_leap}}
use Rattle.re_strings.proofs.leaps.Leaps.shift.Goals as goal

pub returns-clause-short : goal.returns-clause-short
returns-clause-short c =
    let full = c.requires.leaps.full in
    let row : c.row_of.result < 32896 = omega (arith, c.row_of.ensures) in
    let read = row_read c.args.self.now.shifts.items c.row_of.result (omega arith) c.index.ensures in
    let short = c.requires.leaps.short (omega arith) c.row_of.result row in
    omega arith

pub returns-clause-none : goal.returns-clause-none
returns-clause-none c = λ strings a.
    let l = c.args.self.now in
    let line = keys c.args.fold c.args.line.now in
    let size = length-map c.args.line.now (key c.args.fold) in
    let room = c.requires.within in
    let pair = c.requires.pair in
    let full = c.requires.leaps.full in
    let row : c.row_of.result < 32896 = omega (arith, c.row_of.ensures) in
    let read = row_read l.shifts.items c.row_of.result (omega arith) c.index.ensures in
    let short = c.requires.leaps.short (omega arith) c.row_of.result row in
    let at_first : c.args.at + l.window - 1 - 1 ≡ c.args.at + l.window - 2 = omega arith in
    let first =
    key_at c.args.fold c.args.line.now (c.args.at + l.window - 2) (omega arith) ∙ ap (λ n. key c.args.fold (slice_index c.args.line.now n)) (sym at_first) ∙ sym c.key_of-before.ensures in
    let second =
    key_at c.args.fold c.args.line.now (c.args.at + l.window - 1) (omega arith) ∙ sym c.key_of-byte.ensures in
    let there : pair_row (slice_index line (c.args.at + l.window - 2)) (slice_index line (c.args.at + l.window - 1)) ≡ c.row_of.result = omega (arith, c.row_of.ensures) in
    none_begins_leap _ _ l a _ _ pair (omega arith) (omega arith) (cc)
