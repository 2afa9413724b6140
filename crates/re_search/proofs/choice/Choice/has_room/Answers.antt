use Rattle.{re_search.proofs.Prelude.{map, ap, arith, alt, expression_of, positions}, std.proofs.lemmas.Bool.{leb-true, le-leb}}
use Rattle.re_search.proofs.choice.Choice.has_room.Goals as goal

pub returns : goal.returns
returns c fold counted =
    let total = ap (λ ts. positions (alt (map expression_of ts))) c.self.view_is in
    let count = c.positions.ensures fold counted in
    (λ h. omega (arith, leb-true _ _ h, total, count, c.self.invariant.0, c.self.invariant.1), λ h. le-leb _ _ (omega (arith, h, total, count, c.self.invariant.0, c.self.invariant.1)))
