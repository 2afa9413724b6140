use Rattle.{grep_session.proofs.Prelude.{sym, ap, ◌∙◌, arith, length-map}, std.proofs.Math.ListN.get_or-map}
use Rattle.grep_session.proofs.new_lines.NewLines.from_lines.Goals as goal

pub push-requires : goal.push-requires
push-requires c =
    let i = c.loop-line.line-index in
    let x = c.line-item.result in
    let there = c.if-any_newline.ensures i x.items (omega (arith, length-map c.args.lines.now (λ line. line.items))) in
    rw (get_or-map (λ line. line.items) c.args.lines.now i x ∙ ap (λ l. l.items) (sym c.line-item.is) ∙ sym c.deref.ensures.value) at there
