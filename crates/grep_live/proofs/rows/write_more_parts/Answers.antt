use Rattle.{grep_live.proofs.{Prelude.{◌<◌, ◌∷◌, [], length, map, get_or, arith, length-map, Span, GoesOut, StopsWithin, span_places, part_text, more_parts}, lemmas.Pushing.{each_none, each_on, each_stops, each_all}}, std.proofs.Math.ListN.get_or-map, grep_session.proofs.lemmas.Writing.writes_err}
use Rattle.grep_live.proofs.rows.write_more_parts.Goals as goal

pub loop-part-init : goal.loop-part-init
loop-part-init g c = each_none g.W.CountedWrite.contents g.W.CountedWrite.failures (λ part. 44 ∷ part_text part) (map span_places c.args.parts.now) _

pub loop-part-preserved : goal.loop-part-preserved
loop-part-preserved g c =
    let parts = c.args.parts.now in
    let i = c.loop-part.part-index in
    let d : Span = record { start = 0; end = 0 } in
    let inside : i < length (map span_places parts) = omega (arith, length-map parts span_places) in
    let went : GoesOut g.W.CountedWrite.contents g.W.CountedWrite.failures c.loop-part.out c.write_next_part.new.out (44 ∷ part_text (get_or (map span_places parts) i (span_places d))) =
    rw (get_or-map span_places parts i d) c.in_ok-write_next_part.ensures in
    each_on g.W.CountedWrite.contents g.W.CountedWrite.failures (λ part. 44 ∷ part_text part) _ _ _ _ i _ inside c.loop-part.invariant went

pub returns-in_err-write_next_part : goal.returns-in_err-write_next_part
returns-in_err-write_next_part g c =
    let parts = c.args.parts.now in
    let i = c.loop-part.part-index in
    let d : Span = record { start = 0; end = 0 } in
    let inside : i < length (map span_places parts) = omega (arith, length-map parts span_places) in
    let stopped : StopsWithin g.W.CountedWrite.contents g.W.CountedWrite.failures c.loop-part.out c.write_next_part.new.out (44 ∷ part_text (get_or (map span_places parts) i (span_places d))) =
    rw (get_or-map span_places parts i d) c.in_err-write_next_part.ensures in
    writes_err g.W.CountedWrite.contents g.W.CountedWrite.failures [] _ _ (more_parts (map span_places parts)) c.from_residual.result c.from_residual.ensures.0
    (each_stops g.W.CountedWrite.contents g.W.CountedWrite.failures (λ part. 44 ∷ part_text part) _ _ _ _ i _ inside c.loop-part.invariant stopped)

pub returns : goal.returns
returns g c =
    each_all g.W.CountedWrite.contents g.W.CountedWrite.failures (λ part. 44 ∷ part_text part) _ _ _ _ (omega (arith, length-map c.args.parts.now span_places)) c.loop-part.invariant
