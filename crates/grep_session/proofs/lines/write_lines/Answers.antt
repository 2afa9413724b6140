use Rattle.{grep_session.proofs.{Prelude.{◌<◌, [], length, get_or, arith, sym, ◌∙◌, length-map, all_of, line_text, no_line}, lemmas.{GroupsWritten.groups_none, PlaceLemmas.{none_due, shown_none, shown_on, shown_stops, shown_all}}}, std.proofs.lemmas.List.get_or-map}
use Rattle.grep_session.proofs.lines.write_lines.Goals as goal

pub returns-in_default : goal.returns-in_default
returns-in_default g c = λ es kept.
    groups_none (none_due es _ _ _ _ _ (sym c.context_of.ensures ∙ c.in_default.is))

pub places-init : goal.places-init
places-init g c = record {
  shown = λ es kept. shown_none _ _ _ _ (sym c.context_of.ensures ∙ c.in-Some.is) c.args.some c.args.out.now _ (c.next_shown-near.ensures.shown es kept);
  near = c.next_shown-near.ensures.near;
  within = c.next_shown-near.ensures.within;
}

pub places-preserved : goal.places-preserved
places-preserved g c =
    let lines = all_of c.args.lines.now in
    let inside : c.places.k < length lines = omega arith in
    let at = get_or-map line_text lines c.places.k no_line [] inside in
    record {
      shown = λ es kept. shown_on _ _ _ _ (c.places.invariant.shown es kept) (omega (arith, length-map lines line_text)) (get_or lines c.places.k no_line) at (kept c.places.k no_line inside) _ c.in_ok-write_place.ensures (c.next_shown-later.ensures.shown es kept);
      near = c.next_shown-later.ensures.near;
      within = c.next_shown-later.ensures.within;
    }

pub places-smaller : goal.places-smaller
places-smaller g c = omega arith

pub returns-in_err-write_place : goal.returns-in_err-write_place
returns-in_err-write_place g c = λ es kept.
    let lines = all_of c.args.lines.now in
    let inside : c.places.k < length lines = omega arith in
    let at = get_or-map line_text lines c.places.k no_line [] inside in
    shown_stops _ _ _ _ (c.places.invariant.shown es kept) (omega (arith, length-map lines line_text)) (get_or lines c.places.k no_line) at (kept c.places.k no_line inside) c.from_residual.result c.from_residual.ensures.0 c.in_err-write_place.ensures

pub returns : goal.returns
returns g c = λ es kept. shown_all _ _ _ _ (c.places.invariant.shown es kept) (omega (arith, length-map (all_of c.args.lines.now) line_text))
