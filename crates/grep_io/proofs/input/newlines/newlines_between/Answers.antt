use Rattle.{grep_io.proofs.{Prelude.{◌+◌, ◌-◌, ap, sym, ◌∙◌, arith, eq-eqb, eqb-true, is_byte, newline}, input.newlines.newlines_between.Goals.{then-bytes-place-eq10, else-bytes-place-eq10}}, memchr.proofs.lemmas.PlaceLemmas.{places_between-none, length-places_from, length-places_between-hit, length-places_between-miss}}
use Rattle.grep_io.proofs.input.newlines.newlines_between.Goals as goal

pub places-init : goal.places-init
places-init c = (omega arith, sym (rw (places_between-none (is_byte newline) c.args.bytes.now c.args.from c.args.from (omega arith) (λ k a b. absurd (omega arith)))))

pub overflow_add-count : goal.overflow_add-count
overflow_add-count c =
    let bound = length-places_from (is_byte newline) c.args.bytes.now c.args.from (c.places.place - c.args.from) in
    omega arith

pub places-preserved : goal.places-preserved
places-preserved c =
    let old = c.places.invariant in
    let test = is_byte newline in (
      omega arith,
      elim c.if-bytes-place-eq10.branch [
        | then-bytes-place-eq10 w ↦
            w.count-is ∙ ap (λ n. n + 1) old.1 ∙ sym (length-places_between-hit test c.args.bytes.now c.args.from c.places.place old.0 (eq-eqb _ _ w.if-bytes-place-eq10.true))
        | else-bytes-place-eq10 w ↦
            w.count-is ∙ old.1 ∙ sym (length-places_between-miss test c.args.bytes.now c.args.from c.places.place old.0 (λ p. w.if-bytes-place-eq10.false (eqb-true _ _ p)))
      ],
    )
