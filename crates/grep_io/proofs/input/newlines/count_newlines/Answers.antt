use Rattle.{grep_io.proofs.{Prelude.{◌+◌, ◌*◌, ◌-◌, length, sym, ap, ◌∙◌, arith, is_byte, places_between, newline}, lemmas.NewlineLanes.places_joined}, memchr.proofs.lemmas.PlaceLemmas.{places_between-none, length-places_from}}
use Rattle.grep_io.proofs.input.newlines.count_newlines.Goals as goal

pub portions-init : goal.portions-init
portions-init c = (omega arith, sym (rw (places_between-none (is_byte newline) c.args.bytes.now 0 0 (omega arith) (λ k a b. absurd (omega arith)))))

pub overflow_add-count : goal.overflow_add-count
overflow_add-count c =
    let before = length-places_from (is_byte newline) c.args.bytes.now 0 (c.portions.start - 0) in
    let here = length-places_from (is_byte newline) c.args.bytes.now c.portions.start (c.portions.start + 64 * c.min-vectors.result - c.portions.start) in
    omega arith

pub portions-preserved : goal.portions-preserved
portions-preserved c =
    let next = c.portions.start + 64 * c.min-vectors.result in (omega arith, ap (λ n. n + c.newlines_in_vectors.result) c.portions.invariant.1 ∙ ap (λ n. length (places_between (is_byte newline) c.args.bytes.now 0 c.portions.start) + n) c.newlines_in_vectors.ensures ∙ sym (places_joined (is_byte newline) c.args.bytes.now 0 c.portions.start next (omega arith) (omega arith)))

pub overflow_add-result : goal.overflow_add-result
overflow_add-result c =
    let before = length-places_from (is_byte newline) c.args.bytes.now 0 (c.portions.start - 0) in
    let rest = length-places_from (is_byte newline) c.args.bytes.now c.portions.start (length c.args.bytes.now - c.portions.start) in
    omega arith

pub returns : goal.returns
returns c = cc (c.portions.invariant.1, c.newlines_between.ensures, places_joined (is_byte newline) c.args.bytes.now 0 c.portions.start (length c.args.bytes.now) (omega arith) (omega arith))
