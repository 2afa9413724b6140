use Rattle.{grep_utility.proofs.Prelude.{◌≡◌, ◌≤◌, rules, [], ◌∷◌, length, arith, sym, ap, ◌∙◌, append-nil, append_assoc, map, map-append, All-nil, All-head, All-tail, meant_by, IsCounted, most_kept}, std.{specs.Vec.Iter.into_iter_items, proofs.lemmas.List.nil_from_length}}
use Rattle.grep_utility.proofs.joined.joined_matchers.Goals as goal

pub loop-pattern-init : goal.loop-pattern-init
loop-pattern-init c =
    (search rules, search rules, search rules, rw (c.new.ensures.items, c.new-2.ensures) (record { same = λ line i j. (λ a. a, λ a. a); fewer = omega arith; wholes = All-nil (λ w. w ≡ c.args.options.now.line_regexp); rooms = All-nil (λ n. n ≤ most_kept) }))

pub add-requires : goal.add-requires
add-requires c = All-head (IsCounted c.args.options.now.ignore_case) c.in-Some.pattern (into_iter_items c.next.new.self) (rw c.in-Some.ensures.steps.0 at c.loop-pattern.invariant.2)

pub loop-pattern-preserved : goal.loop-pattern-preserved
loop-pattern-preserved c =
    let (left, long, counted, grouped) = c.loop-pattern.invariant in
    let fold = c.args.options.now.ignore_case in
    let done = c.loop-pattern.yielded in
    let p = c.in-Some.pattern in
    let (steps, gone) = c.in-Some.ensures.steps in
    let new = c.add.new.self in (
      append_assoc done (p ∷ []) _ ∙ rw (← steps) left,
      omega (arith, ap length steps),
      All-tail (IsCounted fold) p (into_iter_items c.next.new.self) (rw steps at counted),
      rw (map-append (meant_by fold) done (p ∷ [])) (c.in_ok-add.ensures (map (meant_by fold) done) grouped),
    )

pub returns : goal.returns
returns c =
    let (left, long, counted, grouped) = c.loop-pattern.invariant in
    let none = nil_from_length (into_iter_items c.loop-pattern.pattern-iterator) (sym long ∙ c.in-None.ensures.steps.0) in
    let all : c.loop-pattern.yielded ≡ c.args.patterns.items = sym (append-nil c.loop-pattern.yielded) ∙ rw none at left in
    rw all at (c.in_ok-close.ensures.closed (map (meant_by c.args.options.now.ignore_case) c.loop-pattern.yielded) grouped)
