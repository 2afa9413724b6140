use Rattle.{re_auto.proofs.{Prelude.{rules, ◌≡◌, ◌<◌, [], Some, None, refl, ◌∙◌, arith, drop-length, IfOk-weaker, alt, cat, empty, begin, end, expression_of, the_lemmas}, lemmas.{Numbered.part_numbered, PartLemmas.{always, never_holds, width_of}, AddedLemmas.{blank_added, turn_added, branch_added, may_join, may_repeat, room_left, front, member_fits, branch_fits}, RepeatedLemmas.{turn_fits, turns_step, up_to_step, no_turns, no_more, bounded_added, unbounded_added, again_tail, any_added, never_added, once_added, maybe_added}}}, re_trees.proofs.lemmas.ExpressionLaws.{expression-Empty, expression-Set, expression-Not, expression-Begin, expression-End, expression-Cat, expression-Alt}}
use Rattle.re_auto.proofs.build.rows.Rows.+add.Goals as goal

pub add-returns-in-Empty : goal.add-returns-in-Empty
add-returns-in-Empty t c = rw (c.in-Empty.is, expression-Empty) (IfOk-weaker c.blank.result _ _ (λ a. blank_added empty refl (λ n b z. always (c.anywhere.ensures b z))) c.blank.ensures)

pub add-returns-in-Begin : goal.add-returns-in-Begin
add-returns-in-Begin t c = rw (c.in-Begin.is, expression-Begin) (IfOk-weaker c.blank-in-Begin.result _ _ (λ a. blank_added begin refl (λ n. c.at_begin.ensures)) c.blank-in-Begin.ensures)

pub add-returns-in-End : goal.add-returns-in-End
add-returns-in-End t c = rw (c.in-End.is, expression-End) (IfOk-weaker c.blank-in-End.result _ _ (λ a. blank_added end refl (λ n. c.at_end.ensures)) c.blank-in-End.ensures)

pub add-add_position-requires-clause-fits : goal.add-add_position-requires-clause-fits
add-add_position-requires-clause-fits t c = omega (arith, rw (c.in-Set.is, expression-Set) at c.requires.fits)

pub add-returns-in-Set : goal.add-returns-in-Set
add-returns-in-Set t c = rw (c.in-Set.is, expression-Set) c.add_position.ensures

pub add-add_position-requires-in-Not-clause-fits : goal.add-add_position-requires-in-Not-clause-fits
add-add_position-requires-in-Not-clause-fits t c = omega (arith, rw (c.in-Not.is, expression-Not) at c.requires.fits)

pub add-returns-in-Cat : goal.add-returns-in-Cat
add-returns-in-Cat t c = rw (c.in-Cat.is, expression-Cat) (rw c.deref.ensures.value at c.add_sequence.ensures)

pub add-returns-in-Alt : goal.add-returns-in-Alt
add-returns-in-Alt t c = rw (c.in-Alt.is, expression-Alt) (rw c.deref-in-Alt.ensures.value at c.add_choice.ensures)

pub add_choice-branches-init : goal.add_choice-branches-init
add_choice-branches-init t c = record { within = omega arith; added = rw drop-length (blank_added (alt []) refl (λ n b z. never_holds (c.nowhere.ensures b z)) c.in_ok-rest.ensures) }

pub add_choice-add-requires : goal.add_choice-add-requires
add_choice-add-requires t c =
    let some : 0 < c.branches.left = omega arith in (
      search (rules, the_lemmas),
      (
        rw c.deref.ensures (branch_fits _ _ _ _ _ some c.branches.invariant.within c.index-branches-left.is c.requires.fits c.branches.invariant.added.begins),
        rw c.deref.ensures (room_left c.branches.invariant.added c.requires.room),
      ),
    )

pub add_choice-either-rest-requires-clause-left : goal.add_choice-either-rest-requires-clause-left
add_choice-either-rest-requires-clause-left t c = rw c.in-Ok.ensures.shows.first_inside.0 (width_of c.in-Ok.ensures.shows)

pub add_choice-either-rest-requires-clause-right : goal.add_choice-either-rest-requires-clause-right
add_choice-either-rest-requires-clause-right t c = rw (c.in-Ok.ensures.shows.first_inside.0 ∙ c.branches.invariant.added.adds.width) (width_of c.branches.invariant.added.shows)

pub add_choice-branches-preserved : goal.add_choice-branches-preserved
add_choice-branches-preserved t c =
    let some : 0 < c.branches.left = omega arith in record {
      within = omega arith;
      added =
          rw (front c.args.branches.now c.branches.left c.index-branches-left.result some c.branches.invariant.within c.index-branches-left.is)
          (branch_added c.branches.invariant.added (rw c.deref.ensures at c.in-Ok.ensures) c.either-rest.ensures.begins c.either-rest.ensures.shows);
    }

pub add_choice-returns : goal.add_choice-returns
add_choice-returns t c =
    let none : c.branches.left ≡ 0 = omega arith in
    rw none at c.branches.invariant.added

pub add_sequence-members-init : goal.add_sequence-members-init
add_sequence-members-init t c = record { within = omega arith; added = rw drop-length (blank_added (cat []) refl (λ n b z. always (c.anywhere.ensures b z)) c.in_ok-rest.ensures) }

pub add_sequence-add-requires : goal.add_sequence-add-requires
add_sequence-add-requires t c =
    let some : 0 < c.members.left = omega arith in (
      search (rules, the_lemmas),
      (
        rw c.deref.ensures (member_fits _ _ _ _ _ some c.members.invariant.within c.index-members-left.is c.requires.fits c.members.invariant.added.begins),
        rw c.deref.ensures (room_left c.members.invariant.added c.requires.room),
      ),
    )

pub add_sequence-in_turn-rest-requires : goal.add_sequence-in_turn-rest-requires
add_sequence-in_turn-rest-requires t c = assumption (may_join c.members.invariant.added (rw c.deref.ensures at c.in-Ok.ensures) c.requires.room (part_numbered (expression_of c.index-members-left.result)))

pub add_sequence-members-preserved : goal.add_sequence-members-preserved
add_sequence-members-preserved t c =
    let some : 0 < c.members.left = omega arith in record {
      within = omega arith;
      added =
          rw (front c.args.members.now c.members.left c.index-members-left.result some c.members.invariant.within c.index-members-left.is)
          (turn_added c.members.invariant.added (rw c.deref.ensures at c.in-Ok.ensures) c.in_turn-rest.ensures.begins c.in_turn-rest.ensures.shows c.in_turn-rest.ensures.adds);
    }

pub add_sequence-returns : goal.add_sequence-returns
add_sequence-returns t c =
    let none : c.members.left ≡ 0 = omega arith in
    rw none at c.members.invariant.added

pub add_turns-add-requires : goal.add_turns-add-requires
add_turns-add-requires t c = (
  search rules,
  (rw c.deref.ensures (turn_fits _ _ _ _ _ _ c.turns-test.true c.requires.fits c.turns.invariant.begins), rw c.deref.ensures (room_left c.turns.invariant c.requires.room)),
)

pub add_turns-in_turn-rest-requires : goal.add_turns-in_turn-rest-requires
add_turns-in_turn-rest-requires t c = assumption (may_join c.turns.invariant (rw c.deref.ensures at c.in-Ok.ensures) c.requires.room (part_numbered (expression_of c.args.part.now)))

pub add_turns-turns-init : goal.add_turns-turns-init
add_turns-turns-init t c = no_turns (expression_of c.args.part.now) c.args.tail c.in_ok-rest.ensures

pub add_turns-turns-preserved : goal.add_turns-turns-preserved
add_turns-turns-preserved t c = turns_step (expression_of c.args.part.now) c.turns._turn (rw c.deref.ensures at c.in-Ok.ensures) c.in_turn-rest.ensures.begins c.in_turn-rest.ensures.shows c.in_turn-rest.ensures.adds c.args.tail c.turns.invariant

pub add_turns-returns : goal.add_turns-returns
add_turns-returns t c =
    let all : c.turns._turn ≡ c.args.turns = omega arith in
    rw all at c.turns.invariant

pub add_up_to-turns-init : goal.add_up_to-turns-init
add_up_to-turns-init t c = no_more (expression_of c.args.part.now) c.anywhere.ensures c.in_ok-rest.ensures

pub add_up_to-add-requires : goal.add_up_to-add-requires
add_up_to-add-requires t c = (
  search rules,
  (rw c.deref.ensures (turn_fits c.turns._turn c.args.turns _ 0 c.args.beyond c.turns.rest.value.begins c.turns-test.true (omega (arith, c.requires.fits)) (omega (arith, c.turns.invariant.begins))), rw c.deref.ensures (room_left c.turns.invariant c.requires.room)),
)

pub add_up_to-in_turn-requires : goal.add_up_to-in_turn-requires
add_up_to-in_turn-requires t c = assumption (may_join c.turns.invariant (rw c.deref.ensures at c.in-Ok.ensures) c.requires.room (part_numbered (expression_of c.args.part.now)))

pub add_up_to-optional-rest-requires : goal.add_up_to-optional-rest-requires
add_up_to-optional-rest-requires t c = rw c.in_turn.ensures.shows.first_inside.0 (width_of c.in_turn.ensures.shows)

pub add_up_to-turns-preserved : goal.add_up_to-turns-preserved
add_up_to-turns-preserved t c = up_to_step (expression_of c.args.part.now) c.turns._turn (rw c.deref.ensures at c.in-Ok.ensures) c.in_turn.ensures.begins c.in_turn.ensures.shows c.in_turn.ensures.adds c.optional-rest.ensures.begins c.optional-rest.ensures.shows c.turns.invariant

pub add_up_to-returns : goal.add_up_to-returns
add_up_to-returns t c =
    let all : c.turns._turn ≡ c.args.turns = omega arith in
    rw all at c.turns.invariant

pub add_bounded-returns-then-most-least : goal.add_bounded-returns-then-most-least
add_bounded-returns-then-most-least t c =
    IfOk-weaker c.blank.result _ _
    (λ a. never_added (expression_of c.args.part.now) c.args.least c.args.most c.if-most-least.true c.position_count-size.ensures c.requires.fits (omega arith) c.nowhere.ensures) c.blank.ensures

pub add_bounded-returns-then-size-eq0 : goal.add_bounded-returns-then-size-eq0
add_bounded-returns-then-size-eq0 t c = IfOk-weaker c.add_once.result _ _ (λ a once. once (Some c.args.most) c.if-most-least.false) c.add_once.ensures

pub add_bounded-returns : goal.add_bounded-returns
add_bounded-returns t c =
    IfOk-weaker c.add_turns.result _ _
    (λ a. bounded_added (expression_of c.args.part.now) c.args.least c.args.most c.if-most-least.false) c.add_turns.ensures

pub add_once-optional-requires : goal.add_once-optional-requires
add_once-optional-requires t c = rw c.in_ok-once.ensures.shows.first_inside.0 (width_of c.in_ok-once.ensures.shows)

pub add_once-returns-then-least-eq0 : goal.add_once-returns-then-least-eq0
add_once-returns-then-least-eq0 t c = λ most within.
    maybe_added (expression_of c.args.part.now) c.args.least most within c.requires.none c.if-least-eq0.true c.in_ok-once.ensures c.optional.ensures.begins c.optional.ensures.shows

pub add_once-returns : goal.add_once-returns
add_once-returns t c = λ most within. once_added (expression_of c.args.part.now) c.args.least most within c.requires.none (omega arith) c.in_ok-once.ensures

pub add_tail-again-requires : goal.add_tail-again-requires
add_tail-again-requires t c =
    let ready = may_repeat c.in_ok-copy-in-None.ensures c.requires.room (part_numbered (expression_of c.args.part.now)) in
    rw c.deref.ensures (record { width = ready.0; few = ready.1; rows = ready.2 })

pub add_unbounded-returns-then-position_count-eq0 : goal.add_unbounded-returns-then-position_count-eq0
add_unbounded-returns-then-position_count-eq0 t c = IfOk-weaker c.add_once.result _ _ (λ a once. once None tt) c.add_once.ensures

pub add_unbounded-returns : goal.add_unbounded-returns
add_unbounded-returns t c =
    IfOk-weaker c.add_turns-2.result _ _
    (λ a. unbounded_added (expression_of c.args.part.now) c.args.least (omega arith)) c.add_turns-2.ensures

pub add_unbounded-optional-requires : goal.add_unbounded-optional-requires
add_unbounded-optional-requires t c = rw c.in_ok-turns.ensures.shows.first_inside.0 (width_of c.in_ok-turns.ensures.shows)

pub add_tail-returns-in_ok-copy-in-None : goal.add_tail-returns-in_ok-copy-in-None
add_tail-returns-in_ok-copy-in-None t c = rw c.in-None.is (again_tail (expression_of c.args.part.now) c.in_ok-copy-in-None.ensures (rw c.deref.ensures at c.again.ensures))

pub add_unbounded-returns-then-least-eq0 : goal.add_unbounded-returns-then-least-eq0
add_unbounded-returns-then-least-eq0 t c = rw c.if-least-eq0.true (any_added (expression_of c.args.part.now) c.in_ok-turns.ensures c.optional.ensures.begins c.optional.ensures.shows)
