-- What sets of positions mean, by what their words are.
use Rattle.re_auto.proofs.{Prelude.{trans, ◌≡◌, ℕ, suc, ◌<◌, Bool, true, IsTrue, List, ◌||◌, ◌&&◌, inl, inr, sym, ◌∙◌, arith, Some, slice_get, ◌↔◌, Text, Expression, Holds, positions, Mode, Search, StateSet, Has, Part, part_of, is_begin, is_end, MayBegin, IsNext, Accepts, IsNowhere, StandsAt, IsNextSet, IsAccepting, CanBegin, slice_get_within, get_or_from_slice_get}, lemmas.{Chains.not_at_begin, Numbered.part_numbered, SetsByChains.{none_is_right, step_is_right, accept_is_right}}}

-- a set without positions is right at a line's first place
pub starts_at : (e : Expression) (mode : Mode) (line : Text) (set : StateSet) → set.at_begin ≡ true → ((q : ℕ) → Has set.words.items q → ⊥) → StandsAt e mode line 0 set
unfolding StandsAt
starts_at e mode line set marked none = (marked, none_is_right (part_of e 0) mode line (Has set.words.items) none)

-- a set that is next over a line's byte is right after it
pub stands_next : (e : Expression) (mode : Mode) (from into : StateSet) (byte : ℕ) → IsNextSet e mode from byte into →
    (line : Text) (j : ℕ) → slice_get line j ≡ Some byte → StandsAt e mode line j from → StandsAt e mode line (suc j) into
unfolding StandsAt IsNextSet
stands_next e mode from into byte next line j is stands =
    let lt = slice_get_within line j byte is in
    let byte_is = get_or_from_slice_get line j byte 0 is in
    let here = rw (stands.0, ← byte_is) at next.1 in
    (next.0 ∙ sym (not_at_begin (suc j) (omega arith)), step_is_right (part_of e 0) mode line j _ _ stands.1 lt here)

-- the next set has only the expression's positions
pub next_small : (e : Expression) (mode : Mode) (begin : Bool) (from into : List ℕ) (byte : ℕ) → IsNext (part_of e 0) mode begin (Has from) byte (Has into) →
    (q : ℕ) → Has into q → q < positions e
next_small e mode begin from into byte next q h = omega (arith, (part_numbered e 0).takes q byte ((next q).0 h).0)

-- a set accepts where it has a last position, or where a stretch may begin here and be empty
pub accepted : (part : Part) (mode : Mode) (begin end longer may empty : Bool) (words : List ℕ) →
    (IsTrue longer ↔ ((q : ℕ) × Has words q × part.last end q)) → (IsTrue may ↔ MayBegin mode begin) → (IsTrue empty ↔ part.empty begin end) →
    IsTrue (longer || (may && empty)) ↔ Accepts part mode begin end (Has words)
accepted part mode begin end longer may empty words l m e = grind arith

-- what a right set accepts is matched
pub matched_by : (e : Expression) (mode : Mode) (result at_end : Bool) (set : StateSet) → (IsTrue result ↔ IsAccepting e mode set at_end) →
    (line : Text) (j : ℕ) → StandsAt e mode line j set → at_end ≡ is_end line j → IsTrue result ↔ ((i : ℕ) × MayBegin mode (is_begin i) × Holds line e i j)
unfolding StandsAt IsAccepting
matched_by e mode result at_end set reported line j stands ends = trans (rw (stands.0, ends) at reported) (accept_is_right e 0 mode line j (Has set.words.items) stands.1)

-- a set that is nowhere stays so over a byte that no stretch can begin with
pub nowhere_stays : (e : Expression) (byte : ℕ) → (CanBegin (part_of e 0) byte → ⊥) → (set : StateSet) (line : Text) (j : ℕ) → IsNowhere set →
    slice_get line j ≡ Some byte → StandsAt e Search line j set → StandsAt e Search line (suc j) set
unfolding IsNextSet
nowhere_stays e byte never set line j nowhere is stands =
    stands_next e Search set set byte (
      nowhere.0,
      λ q. (λ h. absurd (nowhere.1 q h), λ w. absurd (elim w.1 [ inl first ↦ never (q, rw nowhere.0 at first.1, w.0) | inr after ↦ nowhere.1 after.0 after.1 ])),
    ) line j is stands
