-- Lines that are searched from a later place on, before which no match begins.
use Rattle.{re_needle.proofs.Prelude.{◌≡◌, ℕ, zero, suc, ◌+◌, ◌-◌, ◌<◌, ◌≤◌, ◌↔◌, inl, inr, false, Some, List, [], ◌∷◌, ◌++◌, length, drop, get_or, slice_get, sym, ap, subst, ◌∙◌, arith, length-drop, get_or_from_slice_get, slice_get-get_or, dec_le, Text, Expression, one_of, alt, cat, repeat, Holds, Matches, Turns, HasNoBegin, RunBegins, RunStandsAt, Runs}, std.proofs.lemmas.{Option.slice_get_within, List.get_or-drop}, re_trees.{specs.Expression.{empty, none_of, begin, end, cat_none, cat_more, alt_none, alt_more}, proofs.lemmas.HoldsDecided.Holds-le}}

-- ---- one part more without `^`

pub no_begin_cat : (es : List Expression) (e : Expression) → HasNoBegin (cat es) → HasNoBegin e → HasNoBegin (cat (es ++ e ∷ []))
no_begin_cat [] e all one = (one, tt)
no_begin_cat (f ∷ es) e all one = (all.0, no_begin_cat es e all.1 one)

pub no_begin_alt : (es : List Expression) (e : Expression) → HasNoBegin (alt es) → HasNoBegin e → HasNoBegin (alt (es ++ e ∷ []))
no_begin_alt [] e all one = (one, tt)
no_begin_alt (f ∷ es) e all one = (all.0, no_begin_alt es e all.1 one)

-- ---- the rest of a line

-- turns of a relation, at places that are all greater by the same number
module _ (R S : ℕ → ℕ → Type 0) (p : ℕ) where
  turns_on : ((i j : ℕ) → R i j → S (p + i) (p + j)) → (n i j : ℕ) → Turns R n i j → Turns S n (p + i) (p + j)
  turns_on on zero i j same = omega arith
  turns_on on (suc n) i j (k, first, later) = (p + k, on i k first, turns_on on n k j later)

  turns_back : ((i j : ℕ) → S i j → i ≤ j) → ((i j : ℕ) → S (p + i) (p + j) → R i j) → (n i j : ℕ) → Turns S n (p + i) (p + j) → Turns R n i j
  turns_back up back zero i j same = omega arith
  turns_back up back (suc n) i j (k, first, later) =
      let low = up (p + i) k first in let place : k ≡ p + (k - p) = omega arith in
      (k - p, back i (k - p) (rw place at first), turns_back up back n _ j (rw place at later))

module _ (line : Text) (p : ℕ) (within : p ≤ length line) where
  byte_on : (i b : ℕ) → slice_get (drop p line) i ≡ Some b → slice_get line (p + i) ≡ Some b
  byte_on i b at =
      let below = slice_get_within (drop p line) i b at in
      let is = sym (get_or-drop p line i b) ∙ get_or_from_slice_get (drop p line) i b b at in
      slice_get-get_or line (p + i) b (omega (arith, length-drop p line)) ∙ ap Some is

  byte_back : (i b : ℕ) → slice_get line (p + i) ≡ Some b → slice_get (drop p line) i ≡ Some b
  byte_back i b at =
      let below = slice_get_within line (p + i) b at in
      let is = get_or-drop p line i b ∙ get_or_from_slice_get line (p + i) b b at in
      slice_get-get_or (drop p line) i b (omega (arith, length-drop p line)) ∙ ap Some is

  -- what holds on a stretch of the rest of the line holds there on the line
  holds_on : (e : Expression) → HasNoBegin e → (i j : ℕ) → Holds (drop p line) e i j → Holds line e (p + i) (p + j)
  holds_on empty free i j h = omega arith
  holds_on (one_of s) free i j (b, at, has, next) = (b, byte_on i b at, has, omega arith)
  holds_on (none_of s) free i j (b, at, lacks, next) = (b, byte_on i b at, lacks, omega arith)
  holds_on begin free i j h = absurd free
  holds_on end free i j h = (omega (arith, length-drop p line), omega (arith, length-drop p line))
  holds_on cat_none free i j h = omega arith
  holds_on (cat_more e rest) free i j (k, first, later) = (p + k, holds_on e free.0 i k first, holds_on rest free.1 k j later)
  holds_on alt_none free i j h = absurd h
  holds_on (alt_more e rest) free i j (inl h) = inl (holds_on e free.0 i j h)
  holds_on (alt_more e rest) free i j (inr h) = inr (holds_on rest free.1 i j h)
  holds_on (repeat e least most) free i j (n, bounds, turns) = (n, bounds, turns_on (Holds (drop p line) e) (Holds line e) p (holds_on e free) n i j turns)

  -- and the other way round
  holds_back : (e : Expression) → HasNoBegin e → (i j : ℕ) → Holds line e (p + i) (p + j) → Holds (drop p line) e i j
  holds_back empty free i j h = omega arith
  holds_back (one_of s) free i j (b, at, has, next) = (b, byte_back i b at, has, omega arith)
  holds_back (none_of s) free i j (b, at, lacks, next) = (b, byte_back i b at, lacks, omega arith)
  holds_back begin free i j h = absurd free
  holds_back end free i j h = (omega (arith, length-drop p line), omega (arith, length-drop p line))
  holds_back cat_none free i j h = omega arith
  holds_back (cat_more e rest) free i j (k, first, later) =
      let low = Holds-le line e (p + i) k first in let place : k ≡ p + (k - p) = omega arith in
      (k - p, holds_back e free.0 i (k - p) (subst (Holds line e (p + i)) place first), holds_back rest free.1 (k - p) j (subst (λ m. Holds line rest m (p + j)) place later))
  holds_back alt_none free i j h = absurd h
  holds_back (alt_more e rest) free i j (inl h) = inl (holds_back e free.0 i j h)
  holds_back (alt_more e rest) free i j (inr h) = inr (holds_back rest free.1 i j h)
  holds_back (repeat e least most) free i j (n, bounds, turns) = (n, bounds, turns_back (Holds (drop p line) e) (Holds line e) p (Holds-le line e) (holds_back e free) n i j turns)

  -- the rest of a line is matched exactly if the line is, if no run with which each match begins is before it
  pub rest_matched : (e : Expression) (runs : Runs) → HasNoBegin e → RunBegins runs e → ((k : ℕ) → k < p → RunStandsAt line runs k → ⊥) → Matches e (drop p line) false ↔ Matches e line false
  rest_matched e runs free begins none = (
    λ m. let (i, j, on, h) = m in (p + i, p + j, omega (arith, length-drop p line), holds_on e free i j h),
    λ m.
        let (i, j, on, h) = m in let up = Holds-le line e i j h in
        elim (dec_le p i) [
          | yes low ↦
              let first : i ≡ p + (i - p) = omega arith in let last : j ≡ p + (j - p) = omega arith in
              (i - p, j - p, omega (arith, length-drop p line), holds_back e free _ _ (rw last at (rw first at h)))
          | no high ↦ absurd (none i (omega arith) (begins line i j on h))
        ],
  )
