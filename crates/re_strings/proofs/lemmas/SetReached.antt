-- When a search for many fixed strings is over, and what it counted.
use Rattle.re_strings.proofs.{Prelude.{◌≡◌, ℕ, zero, suc, ◌-◌, ◌<◌, ◌≤◌, [], Bool, true, false, length, take, drop, nat_eq, nat_lt, Option, Some, None, refl, sym, ap, ◌∙◌, arith, if◌then◌else◌, eqb-false, none-some, Text, better_span, Span, IsFront, EndsIn, Labels, StandsAtNode, StandsSince, IsBestOccurrence, better_ending}, lemmas.SetSearch.{read_length, node_length, begun_at}}

-- once a string was found, its node or a later one is the longest end of all that was read, and begins
-- no later
abbrev pub IsBegun : Labels → ℕ → Text → ℕ → ℕ → Option Span → Type 0
IsBegun all from line place node best = (known : Span) → best ≡ Some known → (0 < node) × StandsAtNode all from line place node × (place - length (all.label node) ≤ known.start)

-- where the better of two begins
abbrev begin_of : Option Span → ℕ
begin_of None = 0
begin_of (Some s) = s.start

better_low : (low next e : ℕ) (best : Span) → low ≤ best.start → low ≤ next - e → low ≤ begin_of (better_ending (Some best) next e)
better_low low next e best old new = ending _
  where
    spanned : (b : Bool) → low ≤ begin_of (if b then Some best else Some (record { start = next - e; end = next }))
    spanned true = old
    spanned false = new

    ending : (b : Bool) → low ≤ begin_of (if b then Some best else better_span (Some best) (record { start = next - e; end = next }))
    ending true = old
    ending false = spanned (nat_lt best.start (next - e))

module _ (all : Labels) (from : ℕ) (line : Text) (root : all.label 0 ≡ []) where
  -- a node with a label isn't the root
  not_root : (n : ℕ) → 0 < length (all.label n) → 0 < n
  not_root zero some = let none : length (all.label 0) ≡ 0 = rw root in absurd (omega arith)
  not_root (suc n) some = omega arith

  -- the same after one more byte, if the node does not begin after the best so far
  pub begun_on : (place next n m e depth : ℕ) (best result : Option Span) → place < next → next ≤ length line → IsBestOccurrence all.strings from line place best
      → IsBegun all from line place n best → (0 < n → StandsAtNode all from line place n → StandsAtNode all from line next m) → StandsSince all from line next m → EndsIn all.strings (all.label m) e
      → depth ≡ length (all.label m) → ((known : Span) → best ≡ Some known → next - depth ≤ known.start) → result ≡ better_ending best next e → IsBegun all from line next m result
  unfolding IsBestOccurrence
  begun_on place next n m e depth None result lt within old begun on s ends deep late is known found = go (nat_eq e 0) refl (sym is ∙ found)
    where
      go : (b : Bool) → nat_eq e 0 ≡ b → (if b then None else better_span None (record { start = next - e; end = next })) ≡ Some known → (0 < m) × StandsAtNode all from line next m × (next - length (all.label m) ≤ known.start)
      go true same nothing = absurd (none-some known nothing)
      go false some same =
          let long : 0 < e = let more = eqb-false e 0 some in omega arith in
          let fits = ends.within in
          let start : next - e ≡ known.start = ap begin_of same in
          (not_root m (omega arith), begun_at _ _ _ _ m e within s ends long, omega arith)
  begun_on place next n m e depth (Some best) result lt within old begun on s ends deep late is known found =
      let had = begun best refl in
      let low = late best refl in
      let inside = old.0.1 in
      let before = old.1 in
      let fits = ends.within in
      let start = ap begin_of (sym is ∙ found) in
      let least = better_low (next - length (all.label m)) next e best (omega arith) (omega arith) in
      (not_root m (omega arith), on had.0 had.1, omega arith)

-- once the node begins after a string, none that begins no later can go on
pub settled : (all : Labels) (from : ℕ) (line : Text) (place n depth start : ℕ) → place ≤ length line → StandsAtNode all from line place n → depth ≡ length (all.label n) → start < place - depth
    → (i : ℕ) → from ≤ i → i ≤ start → ¬ IsFront all.strings (drop i (take place line))
settled all from line place n depth start within s deep early i low le =
    let size = node_length all from line place n within s in
    s.none i low (let high = s.high in let read = read_length line place within in omega arith)
