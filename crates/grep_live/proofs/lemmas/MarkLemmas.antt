-- Lines that edits keep.
use Rattle.{grep_live.proofs.Prelude.{◌≡◌, ℕ, ◌+◌, ◌<◌, ◌≤◌, List, [], ◌∷◌, ◌++◌, length, take, drop, get_or, sym, ap, ◌∙◌, inl, inr, arith, append_assoc, get_or_append_left, get_or-take, get_or-drop, get_or-append-add, length-take-le, length-append, splice, Text, Keeps, Moves}, grep_session.proofs.lemmas.FitLemmas.length-splice}

-- a line that stays where others are replaced, at its place
pub kept_line : (lines come : List Text) (start count old new : ℕ) → start + count ≤ length lines → Moves start count (length come) old new → new < length (splice lines start (start + count) come) →
    (old < length lines) × (get_or (splice lines start (start + count) come) new [] ≡ get_or lines old [])
kept_line lines come start count old new h (inl (before, same)) l =
    let first = take start lines in
    let long : old < length first = omega (arith, length-take-le start lines (omega arith)) in (
      omega arith,
      ap (λ n. get_or (splice lines start (start + count) come) n []) same ∙ get_or_append_left first (come ++ drop (start + count) lines) [] old long ∙ get_or-take start lines old [] before,
    )
kept_line lines come start count old new h (inr (past, was, is)) l =
    let front = take start lines ++ come in
    let last = drop (start + count) lines in
    let grouped = sym (append_assoc (take start lines) come last) in
    let there : new ≡ length front + past = omega (arith, length-append (take start lines) come, length-take-le start lines (omega arith)) in
    let inside : old < length lines = omega (arith, length-splice lines come start count h) in
    (inside, (λ i. get_or (grouped i) (there i) []) ∙ get_or-append-add front last past [] ∙ get_or-drop (start + count) lines past [] ∙ ap (λ n. get_or lines n []) (sym was))

-- where all lines were replaced, none is kept
pub none_kept : (known lines old new : ℕ) → Keeps (record { kept = 0; removed = known; added = lines } ∷ []) old new → new < lines → ⊥
none_kept known lines old new (inl (before, same)) l = omega arith
none_kept known lines old new (inr (past, later, was, is, keeps)) l = omega arith
