-- Outlines of expressions, and the runs of sets that they make needed.
use Rattle.{re_needle.proofs.{Prelude.{◌≡◌, ℕ, zero, suc, ◌+◌, ◌-◌, ◌<◌, ◌≤◌, IsTrue, List, [], ◌∷◌, ◌++◌, length, map, take, drop, get_or, replicate, slice_index, Option, None, Some, Result, Ok, Err, IfOk, refl, sym, ap, ◌∙◌, subst, arith, append_assoc, length-append, length-drop, take-append-drop, length-map, append-nil, map-append, replicate_more, get_or_from_slice_get, slice_get-get_or, Bytes, Text, Expression, one_of, cat, repeat, expression_of, members, Holds, Turns, ByteSet, Tree, OutlineItem, one_run, RunIsAt, All, set_at, shown, IsOptional, MarkFits, Fits, MarkSuffices, Suffices, IsOutline, AddsOutline, AddsTurns, RunIsNeeded, RunBegins, RunSuffices, IsJustRun, branch_within, IfSome}, lemmas.NeededLaws.{cat_cut, parts_grown}}, std.proofs.{lemmas.List.{nil_from_length, take-map, drop-map, Elements.{All-cons, All-head, All-tail}}, Math.Seq.take-append_seam}, re_trees.proofs.lemmas.{HoldsDecided.{Holds-le, Turns-le}, Decisions.Any-first}, re_runs.proofs.lemmas.RunLaws.one_stands}
use Rattle.std.specs.Prelude.{⊤}
use Rattle.re_needle.specs.declared.outline_item.OutlineItem.TheVariants as m

-- ---- marks one after another

mark_le : (line : Text) (mark : Option Bytes) (i j : ℕ) → MarkFits line mark i j → i ≤ j
mark_le line (Some set) i j h = omega arith
mark_le line None i j h = h

pub fits_le : (line : Text) (marks : List (Option Bytes)) (i j : ℕ) → Fits line marks i j → i ≤ j
fits_le line [] i j same = omega arith
fits_le line (mark ∷ marks) i j (k, first, later) = omega (arith, mark_le line mark i k first, fits_le line marks k j later)

fits_cut : (line : Text) (xs ys : List (Option Bytes)) (i j : ℕ) → Fits line (xs ++ ys) i j → (k : ℕ) × Fits line xs i k × Fits line ys k j
fits_cut line [] ys i j h = (i, refl, h)
fits_cut line (x ∷ xs) ys i j (m, first, later) = let rest = fits_cut line xs ys m j later in (rest.0, (m, first, rest.1), rest.2)

fits_join : (line : Text) (xs ys : List (Option Bytes)) (i k j : ℕ) → Fits line xs i k → Fits line ys k j → Fits line (xs ++ ys) i j
fits_join line [] ys i k j same h = rw same h
fits_join line (x ∷ xs) ys i k j (m, first, later) h = (m, first, fits_join line xs ys m k j later h)

-- ---- stretches that are enough for marks

pub suffices_cut : (line : Text) (xs ys : List OutlineItem) (i j : ℕ) → Suffices line (xs ++ ys) i j → (k : ℕ) × Suffices line xs i k × Suffices line ys k j
suffices_cut line [] ys i j h = (i, refl, h)
suffices_cut line (x ∷ xs) ys i j (n, first, later) = let rest = suffices_cut line xs ys n j later in (rest.0, (n, first, rest.1), rest.2)

suffices_join : (line : Text) (xs ys : List OutlineItem) (i k j : ℕ) → Suffices line xs i k → Suffices line ys k j → Suffices line (xs ++ ys) i j
suffices_join line [] ys i k j same h = rw same h
suffices_join line (x ∷ xs) ys i k j (n, first, later) h = (n, first, suffices_join line xs ys n k j later h)

-- none is enough for a stretch that isn't optional
pub never : (line : Text) (xs : List OutlineItem) (i j : ℕ) → Suffices line (xs ++ m.Gap ∷ []) i j → ⊥
never line xs i j h = let rest = suffices_cut line xs (m.Gap ∷ []) i j h in rest.2.1

-- no byte is enough for optional marks
none_suffice : (line : Text) (marks : List OutlineItem) (i : ℕ) → All IsOptional marks → Suffices line marks i i
none_suffice line [] i all = refl
none_suffice line (mark ∷ marks) i all = (i, rw (All-head IsOptional mark marks all) refl, none_suffice line marks i (All-tail IsOptional mark marks all))

AreSets : List (Option Bytes) → Type 0
AreSets [] = ⊤
AreSets (Some s ∷ marks) = AreSets marks
AreSets (None ∷ marks) = ⊥

all_sets : (run : List Bytes) → AreSets (map Some run)
unfolding AreSets
all_sets [] = tt
all_sets (s ∷ run) = all_sets run

-- for sets, what fits is enough, and what is enough fits
sets_suffice : (line : Text) (marks : List OutlineItem) (i j : ℕ) → AreSets (map shown marks) → Fits line (map shown marks) i j → Suffices line marks i j
unfolding AreSets
sets_suffice line [] i j sets same = same
sets_suffice line (m.Set set ∷ marks) i j sets (k, first, later) = (k, first, sets_suffice line marks k j sets later)
sets_suffice line (m.Optional ∷ marks) i j sets f = absurd sets
sets_suffice line (m.Gap ∷ marks) i j sets f = absurd sets

enough_fits : (line : Text) (marks : List OutlineItem) (i j : ℕ) → Suffices line marks i j → Fits line (map shown marks) i j
enough_fits line [] i j same = same
enough_fits line (m.Set set ∷ marks) i j (k, first, later) = (k, first, enough_fits line marks k j later)
enough_fits line (m.Optional ∷ marks) i j (k, same, later) = (k, omega (arith, same), enough_fits line marks k j later)
enough_fits line (m.Gap ∷ marks) i j (k, never, later) = absurd never

-- ---- a run of sets, and where it is

abbrev TakesSets : Text → ℕ → List Bytes → Type 0
TakesSets line k run = (j : ℕ) → j < length run → IsTrue (set_at run j (slice_index line (k + j)))

one_more : (s : Bytes) (run : List Bytes) (line : Text) (i : ℕ) → IsTrue (s (slice_index line i)) → TakesSets line (i + 1) run → TakesSets line i (s ∷ run)
one_more s run line i has takes zero below = let place : i ≡ i + 0 = omega arith in rw place at has
one_more s run line i has takes (suc j) below =
    let place : i + 1 + j ≡ i + suc j = omega arith in rw place at (takes j (omega arith))

taken : (line : Text) (run : List Bytes) (i j : ℕ) → Fits line (map Some run) i j → TakesSets line i run × (j ≡ i + length run)
taken line [] i j same = (λ k below. absurd (omega arith), omega arith)
taken line (s ∷ run) i j (k, (b, at, has, next), later) =
    let rest = taken line run k j later in let beyond : j ≡ k + length run = rest.1 in
    let here : slice_index line i ≡ b = get_or_from_slice_get line i b 0 at in
    (one_more s run line i (subst (λ x. IsTrue (s x)) (sym here) has) (subst (λ n. TakesSets line n run) next rest.0), omega (arith, beyond, next))

sets_stand : (line : Text) (run : List Bytes) (i j : ℕ) → j ≤ length line → Fits line (map Some run) i j → RunIsAt line i run × (j ≡ i + length run)
sets_stand line run i j within fits =
    let (takes, end) = taken line run i j fits in (record { fits = omega arith; takes = takes }, end)

take_fit : (line : Text) (run : List Bytes) (i : ℕ) → i + length run ≤ length line → TakesSets line i run → Fits line (map Some run) i (i + length run)
take_fit line [] i fits takes = let same : i ≡ i + 0 = omega arith in same
take_fit line (s ∷ run) i fits takes =
    let place : i + 0 ≡ i = omega arith in let end : i + 1 + length run ≡ i + suc (length run) = omega arith in
    let has = rw place at (takes 0 (omega arith)) in
    let later : TakesSets line (i + 1) run =
    λ j below. let next : i + suc j ≡ i + 1 + j = omega arith in rw next at (takes (suc j) (omega arith)) in
    (i + 1, (slice_index line i, slice_get-get_or line i 0 (omega (arith, fits)), has, refl), subst (λ n. Fits line (map Some run) (i + 1) n) end (take_fit line run (i + 1) (omega (arith, fits)) later))

stands_fit : {line : Text} {run : List Bytes} (i : ℕ) → RunIsAt line i run → Fits line (map Some run) i (i + length run)
stands_fit i is = take_fit _ _ i is.fits is.takes

-- ---- outlines of parts and of wholes

pub cat_join : (line : Text) (xs ys : List Expression) (i k j : ℕ) → Holds line (cat xs) i k → Holds line (cat ys) k j → Holds line (cat (xs ++ ys)) i j
cat_join line [] ys i k j same h = rw same h
cat_join line (x ∷ xs) ys i k j (m, first, later) h = (m, first, cat_join line xs ys m k j later h)

outline_one : {xs : List OutlineItem} {e : Expression} → IsOutline xs e → IsOutline xs (cat (e ∷ []))
outline_one is = record { fits = λ line i j (n, here, end). rw end at (is.fits line i n here); holds = λ line i j f. (j, is.holds line i j f, refl) }

outline_join : {xs ys : List OutlineItem} (es fs : List Expression) → IsOutline xs (cat es) → IsOutline ys (cat fs) → IsOutline (xs ++ ys) (cat (es ++ fs))
outline_join {xs} {ys} es fs front back = record {
  fits = λ line i j h.
      let (k, first, later) = cat_cut line es fs i j h in
      rw (map-append shown xs ys) (fits_join line (map shown xs) (map shown ys) i k j (front.fits line i k first) (back.fits line k j later));
  holds = λ line i j f.
      let (k, first, later) = suffices_cut line xs ys i j f in
      cat_join line es fs i k j (front.holds line i k first) (back.holds line k j later);
}

outline_set : (set : ByteSet) → IsOutline (m.Set set ∷ []) (one_of (members set))
outline_set set = record { fits = λ line i j h. (j, h, refl); holds = λ line i j (k, first, same). rw same at first }

outline_stretch : (e : Expression) → IsOutline (m.Gap ∷ []) e
outline_stretch e = record { fits = λ line i j h. (j, Holds-le line e i j h, refl); holds = λ line i j h. absurd h.1 }

-- what may be left out is optional
none_of_it : (most : Option ℕ) → IfSome most (λ top. 0 ≤ top)
none_of_it None = tt
none_of_it (Some top) = omega arith

outline_optional : (e : Expression) (most : Option ℕ) → IsOutline (m.Optional ∷ []) (repeat e 0 most)
outline_optional e most = record { fits = λ line i j h. (j, Holds-le line (repeat e 0 most) i j h, refl); holds = λ line i j (k, same, end). (0, (omega arith, none_of_it most), same ∙ end) }

outline_repeat : (xs : List OutlineItem) {e : Expression} (least : ℕ) (most : Option ℕ) → 1 ≤ least → IsOutline xs e → IsOutline (xs ++ m.Gap ∷ []) (repeat e least most)
outline_repeat xs {e} least most some part = record { fits = λ line i j (n, within, turns). rw (map-append shown xs (m.Gap ∷ [])) (once line i j n within.0 turns); holds = λ line i j h. absurd (never line xs i j h) }
  where
    once : (line : Text) (i j n : ℕ) → least ≤ n → Turns (Holds line e) n i j → Fits line (map shown xs ++ None ∷ []) i j
    once line i j zero low turns = absurd (omega arith)
    once line i j (suc n) low (k, first, later) = fits_join _ (map shown xs) _ i k j (part.fits line i k first) (j, Turns-le (Holds line e) (Holds-le line e) n k j later, refl)

-- ---- a set that is repeated

-- n turns of a set are its bytes one after another
turns_fit : (line : Text) (s : Bytes) (n i j : ℕ) → Turns (Holds line (one_of s)) n i j → Fits line (map Some (replicate n s)) i j
turns_fit line s zero i j same = same
turns_fit line s (suc n) i j (k, first, later) = (k, first, turns_fit line s n k j later)

all_fit : (line : Text) (s : Bytes) (n m i j : ℕ) → n ≤ m → Turns (Holds line (one_of s)) m i j → Fits line (map Some (replicate n s) ++ None ∷ []) i j
all_fit line s zero m i j few turns = (j, Turns-le (Holds line (one_of s)) (Holds-le line (one_of s)) m i j turns, refl)
all_fit line s (suc n) zero i j few turns = absurd (omega arith)
all_fit line s (suc n) (suc m) i j few (k, first, later) = (k, first, all_fit line s n m k j (omega arith) later)

all_hold : (line : Text) (s : Bytes) (n i j : ℕ) → Fits line (map Some (replicate n s)) i j → Turns (Holds line (one_of s)) n i j
all_hold line s zero i j same = same
all_hold line s (suc n) i j (k, first, later) = (k, first, all_hold line s n k j later)

module _ (s : Bytes) (n : ℕ) (marks : List OutlineItem) (sets : map shown marks ≡ map Some (replicate n s)) where
  turns_enough : (line : Text) (i j : ℕ) → Suffices line marks i j → Turns (Holds line (one_of s)) n i j
  turns_enough line i j h = all_hold line s n i j (rw sets at (enough_fits line marks i j h))

  least_fits : (mark : OutlineItem) (least : ℕ) (most : Option ℕ) → n ≤ least → shown mark ≡ None → (line : Text) (i j : ℕ) → Holds line (repeat (one_of s) least most) i j → Fits line (map shown (marks ++ mark ∷ [])) i j
  least_fits mark least most few none line i j (m, within, turns) = rw (map-append shown marks (mark ∷ []) ∙ ap (λ l. l ++ shown mark ∷ []) sets ∙ ap (λ x. map Some (replicate n s) ++ x ∷ []) none) (all_fit line s n m i j (omega arith) turns)

  outline_turns : (least : ℕ) (most : Option ℕ) → n ≤ least → IsOutline (marks ++ m.Gap ∷ []) (repeat (one_of s) least most)
  outline_turns least most few = record { fits = least_fits m.Gap least most few refl; holds = λ line i j h. absurd (never line marks i j h) }

  outline_more : (most : Option ℕ) → IfSome most (λ top. n ≤ top) → IsOutline (marks ++ m.Optional ∷ []) (repeat (one_of s) n most)
  outline_more most within = record {
    fits = least_fits m.Optional n most (omega arith) refl;
    holds = λ line i j h.
        let (k, first, (l, same, end)) = suffices_cut line marks (m.Optional ∷ []) i j h in
        (n, (omega arith, within), rw (same ∙ end) at (turns_enough line i k first));
  }

  outline_just : IsOutline marks (repeat (one_of s) n (Some n))
  outline_just = record {
    fits = λ line i j (m, within, turns).
        let same : m ≡ n = omega arith in rw sets (turns_fit line s n i j (rw same at turns));
    holds = λ line i j h. (n, (omega arith, omega arith), turns_enough line i j h);
  }

-- ---- what is added to the marks

pub adds_set : (old new : List OutlineItem) (e : Expression) (set : ByteSet) → e ≡ one_of (members set) → new ≡ old ++ m.Set set ∷ [] → AddsOutline old e new
adds_set old new e set is added = (m.Set set ∷ [], added, rw is (outline_set set))

pub adds_stretch : (old new : List OutlineItem) (e : Expression) → new ≡ old ++ m.Gap ∷ [] → AddsOutline old e new
adds_stretch old new e added = (m.Gap ∷ [], added, outline_stretch e)

pub adds_optional : (old new : List OutlineItem) (part e : Expression) (most : Option ℕ) → e ≡ repeat part 0 most → new ≡ old ++ m.Optional ∷ [] → AddsOutline old e new
adds_optional old new part e most is added = (m.Optional ∷ [], added, rw is (outline_optional part most))

pub adds_repeat : (old middle new : List OutlineItem) (part e : Expression) (least : ℕ) (most : Option ℕ) → e ≡ repeat part least most → 1 ≤ least → AddsOutline old part middle → new ≡ middle ++ m.Gap ∷ [] → AddsOutline old e new
adds_repeat old middle new part e least most is some (more, same, outline) added = (
  more ++ m.Gap ∷ [],
  added ∙ ap (λ l. l ++ m.Gap ∷ []) same ∙ append_assoc old more (m.Gap ∷ []),
  rw is (outline_repeat _ _ _ some outline),
)

-- n marks of a set that is repeated at least n times, and a stretch
pub adds_least : (old middle new : List OutlineItem) (s : Bytes) (n least : ℕ) (most : Option ℕ) → n ≤ least → AddsTurns old s n middle → new ≡ middle ++ m.Gap ∷ [] → AddsOutline old (repeat (one_of s) least most) new
adds_least old middle new s n least most few (more, same, sets) added = (
  more ++ m.Gap ∷ [],
  added ∙ ap (λ l. l ++ m.Gap ∷ []) same ∙ append_assoc old more (m.Gap ∷ []),
  outline_turns s n more sets _ _ few,
)

-- n marks of a set that is repeated n times or more, and an optional stretch
pub adds_at_least : (old middle new : List OutlineItem) (s : Bytes) (n least : ℕ) (most : Option ℕ) → n ≡ least → IfSome most (λ top. least ≤ top) → AddsTurns old s n middle → new ≡ middle ++ m.Optional ∷ [] → AddsOutline old (repeat (one_of s) least most) new
adds_at_least old middle new s n least most is within (more, same, sets) added = (
  more ++ m.Optional ∷ [],
  added ∙ ap (λ l. l ++ m.Optional ∷ []) same ∙ append_assoc old more (m.Optional ∷ []),
  rw is at (outline_more s n more sets most (rw (sym is) at within)),
)

-- n marks of a set that is repeated exactly n times
pub adds_just : (old new : List OutlineItem) (s : Bytes) (n least : ℕ) {most : Option ℕ} → n ≡ least → most ≡ Some least → AddsTurns old s n new → AddsOutline old (repeat (one_of s) least most) new
adds_just old new s n least same just (more, is, sets) = (
  more,
  is,
  subst (λ x. IsOutline more (repeat (one_of s) least x)) (sym just)
      (subst (λ x. IsOutline more (repeat (one_of s) x (Some x))) same (outline_just s n more sets)),
)

-- one mark of the set more
pub adds_turn : {new : List OutlineItem} (old middle : List OutlineItem) (set : ByteSet) (n : ℕ) → AddsTurns old (members set) n middle → new ≡ middle ++ m.Set set ∷ [] → AddsTurns old (members set) (n + 1) new
adds_turn old middle set n (more, same, sets) added = (
  more ++ m.Set set ∷ [],
  added ∙ ap (λ l. l ++ m.Set set ∷ []) same ∙ append_assoc old more (m.Set set ∷ []),
  map-append shown more (m.Set set ∷ []) ∙ ap (λ l. l ++ Some (members set) ∷ []) sets ∙ sym (map-append Some (replicate n (members set)) (members set ∷ [])) ∙ ap (map Some) (replicate_more n (members set)),
)

pub adds_more : (old middle new : List OutlineItem) (parts : List Tree) (i : ℕ) (part : Tree) → i < length parts → part ≡ get_or parts i part
    → AddsOutline old (cat (map expression_of (take i parts))) middle → AddsOutline middle (expression_of part) new → AddsOutline old (cat (map expression_of (take (i + 1) parts))) new
adds_more old middle new parts i part lt is (xs, first, front) (ys, second, back) =
    let grown = parts_grown parts i lt is in (
      xs ++ ys,
      second ∙ ap (λ l. l ++ ys) first ∙ append_assoc old xs ys,
      rw grown (outline_join _ _ front (outline_one back)),
    )

-- the marks of parts before an expression, its own, and those of parts after it
pub outline_around : {a : List OutlineItem} (b c d : List OutlineItem) (before : List Tree) (e : Expression) (after : List Tree) → a ≡ [] → AddsOutline a (cat (map expression_of before)) b → AddsOutline b e c → AddsOutline c (cat (map expression_of after)) d
    → IsOutline d (branch_within before e after)
outline_around b c d before e after none (xs, one, front) (ys, two, here) (zs, three, back) =
    let is : d ≡ xs ++ (ys ++ zs) = cc (two ∙ ap (λ l. l ++ ys) (one ∙ ap (λ l. l ++ xs) none), append_assoc xs ys zs) in
    subst (λ l. IsOutline l (branch_within before e after)) (sym is)
    (outline_join _ _ front
    (outline_join (e ∷ []) (map expression_of after) (outline_one here) back))

-- of a call that went well
pub ok_with : {A E : Type 0} {P Q : Type 0} (r : Result A E) → (P → Q) → IfOk r (λ _. P) → IfOk r (λ _. Q)
ok_with (Ok x) f h = f h
ok_with (Err e) f h = tt

-- ---- what is needed

module _ (items : List OutlineItem) (e : Expression) (outline : IsOutline items e) (run : List Bytes) (rest : List (Option Bytes)) (start : ℕ) (stands : drop start (map shown items) ≡ map Some run ++ rest) where
  abbrev marks : List (Option Bytes)
  marks = map shown items

  cut : marks ≡ take start marks ++ (map Some run ++ rest)
  cut = cc (take-append-drop start marks)

  -- sets that are neighbours in the outline are needed
  pub run_needed : RunIsNeeded (one_run run) e
  run_needed line i j within h =
      let (k, before, later) = fits_cut line (take start marks) (map Some run ++ rest) i j (rw cut at (outline.fits line i j h)) in
      let (n, here, beyond) = fits_cut line (map Some run) rest k j later in
      let low : i ≤ k = fits_le line (take start marks) i k before in let high = fits_le line rest n j beyond in
      let found = sets_stand line run k n (omega (arith, high, within)) here in
      let end : n ≡ k + length run = found.1 in let near : k + length run ≤ j = omega (arith, end, high) in
      (k, low, Any-first (λ r. RunIsAt line k r × (k + length r ≤ j)) run [] (found.0, near))

  -- and where they are the first sets each match begins with them
  pub run_begins : start ≡ 0 → RunBegins (one_run run) e
  run_begins first line i j within h =
      let is = rw first at stands in
      let (n, here, beyond) = fits_cut line (map Some run) rest i j (rw is at (outline.fits line i j h)) in
      one_stands run line i (sets_stand _ _ i n (omega (arith, fits_le _ _ n j beyond)) here).0

  lengths : length marks - start ≡ length run + length rest
  lengths = cc (length-drop start marks, length-append (map Some run) rest, length-map run Some)

  -- where they are all of it, the expression holds exactly where they are
  pub just_run : 1 ≤ length run → length run ≡ length items → IsJustRun (one_run run) e
  just_run some all = record { stands = λ line i j within h. Any-first (λ r. RunIsAt line i r × (j ≡ i + length r)) run [] (sets_stand _ _ i j within (rw is at (outline.fits line i j h))); holds = holds }
    where
      first : start ≡ 0
      first = omega (arith, lengths, all, length-map items shown)

      is : marks ≡ map Some run
      is = rw first at stands ∙ ap (λ xs. map Some run ++ xs) (nil_from_length rest (omega (arith, lengths, all, length-map items shown))) ∙ append-nil (map Some run)

      holds : RunSuffices (one_run run) e
      holds line k = All-cons (λ r. RunIsAt line k r → Holds line e k (k + length r)) run [] (λ there. outline.holds line k (k + length run) (sets_suffice line items _ _ (rw is (all_sets run)) (rw is (stands_fit k there)))) (λ n d lt. absurd (omega arith))

  -- where all others are optional, it holds wherever they are
  pub run_suffices : All IsOptional (take start items) × All IsOptional (drop (length run) (drop start items)) → RunSuffices (one_run run) e
  run_suffices (before, after) line k = All-cons (λ r. RunIsAt line k r → Holds line e k (k + length r)) run [] here (λ n d lt. absurd (omega arith))
    where
      own : List OutlineItem
      own = take (length run) (drop start items)

      sets : map shown own ≡ map Some run
      sets = sym (take-map shown (length run) (drop start items)) ∙ ap (take (length run)) (sym (drop-map shown start items) ∙ stands) ∙ ap (λ n. take n (map Some run ++ rest)) (sym (length-map run Some)) ∙ take-append_seam (map Some run) rest

      whole : take start items ++ (own ++ drop (length run) (drop start items)) ≡ items
      whole = ap (λ l. take start items ++ l) (take-append-drop (length run) (drop start items)) ∙ take-append-drop start items

      here : RunIsAt line k run → Holds line e k (k + length run)
      here there =
          let stretch = sets_suffice line own k (k + length run) (rw sets (all_sets run)) (rw sets (stands_fit k there)) in
          outline.holds line k (k + length run)
          (subst (λ l. Suffices line l k (k + length run)) whole
          (suffices_join line (take start items) _ k k _ (none_suffice line _ k before)
          (suffices_join line own _ k _ _ stretch (none_suffice line _ _ after))))
