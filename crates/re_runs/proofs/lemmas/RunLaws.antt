-- Where a run of sets is in a line, and what the tests of its probes say.
use Rattle.{re_runs.proofs.{Prelude.{◌%◌, HasBitAt, bits_of, ◌≡◌, ℕ, ◌+◌, ◌-◌, ◌<◌, ◌≤◌, ◌⊎◌, inl, inr, Bool, IsTrue, List, Vec, [], ◌∷◌, ◌++◌, length, map, drop, get_or, slice_index, Option, None, Some, refl, sym, ap, ◌∙◌, subst, arith, eq-eqb, length-append, length-drop, bit_at, Bytes, Text, nothing, only, members, ByteSet, OccursAt, FindsNeedle, Nowhere, NoneBefore, Marks, Probe, Probes, Runs, members_of, one_run, RunIsAt, IsNoWider, RunStandsAt, Any, longest_of, IsLongestRun, take, All-cons, FindsRun, set_at, sets_of_each, PassesAt, AllPass, IsProbeOf, AreProbesOf, bit_at-zero, cases_lt, eqb-true, get_or-drop, get_or_append_left, get_or-append-add, length-map}}, std.{specs.Prelude.{IfSome, MatchOption, max}, proofs.lemmas.List.{get_or-map, map-append, take_more}}, re_trees.proofs.lemmas.{Decisions.Any-first, SomeOfJoined.Any-single}}

-- ---- in a longer line, and in the rest of one

-- what holds of some run
pub some_run : {P Q : List Bytes → Type 0} (runs : Runs) → ((run : List Bytes) → P run → Q run) → Any P runs → Any Q runs
some_run runs f (n, run, lt, at, p) = (n, run, lt, at, f run p)

-- one run is where it stands
pub one_stands : (run : List Bytes) (line : Text) (k : ℕ) → RunIsAt line k run → RunStandsAt line (one_run run) k
one_stands run line k is = Any-first (RunIsAt line k) run [] is

pub one_is : (run : List Bytes) (line : Text) (k : ℕ) → RunStandsAt line (one_run run) k → RunIsAt line k run
one_is run line k o = Any-single (RunIsAt line k) run o

-- and it is the longest there
pub one_longest : (run : List Bytes) (line : Text) (k end : ℕ) → RunIsAt line k run → end ≡ k + length run → IsLongestRun line (one_run run) k end
one_longest run line k end is same = record {
  ends = Any-first (λ r. RunIsAt line k r × (end ≡ k + length r)) run [] (is, same);
  longest = All-cons (λ r. RunIsAt line k r → k + length r ≤ end) run [] (λ _. omega arith) (λ n d lt. absurd (omega arith));
}

-- where another line has the same bytes
moved : {line : Text} (other : Text) {k : ℕ} (l : ℕ) {run : List Bytes} → l + length run ≤ length other → ((j : ℕ) → j < length run → slice_index line (k + j) ≡ slice_index other (l + j)) → RunIsAt line k run → RunIsAt other l run
moved other l fits same is = record { fits = fits; takes = λ j below. rw (same j below) at (is.takes j below) }

pub run_before : (runs : Runs) (line after : Text) (k : ℕ) → RunStandsAt line runs k → RunStandsAt (line ++ after) runs k
run_before runs line after k (n, run, lt, at, is) = (n, run, lt, at, moved _ k (omega (arith, length-append line after)) (λ j below. sym (get_or_append_left line after 0 (k + j) (omega arith))) is)

pub run_after : (runs : Runs) (before line : Text) (k : ℕ) → RunStandsAt line runs k → RunStandsAt (before ++ line) runs (length before + k)
run_after runs before line k (n, run, lt, at, is) = (n, run, lt, at, moved _ _ (omega (arith, length-append before line)) (λ j below. sym (ap (λ m. get_or (before ++ line) m 0) (omega arith) ∙ get_or-append-add before line (k + j) 0)) is)

pub run_rest : (runs : Runs) (line : Text) (from k : ℕ) → from ≤ k → RunStandsAt line runs k → RunStandsAt (drop from line) runs (k - from)
run_rest runs line from k h (n, run, lt, at, is) = (n, run, lt, at, moved _ _ (omega (arith, length-drop from line)) (λ j below. sym (get_or-drop from line (k - from + j) 0 ∙ ap (λ m. get_or line m 0) (omega arith))) is)

pub run_whole : (runs : Runs) (line : Text) (from k : ℕ) → from ≤ length line → RunStandsAt (drop from line) runs k → RunStandsAt line runs (from + k)
run_whole runs line from k within (n, run, lt, at, is) = (n, run, lt, at, moved _ _ (omega (arith, length-drop from line)) (λ j below. get_or-drop from line (k + j) 0 ∙ ap (λ m. get_or line m 0) (omega arith)) is)

-- a run stands where one does that begins with it
pub front_stands : (line : Text) (front rest : List Bytes) (k : ℕ) → RunIsAt line k (front ++ rest) → RunIsAt line k front
front_stands line front rest k is =
    let fits : k + length (front ++ rest) ≤ length line = is.fits in record {
      fits = omega (arith, length-append front rest);
      takes = λ j below. rw (get_or_append_left front rest nothing j below) at (is.takes j (omega (arith, length-append front rest)));
    }

-- a run is on the line
pub stands_within : (line : Text) (runs : Runs) (k : ℕ) → RunStandsAt line runs k → k ≤ length line
stands_within line runs k (n, run, lt, at, is) = omega arith

-- ---- a string is the run of its bytes alone

pub text_run : (line text : Text) (k : ℕ) → OccursAt line text k → RunStandsAt line (one_run (map only text)) k
text_run line text k o =
    let fits : k + length text ≤ length line = o.fits in
    one_stands (map only text) line k (record {
      fits = omega (arith, length-map text only);
      takes = λ j below.
          let inside : j < length text = omega (arith, length-map text only) in
          rw (get_or-map only text j 0 nothing inside) (eq-eqb (slice_index line (k + j)) (slice_index text j) (o.reads j inside));
    })

pub run_text : (line text : Text) (k : ℕ) → RunStandsAt line (one_run (map only text)) k → OccursAt line text k
run_text line text k o =
    let is = one_is (map only text) line k o in
    let fits : k + length (map only text) ≤ length line = is.fits in record {
      fits = omega (arith, length-map text only);
      reads = λ j inside.
          eqb-true (slice_index line (k + j)) (slice_index text j) (rw (get_or-map only text j 0 nothing inside) at (is.takes j (omega (arith, length-map text only))));
    }

pub finds_text : (line text : Text) (r : Option ℕ) → FindsNeedle line text 0 r → FindsRun line (one_run (map only text)) r
finds_text line text None none = λ k low high o. none k low high (run_text line text k o)
finds_text line text (Some at) (first, stands) = (record { low = first.low; high = first.high; before = λ k low high o. first.before k low high (run_text line text k o) }, text_run line text at stands)

-- ---- where a search says that the run is nowhere

pub nowhere : (line : Text) (runs : Runs) → FindsRun line runs None → (k : ℕ) → ¬ RunStandsAt line runs k
nowhere line runs none k o = none k (omega arith) (omega (arith, stands_within _ _ k o)) o

-- ---- the sets of a run, one by one

pub its_members : (sets : List ByteSet) (j : ℕ) (set : ByteSet) → j < length sets → set ≡ get_or sets j set → set_at (map members sets) j ≡ members set
its_members sets j set below is = cc (get_or-map members sets j set nothing below)

-- the sets of a run of several, which is read from its vector
pub each_at : (runs : List (Vec ByteSet)) (n : ℕ) (d : List Bytes) (run : List ByteSet) (e : Vec ByteSet) → n < length runs → e ≡ get_or runs n e → run ≡ e.items → get_or (sets_of_each runs) n d ≡ map members run
each_at runs n d run e below at is = get_or-map (λ r. map members r.items) runs n e d below ∙ ap (λ r. map members r.items) (sym at) ∙ ap (map members) (sym is)

-- the one element of a list whose image is one element
pub one_image : {X Y : Type 0} (f : X → Y) (xs : List X) (y : Y) → map f xs ≡ y ∷ [] → (x : X) × (xs ≡ x ∷ []) × (f x ≡ y)
one_image f [] y is = absurd (cc)
one_image f (x ∷ []) y is = (x, refl, ap (λ l. get_or l 0 y) is)
one_image f (x ∷ z ∷ xs) y is = absurd (cc)

-- runs of one list, none of which takes the bytes, and one more
pub none_more : (P : List Bytes → Type 0) (runs : List (List Bytes)) (number : ℕ) → ((n : ℕ) (d : List Bytes) → n < number → ¬ P (get_or runs n d)) → ((d : List Bytes) → ¬ P (get_or runs number d))
    → (n : ℕ) (d : List Bytes) → n < number + 1 → ¬ P (get_or runs n d)
none_more P runs number before here n d lt o = elim (cases_lt n number) [
  | inl early ↦ before n d early o
  | inr late ↦
      let same : n ≡ number = omega arith in here d (rw same at o)
]

-- how long the longest of one run more is
longest_push : (runs : Runs) (run : List Bytes) → longest_of (runs ++ run ∷ []) ≡ max (longest_of runs) (length run)
longest_push [] run = omega arith
longest_push (r ∷ runs) run = omega (arith, longest_push runs run)

pub longest_more : (runs : List (Vec ByteSet)) (n : ℕ) (run : Vec ByteSet) → n < length runs → run ≡ get_or runs n run → longest_of (sets_of_each (take (n + 1) runs)) ≡ max (longest_of (sets_of_each (take n runs))) (length run.items)
longest_more runs n run lt is =
    let grown =
    ap sets_of_each (take_more runs n run lt) ∙ map-append (λ r. map members r.items) (take n runs) (get_or runs n run ∷ []) ∙ ap (λ (r : Vec ByteSet). sets_of_each (take n runs) ++ map members r.items ∷ []) (sym is) in
    ap longest_of grown ∙ longest_push (sets_of_each (take n runs)) (map members run.items) ∙ ap (max (longest_of (sets_of_each (take n runs)))) (length-map run.items members)

module _ (line : Text) (place : ℕ) (runs : Runs) where
  -- what is known of the longest of the first runs that are at the place
  abbrev pub IsLongestOf : ℕ → Option ℕ → Type 0
  IsLongestOf number found = MatchOption found
      ((n : ℕ) (d : List Bytes) → n < number → ¬ RunIsAt line place (get_or runs n d))
      (λ end. Any (λ run. RunIsAt line place run × (end ≡ place + length run)) runs
      × ((n : ℕ) (d : List Bytes) → n < number → RunIsAt line place (get_or runs n d) → place + length (get_or runs n d) ≤ end))

  -- with one run more, which is not there
  pub longest_kept : (number : ℕ) (found : Option ℕ) → ((d : List Bytes) → ¬ RunIsAt line place (get_or runs number d)) → IsLongestOf number found → IsLongestOf (number + 1) found
  longest_kept number None away before = none_more (RunIsAt line place) runs number before away
  longest_kept number (Some end) away (ends, longest) = (
    ends,
    λ n d lt is. elim (cases_lt n number) [
      | inl early ↦ longest n d early is
      | inr late ↦ let same : n ≡ number = omega arith in absurd (away d (rw same at is))
    ],
  )

  -- or which is there
  pub longest_grown : (number : ℕ) (known : Option ℕ) (run : List Bytes) (end : ℕ) → number < length runs → ((d : List Bytes) → get_or runs number d ≡ run) → RunIsAt line place run
      → place + length run ≤ end → IfSome known (λ p. p ≤ end) → (end ≡ place + length run) ⊎ (known ≡ Some end) → IsLongestOf number known → IsLongestOf (number + 1) (Some end)
  longest_grown number known run end lt at is low beyond one before = (ends known one before, longest known beyond before)
    where
      ends : (known : Option ℕ) → (end ≡ place + length run) ⊎ (known ≡ Some end) → IsLongestOf number known → Any (λ r. RunIsAt line place r × (end ≡ place + length r)) runs
      ends known (inl own) before = (number, run, lt, at run, (is, own))
      ends known (inr same) before = (rw same at before).0

      longest : (known : Option ℕ) → IfSome known (λ p. p ≤ end) → IsLongestOf number known → (n : ℕ) (d : List Bytes) → n < number + 1 → RunIsAt line place (get_or runs n d) → place + length (get_or runs n d) ≤ end
      longest known beyond before n d below there = elim (cases_lt n number) [
        | inl early ↦ earlier known beyond before early
        | inr late ↦
            let same : number ≡ n = omega arith in let own = rw same at (at d) in omega (arith, ap length own)
      ]
        where
          earlier : (known : Option ℕ) → IfSome known (λ p. p ≤ end) → IsLongestOf number known → n < number → place + length (get_or runs n d) ≤ end
          earlier None beyond before early = absurd (before n d early there)
          earlier (Some p) beyond (_, longest) early = omega (arith, longest n d early there)

  pub longest_all : (number : ℕ) (found : Option ℕ) → length runs ≤ number → IsLongestOf number found → MatchOption found (¬ RunStandsAt line runs place) (IsLongestRun line runs place)
  longest_all number None all none = λ (n, run, lt, at, is). none n run (omega arith) (rw (sym at) at is)
  longest_all number (Some end) all (ends, longest) = record { ends = ends; longest = λ n d lt is. longest n d (omega arith) is }

-- one set more takes its byte
pub takes_more : (run : List Bytes) (line : Text) (place j : ℕ) → IsTrue (set_at run j (slice_index line (place + j)))
    → ((k : ℕ) → k < j → IsTrue (set_at run k (slice_index line (place + k))))
    → (k : ℕ) → k < j + 1 → IsTrue (set_at run k (slice_index line (place + k)))
takes_more run line place j has earlier k lt = elim (cases_lt k j) [
  | inl before ↦ earlier k before
  | inr late ↦ let same : k ≡ j = omega arith in rw same has
]

pub map-map : {X Y Z : Type 0} (g : Y → Z) (f : X → Y) (xs : List X) → map g (map f xs) ≡ map (λ x. g (f x)) xs
map-map g f [] = refl
map-map g f (x ∷ xs) = rw (map-map g f xs)

-- ---- by the tests of its probes

module _ (runs : Runs) (width : ℕ) (wide : IsNoWider width runs) (line : Text) (k : ℕ) (small : (x : ℕ) → slice_index line x < 256) where
  -- where a run is, its bytes pass the tests of a probe, and have the bit of the run
  module _ (probe : Probe) (is : IsProbeOf probe width runs) (n : ℕ) (run : List Bytes) (lt : n < length runs) (at : get_or runs n run ≡ run) (there : RunIsAt line k run) where
    has : IsTrue (set_at (get_or runs n run) probe.at (slice_index line (k + probe.at)))
    has =
        let long = subst (λ r. width ≤ length r) at (wide n run lt) in
        rw (sym at) at (there.takes probe.at (omega arith))

    passes : PassesAt probe line k
    passes = is.passes n run lt (slice_index line (k + probe.at)) (small (k + probe.at)) has

    has_bit : 2 ≤ length runs → HasBitAt probe line k (n % 8)
    has_bit several = is.each several n run lt (slice_index line (k + probe.at)) (small (k + probe.at)) has

  -- a byte's bits, where there is one, have that of a run there
  pub bit_there : (probe : Probe) → IsProbeOf probe width runs → 2 ≤ length runs → (n : ℕ) (d : List Bytes) → n < length runs → RunIsAt line k (get_or runs n d) → (bits : ℕ)
      → (k + probe.at < length line → bits ≡ bits_of probe.nibbles (slice_index line (k + probe.at))) → bit_at bits (n % 8) ≡ 1
  bit_there probe is several n d lt there bits same =
      let long : width ≤ length (get_or runs n d) = wide n d lt in let fits : k + length (get_or runs n d) ≤ length line = there.fits in let within : probe.at < width = is.within in
      rw (same (omega arith)) (is.each several n d lt (slice_index line (k + probe.at)) (small (k + probe.at)) (there.takes probe.at (omega arith)))

  -- so it is for all four
  pub all_pass : (each : Bool) (probes : Probes) → (IsTrue each → 2 ≤ length runs) → AreProbesOf probes width runs → RunStandsAt line runs k → AllPass each probes line k
  all_pass each probes several are (n, run, lt, at, there) = record {
    first = passes probes.first are.first n run lt at there;
    second = passes probes.second are.second n run lt at there;
    third = passes probes.third are.third n run lt at there;
    fourth = passes probes.fourth are.fourth n run lt at there;
    common = λ yes. (n % 8, has_bit probes.first are.first n run lt at there (several yes), has_bit probes.second are.second n run lt at there (several yes), has_bit probes.third are.third n run lt at there (several yes), has_bit probes.fourth are.fourth n run lt at there (several yes));
  }

-- the runs of a finder
pub seen_runs : (seen : List (List ByteSet)) (runs : List (Vec ByteSet)) → map (λ run. run.items) runs ≡ seen → members_of seen ≡ sets_of_each runs
seen_runs seen runs is = cc (map-map (map members) (λ run. run.items) runs)

-- where one is, all its probes are passed
pub found_pass : {seen : List (List ByteSet)} (runs : List (Vec ByteSet)) {width : ℕ} (each : Bool) {probes : Probes} → map (λ run. run.items) runs ≡ seen
    → IsNoWider width (sets_of_each runs) → AreProbesOf probes width (sets_of_each runs) → (IsTrue each → 2 ≤ length seen)
    → (line : Text) → ((x : ℕ) → slice_index line x < 256) → (k : ℕ) → RunStandsAt line (members_of seen) k → AllPass each probes line k
found_pass {seen} runs each is wide are several line small k o =
    let long : length (sets_of_each runs) ≡ length seen = omega (arith, length-map runs (λ run. map members run.items), length-map runs (λ run. run.items), ap length is) in
    all_pass _ _ wide _ k small _ _ (λ yes. omega (arith, several yes)) are (rw (seen_runs _ _ is) at o)

-- a run is nowhere where it has no room
pub no_room : (runs : Runs) (width : ℕ) → IsNoWider width runs → (line : Text) (k : ℕ) → length line + 1 ≤ k + width → ¬ RunStandsAt line runs k
no_room runs width wide line k short (n, run, lt, at, is) =
    let long = subst (λ r. width ≤ length r) at (wide n run lt) in absurd (omega arith)

-- marks of the 32 places that the probes pass, and then those that are left, mark those where the run is
pub marks_stand : (runs : Runs) (line : Text) (each : Bool) (probes : Probes) (place m narrowed : ℕ) → ((k : ℕ) → RunStandsAt line runs k → AllPass each probes line k)
    → ((k : ℕ) → k < 32 → AllPass each probes line (place + k) → bit_at m k ≡ 1) → ((k : ℕ) → bit_at m k ≡ 1 → k < 32)
    → ((k : ℕ) → k < 32 → bit_at m k ≡ 1 → AllPass each probes line (place + k) → bit_at narrowed k ≡ 1) → ((k : ℕ) → bit_at narrowed k ≡ 1 → bit_at m k ≡ 1)
    → Marks (RunStandsAt line runs) place (place + 32) narrowed
marks_stand runs line each probes place m narrowed pass marked within kept left = record {
  each = λ k lt o. let all = pass (place + k) o in kept k (omega arith) (marked k (omega arith) all) all;
  within = λ k h. omega (arith, within k (left k h));
}

-- what is nowhere before a place, nor from there up to another
pub nowhere_on : (P : ℕ → Type 0) (start past : ℕ) → Nowhere P 0 start → Nowhere P start past → Nowhere P 0 past
nowhere_on P start past before after k low lt o = elim (cases_lt k start) [ inl e ↦ before k low e o | inr l ↦ after k l lt o ]

-- a run that is nowhere before the place from which on it has no room is nowhere
pub finds_none : (seen : List (List ByteSet)) (runs : List (Vec ByteSet)) (width : ℕ) → map (λ run. run.items) runs ≡ seen → IsNoWider width (sets_of_each runs)
    → (line : Text) (end : ℕ) → length line + 1 ≤ end + width → Nowhere (RunStandsAt line (members_of seen)) 0 end → FindsRun line (members_of seen) None
finds_none seen runs width is wide line end short none k low lt o = elim (cases_lt k end) [
  | inl e ↦ none k low e o
  | inr l ↦ no_room _ _ wide _ k (omega arith) (rw (seen_runs _ _ is) at o)
]

-- nor at one place more
pub nowhere_at : (P : ℕ → Type 0) (place : ℕ) → Nowhere P 0 place → ¬ P place → Nowhere P 0 (place + 1)
nowhere_at P place before here k low lt o = elim (cases_lt k place) [
  | inl e ↦ before k low e o
  | inr l ↦ let same : k ≡ place = omega arith in here (rw same at o)
]

-- the first place from one on is the first of all if there is none before
pub finds_some : (run : Runs) (line : Text) (start past at : ℕ) → past ≤ length line → Nowhere (RunStandsAt line run) 0 start
    → NoneBefore (RunStandsAt line run) start past at × RunStandsAt line run at → FindsRun line run (Some at)
finds_some run line start past at within before (first, stands) = (record { low = omega arith; high = omega arith; before = nowhere_on (RunStandsAt line run) start at before first.before }, stands)

-- 32 places, none of which is marked
pub nowhere_marked : (P : ℕ → Type 0) (from at marks : ℕ) → Nowhere P from at → ((k : ℕ) → k < 32 → P (at + k) → bit_at marks k ≡ 1) → marks ≡ 0 → Nowhere P from (at + 32)
nowhere_marked P from at marks before each none k low lt o = elim (cases_lt k at) [
  | inl e ↦ before k low e o
  | inr l ↦
      let place : k ≡ at + (k - at) = omega arith in let set = each (k - at) (omega arith) (rw place at o) in
      absurd (omega (arith, ap (λ m. bit_at m (k - at)) none ∙ bit_at-zero (k - at)))
]
