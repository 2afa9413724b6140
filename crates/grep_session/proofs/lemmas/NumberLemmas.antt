-- The numbers of the expressions that match a line.
use Rattle.{grep_session.proofs.Prelude.{◌≡◌, ℕ, ◌+◌, ◌-◌, ◌<◌, ◌≤◌, ◌==◌, ◌⊎◌, ◌&&◌, Bool, true, false, not, ◌||◌, List, [], ◌∷◌, ◌++◌, inl, inr, length, map, filter, Any, Decides, get_or, nat_eq, nat_le, nat_tests, cases_lt, refl, sym, ap, ◌∙◌, arith, append_assoc, append-nil, length-append, get_or_default, false≢true, list_any, Text, Expression, Matches, AreMatching, AddsMatching, has_number, has_own, is_other, left_numbers, lowered}, std.proofs.{Math.{ListN.get_or-append, Seq.get_or-append_right}, lemmas.{Bool.{cases_Bool, cases_eq, Decides.{Decides-at, Decides-like, Decides-or}}, List.Folds.{Any-from_list_any, list_any-append, list_any_at}}}, re_syntax.specs.Expression.empty, line_chunks.proofs.lemmas.PairLaws.{eq_no, eq_yes, le_no, le_yes, lt_no, lt_yes}, grep_core.proofs.lemmas.Verdicts.{decided_no, decided_yes}}

-- some number passes a test
any_number : (P : ℕ → Bool) (ns : List ℕ) → Decides (list_any P ns) ((n : ℕ) × (has_number n ns ≡ true) × (P n ≡ true))
any_number P ns = (
  (λ on.
      let s = Any-from_list_any P ns on in
      (s.1, list_any_at (λ n. nat_eq n s.1) ns s.0 s.1 s.2 (eq_yes _ _ s.3), s.4)),
  (λ s.
      let i = Any-from_list_any (λ n. nat_eq n s.0) ns s.1 in
      let same : i.1 ≡ s.0 = grind (arith, nat_tests, i.4) in
      list_any_at P ns i.0 i.1 i.2 (cc (i.3 ∙ same, s.2))),
)

-- a number after some went and others became smaller
has_renumbered : (f : ℕ → Bool) (g : ℕ → ℕ) (n : ℕ) (ns : List ℕ) → has_number n (map g (filter f ns)) ≡ list_any (λ m. f m && nat_eq (g m) n) ns
has_renumbered f g n [] = refl
has_renumbered f g n (x ∷ ns) =
    let more = has_renumbered f g n ns in
    elim (cases_Bool (f x)) [
      | inl on ↦ rw on (rw more)
      | inr off ↦ rw off more
    ]

module _ (first count by n m : ℕ) where
  abbrev Becomes : Type 0
  Becomes = (is_other first count m && nat_eq (lowered first by m) n) ≡ true

  becomes : Becomes → ((m < first) × (n ≡ m)) ⊎ ((first + count ≤ m) × (n ≡ m - by))
  becomes h = elim (cases_lt m first) [
    | inl low ↦ (let is = rw (lt_yes m first low) at h in let same : n ≡ m = grind (arith, nat_tests, is) in inl (low, same))
    | inr high ↦ (let is = rw (lt_no m first high) at h in elim (cases_Bool (nat_le count (m - first))) [
      | inl past ↦ (let rest = rw past at is in let same : n ≡ m - by = grind (arith, nat_tests, rest) in let late : count ≤ m - first = grind (arith, nat_tests, past) in inr (omega arith, same))
      | inr own ↦ absurd (false≢true (rw own at is))
    ])
  ]

  stays_low : m < first → n ≡ m → Becomes
  stays_low low same = rw (lt_yes m first low) (eq_yes m n (sym same))

  stays_high : first + count ≤ m → n ≡ m - by → Becomes
  stays_high high same =
      let after : first ≤ m = omega arith in
      let past : count ≤ m - first = omega arith in
      rw (lt_no m first after, le_yes count (m - first) past) (eq_yes (m - by) n (sym same))

-- the numbers that are left
pub left_number : (first count by n : ℕ) (ns : List ℕ) → Decides (has_number n (left_numbers first count by ns)) ((m : ℕ) × (has_number m ns ≡ true) × (((m < first) × (n ≡ m)) ⊎ ((first + count ≤ m) × (n ≡ m - by))))
left_number first count by n ns =
    Decides-like _ (λ s. (s.0, s.1, becomes _ _ by n _ s.2)) (λ s. (s.0, s.1, elim s.2 [ inl l ↦ stays_low _ count by n _ l.0 l.1 | inr g ↦ stays_high _ _ by n _ g.0 g.1 ]))
    (Decides-at _ _ (has_renumbered (is_other first count) (lowered first by) n ns) (any_number (λ m. is_other first count m && nat_eq (lowered first by m) n) ns))

-- a number is one of those from `first` on
own_is : (first count n : ℕ) → not (is_other first count n) ≡ true → (first ≤ n) × (n < first + count)
own_is first count n h = elim (cases_lt n first) [
  | inl low ↦ absurd (false≢true (rw (lt_yes n first low) at h))
  | inr high ↦ (let is = rw (lt_no n first high) at h in let less : n - first < count = grind (arith, nat_tests, is) in (high, omega arith))
]

is_own : (first count n : ℕ) → first ≤ n → n < first + count → not (is_other first count n) ≡ true
is_own first count n low high = rw (lt_no n first low, le_no count (n - first) (omega arith)) refl

module _ (line : Text) (entire : Bool) where
  abbrev pub M : Expression → Type 0
  M e = Matches e line entire

  abbrev pub At : ℕ → List Expression → ℕ → Expression → Type 0
  At first es n d = (first ≤ n) × (n < first + length es) × M (get_or es (n - first) d)

  -- the expression with a number is one of the first or of the others
  module _ (first : ℕ) (es fs : List Expression) (n : ℕ) (d : Expression) where
    before : first ≤ n → n < first + length es → get_or (es ++ fs) (n - first) d ≡ get_or es (n - first) d
    before low high = get_or-append es fs d (n - first) (omega arith)

    after : first + length es ≤ n → get_or (es ++ fs) (n - first) d ≡ get_or fs (n - (first + length es)) d
    after low =
        let place : n - first - length es ≡ n - (first + length es) = omega arith in
        get_or-append_right es fs (n - first) d (omega arith) ∙ ap (λ k. get_or fs k d) place

    pub at_first : At first es n d → At first (es ++ fs) n d
    at_first p = (p.0, omega (arith, length-append es fs), rw (before p.0 p.1) p.2)

    pub at_rest : At (first + length es) fs n d → At first (es ++ fs) n d
    at_rest p = (omega arith, omega (arith, length-append es fs), rw (after p.0) p.2)

    pub at_either : At first (es ++ fs) n d → At first es n d ⊎ At (first + length es) fs n d
    at_either p = elim (cases_lt n (first + length es)) [
      | inl low ↦ inl (p.0, low, rw (before p.0 low) at p.2)
      | inr high ↦ inr (high, omega (arith, length-append es fs), rw (after high) at p.2)
    ]

  -- the numbers of more expressions are appended
  AreMatching-append : (first : ℕ) (es fs : List Expression) (ns ms : List ℕ) → AreMatching line entire first es ns → AreMatching line entire (first + length es) fs ms → AreMatching line entire first (es ++ fs) (ns ++ ms)
  AreMatching-append first es fs ns ms a b n d =
      Decides-at _ _ (list_any-append (λ m. nat_eq m n) ns ms) (Decides-like _ (λ p. elim p [ inl l ↦ at_first _ es fs n d l | inr r ↦ at_rest _ es fs n d r ]) (at_either first es fs n d) (Decides-or _ _ (a n d) (b n d)))

  -- no expression, no number
  pub adds_none_matching : (first : ℕ) (old : List ℕ) → AddsMatching line entire first [] old old
  adds_none_matching first old = record { found = []; are_found = λ n d. decided_no (λ p. omega arith); added = sym (append-nil old) }

  -- one expression
  alone : (first n : ℕ) (e d : Expression) → n ≡ first → get_or (e ∷ []) (n - first) d ≡ e
  alone first n e d here = rw (let none : n - first ≡ 0 = omega arith in none)

  pub adds_one_matching : (first : ℕ) (e : Expression) (old new : List ℕ) → M e → new ≡ old ++ first ∷ [] → AddsMatching line entire first (e ∷ []) old new
  adds_one_matching first e old new m added = record { found = first ∷ []; are_found = one; added = added }
    where
      one : AreMatching line entire first (e ∷ []) (first ∷ [])
      one n d = elim (cases_eq n first) [
        | inl here ↦ Decides-at _ true (rw (eq_yes first n (sym here))) (decided_yes (omega arith, omega arith, rw (alone _ n e d here) m))
        | inr apart ↦ Decides-at _ false (rw (eq_no first n (λ same. apart (sym same)))) (decided_no (λ p. apart (omega arith)))
      ]

  pub passes_one_matching : (first : ℕ) (e : Expression) (old : List ℕ) → (M e → ⊥) → AddsMatching line entire first (e ∷ []) old old
  passes_one_matching first e old m = record { found = []; are_found = λ n d. decided_no (λ p. m (rw (alone first n e d (omega arith)) at p.2)); added = sym (append-nil old) }

  -- the numbers of more expressions are added
  pub adds_more_matching : {first next : ℕ} {all : List Expression} (es fs : List Expression) {mid new : List ℕ} (old : List ℕ) → next ≡ first + length es → all ≡ es ++ fs → AddsMatching line entire first es old mid → AddsMatching line entire next fs mid new → AddsMatching line entire first all old new
  adds_more_matching es fs old place both a b = record {
    found = a.found ++ b.found;
    are_found = rw both (AreMatching-append _ es fs _ _ a.are_found (rw place at b.are_found));
    added = cc (b.added, a.added, append_assoc old a.found b.found);
  }

  -- ---- some expression

  any_at : (first : ℕ) (es : List Expression) (n : ℕ) (d : Expression) → At first es n d → Any M es
  any_at first es n d p =
      let inside : n - first < length es = omega arith in
      (n - first, get_or es (n - first) d, inside, get_or_default es (n - first) (get_or es (n - first) d) d inside, p.2)

  at_any : (first : ℕ) (es : List Expression) (some : Any M es) → At first es (first + some.0) some.1
  at_any first es some =
      let here : first + some.0 - first ≡ some.0 = omega arith in
      (omega arith, omega arith, rw (ap (λ k. get_or es k some.1) here ∙ some.3) some.4)

  -- if some expression matches, there is a number
  pub none_match : (first : ℕ) (es : List Expression) → AreMatching line entire first es [] → Any M es → ⊥
  none_match first es a some = false≢true ((a (first + some.0) some.1).1 (at_any first es some))

  pub some_decides : (first : ℕ) (es : List Expression) (ns : List ℕ) → AreMatching line entire first es ns → Decides (not (length ns == 0)) (Any M es)
  some_decides first es [] a = decided_no (none_match first es a)
  some_decides first es (n ∷ ns) a =
      Decides-at _ true (grind (arith, nat_tests)) (decided_yes (any_at first es n empty ((a n empty).0 (ap (λ b. b || has_number n ns) (eq_yes n n refl)))))

  -- whether one of some of the expressions does
  pub own_decides : (first count : ℕ) (front own back : List Expression) (ns : List ℕ) → first ≡ length front → count ≡ length own → AreMatching line entire 0 (front ++ (own ++ back)) ns → Decides (has_own first count ns) (Any M own)
  own_decides first count front own back ns at many a = Decides-like _ to from (any_number (λ n. not (is_other first count n)) ns)
    where
      to : (n : ℕ) × (has_number n ns ≡ true) × (not (is_other first count n) ≡ true) → Any M own
      to s =
          let inside = own_is first count s.0 s.2 in
          elim (at_either 0 front (own ++ back) s.0 empty ((a s.0 empty).0 s.1)) [
            | inl f ↦ absurd (let no : ⊥ = omega (arith, f.1, inside.0, at) in no)
            | inr r ↦ elim (at_either (0 + length front) own back s.0 empty r) [
              | inl o ↦ any_at (0 + length front) own s.0 empty o
              | inr b ↦ absurd (let no : ⊥ = omega (arith, b.0, inside.1, at, many) in no)
            ]
          ]

      from : Any M own → (n : ℕ) × (has_number n ns ≡ true) × (not (is_other first count n) ≡ true)
      from some =
          let n = 0 + length front + some.0 in
          let p = at_rest 0 front (own ++ back) n some.1 (at_first (0 + length front) own back n some.1 (at_any (0 + length front) own some)) in
          (n, (a n some.1).1 p, is_own first count n (omega (arith, at)) (omega (arith, at, many, some.2)))
