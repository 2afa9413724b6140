-- The rows of changes are read in one way.
use Rattle.{grep_cmd.proofs.Prelude.{◌≡◌, ℕ, zero, suc, ◌+◌, ◌/◌, ◌%◌, ◌^◌, ◌<◌, ◌≤◌, Bool, true, false, cond, eqb, List, [], ◌∷◌, ◌++◌, length, map, get_or, All, refl, sym, ap, subst, ◌∙◌, inl, inr, arith, append_assoc, append-nil, length-append, pow-suc, lt-ltb, ne_eqb, if◌then◌else◌, decimal, digits_onto, digit_glyph, digits_value, Text, Status, Hit, View, Change, is_idle, spliced_hits, after_each, all_after, spaced, part_text, more_parts, parts_text, flat_map, line_text, hit_row, change_row, change_rows, changes_rows, status_line, IsHeld, IsHeldPart, IsHeldHit, IsHeldChange, read_hit, read_change, cases_lt, decimal_is_IsNumeral_wide, length-decimal-le, All-cons, All-head, All-tail}, std.specs.Fmt.digits}

-- ---- lists

module _ {A : Type 0} where
  pub first_same : (x y : A) (xs ys : List A) → x ∷ xs ≡ y ∷ ys → x ≡ y
  first_same x y xs ys e = cc

  pub rest_same : (x y : A) (xs ys : List A) → x ∷ xs ≡ y ∷ ys → xs ≡ ys
  rest_same x y xs ys e = cc

  pub none_is_some : (x : A) (xs : List A) → [] ≡ x ∷ xs → ⊥
  none_is_some x xs e = cc

  -- two lists, cut at one length
  pub cut_same : (xs ys s t : List A) → length xs ≡ length ys → xs ++ s ≡ ys ++ t → (xs ≡ ys) × (s ≡ t)
  cut_same [] [] s t l e = (refl, e)
  cut_same [] (y ∷ ys) s t l e = absurd (omega arith)
  cut_same (x ∷ xs) [] s t l e = absurd (omega arith)
  cut_same (x ∷ xs) (y ∷ ys) s t l e =
      let here = first_same x y (xs ++ s) (ys ++ t) e in
      let more = cut_same xs ys s t (omega arith) (rest_same x y _ _ e) in
      ((λ i. here i ∷ more.0 i), more.1)

  pub last_cut : (xs ys : List A) (x y : A) → xs ++ x ∷ [] ≡ ys ++ y ∷ [] → xs ≡ ys
  last_cut xs ys x y e =
      let long : length xs ≡ length ys = omega (arith, ap length e, length-append xs (x ∷ []), length-append ys (y ∷ [])) in
      (cut_same xs ys _ _ long e).0

-- ---- digits

abbrev IsDigit : ℕ → Type 0
IsDigit c = (48 ≤ c) × (c < 58)

abbrev AreDigits : Text → Type 0
AreDigits [] = Unit {0}
AreDigits (c ∷ cs) = IsDigit c × AreDigits cs

-- the text doesn't begin with a digit
abbrev Stops : Text → Type 0
Stops [] = Unit {0}
Stops (c ∷ cs) = IsDigit c → ⊥

glyph_is_digit : (d : ℕ) → d < 10 → IsDigit (digit_glyph false d)
glyph_is_digit d small =
    let same : digit_glyph false d ≡ 48 + d = rw (lt-ltb d 10 small) in
    (omega arith, omega arith)

either_digits : (b : Bool) (xs ys : Text) → AreDigits xs → AreDigits ys → AreDigits (cond b xs ys)
either_digits true xs ys p q = p
either_digits false xs ys p q = q

onto_digits : (k n : ℕ) (acc : Text) → AreDigits acc → AreDigits (digits_onto k 10 false n acc)
onto_digits zero n acc are = are
onto_digits (suc k) n acc are =
    let glyph = digit_glyph false (n % 10) in
    let more : AreDigits (glyph ∷ acc) = (glyph_is_digit (n % 10) (omega arith), are) in
    either_digits (eqb (n / 10) 0) (glyph ∷ acc) (digits_onto k 10 false (n / 10) (glyph ∷ acc)) more (onto_digits k (n / 10) (glyph ∷ acc) more)

decimal_digits : (n : ℕ) → AreDigits (decimal n)
unfolding digits
decimal_digits n = onto_digits 64 n [] tt

-- a number of more than k digits has its last k of them
some_power : (k : ℕ) → 0 < 10 ^ k
some_power zero = omega arith
some_power (suc k) = omega (arith, pow-suc 10 k, some_power k)

onto_long : (k n : ℕ) (acc : Text) → 10 ^ k ≤ n → length (digits_onto k 10 false n acc) ≡ k + length acc
onto_long zero n acc h = omega arith
onto_long (suc k) n acc h =
    let glyph = digit_glyph false (n % 10) in
    let more : 10 ^ k ≤ n / 10 = omega (arith, h, pow-suc 10 k) in
    let some : eqb (n / 10) 0 ≡ false = ne_eqb (n / 10) 0 (λ e. omega (arith, e, more, some_power k)) in
    ap (λ (b : Bool). length (cond b (glyph ∷ acc) (digits_onto k 10 false (n / 10) (glyph ∷ acc)))) some ∙ omega (arith, onto_long k (n / 10) (glyph ∷ acc) more)

decimal_long : (n : ℕ) → 10 ^ 64 ≤ n → length (decimal n) ≡ 64
unfolding digits
decimal_long n h = omega (arith, onto_long 64 n [] h)

-- a number that can be held has its decimal digits alone
decimal_one : (m n : ℕ) → IsHeld m → decimal m ≡ decimal n → m ≡ n
decimal_one m n held e = elim (cases_lt n (10 ^ 64)) [
  | inl small ↦
      let one = (decimal_is_IsNumeral_wide m (omega arith)).1 in
      let other = (decimal_is_IsNumeral_wide n small).1 in
      sym one ∙ ap (digits_value 10) e ∙ other
  | inr large ↦
      let short = length-decimal-le 20 m (omega arith) (omega arith) (omega arith) in
      absurd (omega (arith, short, ap length e, decimal_long n large))
]

decimal_some : (n : ℕ) → decimal n ≡ [] → ⊥
decimal_some n e = elim (cases_lt n (10 ^ 64)) [
  | inl small ↦ omega (arith, (decimal_is_IsNumeral_wide n small).0.0, ap length e)
  | inr large ↦ omega (arith, decimal_long n large, ap length e)
]

-- digits are read up to what is none
digits_cut : (xs ys s t : Text) → AreDigits xs → AreDigits ys → Stops s → Stops t → xs ++ s ≡ ys ++ t → (xs ≡ ys) × (s ≡ t)
digits_cut [] [] s t dx dy ps pt e = (refl, e)
digits_cut [] (y ∷ ys) s t dx dy ps pt e = absurd (subst Stops e ps dy.0)
digits_cut (x ∷ xs) [] s t dx dy ps pt e = absurd (subst Stops (sym e) pt dx.0)
digits_cut (x ∷ xs) (y ∷ ys) s t dx dy ps pt e =
    let here = first_same x y (xs ++ s) (ys ++ t) e in
    let more = digits_cut xs ys s t dx.1 dy.1 ps pt (rest_same x y (xs ++ s) (ys ++ t) e) in
    ((λ i. here i ∷ more.0 i), more.1)

number_read : (m n : ℕ) (s t : Text) → IsHeld m → Stops s → Stops t → decimal m ++ s ≡ decimal n ++ t → (m ≡ n) × (s ≡ t)
number_read m n s t held ps pt e =
    let both = digits_cut (decimal m) (decimal n) s t (decimal_digits m) (decimal_digits n) ps pt e in
    (decimal_one m n held both.0, both.1)

no_digit : (c : ℕ) (s : Text) → c < 48 → Stops (c ∷ s)
no_digit c s low digit = omega arith

-- ---- numbers after spaces

abbrev AreHeld : List ℕ → Type 0
AreHeld [] = Unit {0}
AreHeld (n ∷ ns) = IsHeld n × AreHeld ns

spaced_stops : (ns : List ℕ) (s : Text) → Stops s → Stops (spaced ns ++ s)
spaced_stops [] s stops = stops
spaced_stops (n ∷ ns) s stops = no_digit 32 ((decimal n ++ spaced ns) ++ s) (omega arith)

spaced_read : (ms ns : List ℕ) (s t : Text) → length ms ≡ length ns → AreHeld ms → Stops s → Stops t → spaced ms ++ s ≡ spaced ns ++ t → (ms ≡ ns) × (s ≡ t)
spaced_read [] [] s t l held ps pt e = (refl, e)
spaced_read [] (n ∷ ns) s t l held ps pt e = absurd (omega (arith, l))
spaced_read (m ∷ ms) [] s t l held ps pt e = absurd (omega (arith, l))
spaced_read (m ∷ ms) (n ∷ ns) s t l held ps pt e =
    let words : (decimal m ++ spaced ms) ++ s ≡ (decimal n ++ spaced ns) ++ t = rest_same 32 32 ((decimal m ++ spaced ms) ++ s) ((decimal n ++ spaced ns) ++ t) e in
    let grouped : decimal m ++ (spaced ms ++ s) ≡ decimal n ++ (spaced ns ++ t) = sym (append_assoc (decimal m) (spaced ms) s) ∙ words ∙ append_assoc (decimal n) (spaced ns) t in
    let here = number_read m n (spaced ms ++ s) (spaced ns ++ t) held.0 (spaced_stops ms s ps) (spaced_stops ns t pt) grouped in
    let more = spaced_read ms ns s t (omega (arith, l)) held.1 ps pt here.1 in
    ((λ i. here.0 i ∷ more.0 i), more.1)

-- ---- parts

part_grouped : (part : ℕ × ℕ) (s : Text) → part_text part ++ s ≡ decimal part.0 ++ (45 ∷ (decimal part.1 ++ s))
part_grouped part s = append_assoc (decimal part.0) (45 ∷ decimal part.1) s

part_read : (p q : ℕ × ℕ) (s t : Text) → IsHeldPart p → Stops s → Stops t → part_text p ++ s ≡ part_text q ++ t → (p ≡ q) × (s ≡ t)
part_read p q s t held ps pt e =
    let grouped : decimal p.0 ++ (45 ∷ (decimal p.1 ++ s)) ≡ decimal q.0 ++ (45 ∷ (decimal q.1 ++ t)) = sym (part_grouped p s) ∙ e ∙ part_grouped q t in
    let start = number_read p.0 q.0 (45 ∷ (decimal p.1 ++ s)) (45 ∷ (decimal q.1 ++ t)) held.0 (no_digit 45 (decimal p.1 ++ s) (omega arith)) (no_digit 45 (decimal q.1 ++ t) (omega arith)) grouped in
    let end = number_read p.1 q.1 s t held.1 ps pt (rest_same 45 45 (decimal p.1 ++ s) (decimal q.1 ++ t) start.1) in
    ((λ i. (start.0 i, end.0 i)), end.1)

more_stops : (parts : List (ℕ × ℕ)) (s : Text) → Stops (more_parts parts ++ (32 ∷ s))
more_stops [] s = no_digit 32 s (omega arith)
more_stops (part ∷ parts) s = no_digit 44 ((part_text part ++ more_parts parts) ++ (32 ∷ s)) (omega arith)

more_read : (ps qs : List (ℕ × ℕ)) (s t : Text) → All IsHeldPart ps → more_parts ps ++ (32 ∷ s) ≡ more_parts qs ++ (32 ∷ t) → (ps ≡ qs) × (s ≡ t)
more_read [] [] s t held e = (refl, rest_same 32 32 s t e)
more_read [] (q ∷ qs) s t held e = let first : ◌≡◌ {A = ℕ} 32 44 = first_same 32 44 s ((part_text q ++ more_parts qs) ++ (32 ∷ t)) e in absurd (omega (arith, first))
more_read (p ∷ ps) [] s t held e = let first : ◌≡◌ {A = ℕ} 44 32 = first_same 44 32 ((part_text p ++ more_parts ps) ++ (32 ∷ s)) t e in absurd (omega (arith, first))
more_read (p ∷ ps) (q ∷ qs) s t held e =
    let words = rest_same 44 44 ((part_text p ++ more_parts ps) ++ (32 ∷ s)) ((part_text q ++ more_parts qs) ++ (32 ∷ t)) e in
    let grouped : part_text p ++ (more_parts ps ++ (32 ∷ s)) ≡ part_text q ++ (more_parts qs ++ (32 ∷ t)) = sym (append_assoc (part_text p) (more_parts ps) (32 ∷ s)) ∙ words ∙ append_assoc (part_text q) (more_parts qs) (32 ∷ t) in
    let here = part_read p q (more_parts ps ++ (32 ∷ s)) (more_parts qs ++ (32 ∷ t)) (All-head IsHeldPart p ps held) (more_stops ps s) (more_stops qs t) grouped in
    let more = more_read ps qs s t (All-tail IsHeldPart p ps held) here.1 in
    ((λ i. here.0 i ∷ more.0 i), more.1)

-- a hyphen begins no part
no_part : (q : ℕ × ℕ) (s t : Text) → 45 ∷ s ≡ part_text q ++ t → ⊥
no_part q s t e =
    let grouped : [] ++ (45 ∷ s) ≡ decimal q.0 ++ (45 ∷ (decimal q.1 ++ t)) = e ∙ part_grouped q t in
    let none = (digits_cut [] (decimal q.0) (45 ∷ s) (45 ∷ (decimal q.1 ++ t)) tt (decimal_digits q.0) (no_digit 45 s (omega arith)) (no_digit 45 (decimal q.1 ++ t) (omega arith)) grouped).0 in
    decimal_some q.0 (sym none)

parts_read : (ps qs : List (ℕ × ℕ)) (s t : Text) → All IsHeldPart ps → parts_text ps ++ (32 ∷ s) ≡ parts_text qs ++ (32 ∷ t) → (ps ≡ qs) × (s ≡ t)
parts_read [] [] s t held e = (refl, rest_same 32 32 s t (rest_same 45 45 (32 ∷ s) (32 ∷ t) e))
parts_read [] (q ∷ qs) s t held e = absurd (no_part q (32 ∷ s) (more_parts qs ++ (32 ∷ t)) (e ∙ append_assoc (part_text q) (more_parts qs) (32 ∷ t)))
parts_read (p ∷ ps) [] s t held e = absurd (no_part p (32 ∷ t) (more_parts ps ++ (32 ∷ s)) (sym e ∙ append_assoc (part_text p) (more_parts ps) (32 ∷ s)))
parts_read (p ∷ ps) (q ∷ qs) s t held e =
    let grouped : part_text p ++ (more_parts ps ++ (32 ∷ s)) ≡ part_text q ++ (more_parts qs ++ (32 ∷ t)) = sym (append_assoc (part_text p) (more_parts ps) (32 ∷ s)) ∙ e ∙ append_assoc (part_text q) (more_parts qs) (32 ∷ t) in
    let here = part_read p q (more_parts ps ++ (32 ∷ s)) (more_parts qs ++ (32 ∷ t)) (All-head IsHeldPart p ps held) (more_stops ps s) (more_stops qs t) grouped in
    let more = more_read ps qs s t (All-tail IsHeldPart p ps held) here.1 in
    ((λ i. here.0 i ∷ more.0 i), more.1)

abbrev pub AreHeldChanges : List Change → Type 0
AreHeldChanges own = All IsHeldChange own

-- ---- rows

-- the end of a row, with its text or without
end_read : (texts : Bool) (ps qs : List (ℕ × ℕ)) (s t : Text) → All IsHeldPart ps → parts_text ps ++ line_text texts s ≡ parts_text qs ++ line_text texts t → (ps ≡ qs) × (◌≡◌ {A = Text} (if texts then s else []) (if texts then t else []))
end_read true ps qs s t held e = parts_read ps qs s t held e
end_read false ps qs s t held e =
    let longer : parts_text ps ++ (32 ∷ []) ≡ parts_text qs ++ (32 ∷ []) = ap (λ (l : Text). l ++ (32 ∷ [])) (sym (append-nil (parts_text ps)) ∙ e ∙ append-nil (parts_text qs)) in
    ((parts_read ps qs [] [] held longer).0, refl)

module _ (texts : Bool) where
  hit_read : (h g : Hit) → IsHeldHit h → hit_row texts h ≡ hit_row texts g → read_hit texts h ≡ read_hit texts g
  hit_read h g held e =
      let after_h = parts_text h.parts ++ line_text texts h.text in
      let after_g = parts_text g.parts ++ line_text texts g.text in
      let words : spaced (h.place ∷ []) ++ (32 ∷ after_h) ≡ spaced (g.place ∷ []) ++ (32 ∷ after_g) = rest_same 114 114 (spaced (h.place ∷ []) ++ (32 ∷ after_h)) (spaced (g.place ∷ []) ++ (32 ∷ after_g)) e in
      let place = spaced_read (h.place ∷ []) (g.place ∷ []) (32 ∷ after_h) (32 ∷ after_g) refl (held.place, tt) (no_digit 32 after_h (omega arith)) (no_digit 32 after_g (omega arith)) words in
      let same_place = first_same h.place g.place [] [] place.0 in
      let more = end_read texts h.parts g.parts h.text g.text held.parts (rest_same 32 32 after_h after_g place.1) in
      λ i. record { place = same_place i; text = more.1 i; parts = more.0 i }

  hits_read : (xs ys : List Hit) (s t : List Text) → length xs ≡ length ys → All IsHeldHit xs → map (hit_row texts) xs ++ s ≡ map (hit_row texts) ys ++ t → (map (read_hit texts) xs ≡ map (read_hit texts) ys) × (s ≡ t)
  hits_read [] [] s t l held e = (refl, e)
  hits_read [] (y ∷ ys) s t l held e = absurd (omega (arith, l))
  hits_read (x ∷ xs) [] s t l held e = absurd (omega (arith, l))
  hits_read (x ∷ xs) (y ∷ ys) s t l held e =
      let here = hit_read x y (All-head IsHeldHit x xs held) (first_same (hit_row texts x) (hit_row texts y) (map (hit_row texts) xs ++ s) (map (hit_row texts) ys ++ t) e) in
      let more = hits_read xs ys s t (omega (arith, l)) (All-tail IsHeldHit x xs held) (rest_same (hit_row texts x) (hit_row texts y) (map (hit_row texts) xs ++ s) (map (hit_row texts) ys ++ t) e) in
      ((λ i. here i ∷ more.0 i), more.1)

  abbrev numbers : ℕ → Change → List ℕ
  numbers k change = k ∷ change.front ∷ change.removed ∷ change.added ∷ length change.come ∷ []

  numbers_read : (k j : ℕ) (x y : Change) → IsHeld k → IsHeldChange x → change_row k x ≡ change_row j y → numbers k x ≡ numbers j y
  numbers_read k j x y held hx e =
      let words : spaced (numbers k x) ++ [] ≡ spaced (numbers j y) ++ [] = ap (λ (l : Text). l ++ []) (rest_same 104 104 (spaced (numbers k x)) (spaced (numbers j y)) e) in
      (spaced_read (numbers k x) (numbers j y) [] [] refl (held, (hx.front, (hx.removed, (hx.added, (hx.count, tt))))) tt tt words).0

  -- the number of a file is read alone
  file_read : (k j : ℕ) (x y : Change) → IsHeld k → change_row k x ≡ change_row j y → k ≡ j
  file_read k j x y held e =
      let rest_x = spaced (change_numbers x) in
      let rest_y = spaced (change_numbers y) in
      let words : (decimal k ++ rest_x) ≡ (decimal j ++ rest_y) = rest_same 32 32 (decimal k ++ rest_x) (decimal j ++ rest_y) (rest_same 104 104 (spaced (numbers k x)) (spaced (numbers j y)) e) in
      (number_read k j rest_x rest_y held (change_stops x) (change_stops y) words).0
    where
      change_numbers : Change → List ℕ
      change_numbers change = change.front ∷ change.removed ∷ change.added ∷ length change.come ∷ []

      change_stops : (change : Change) → Stops (spaced (change_numbers change))
      change_stops change = no_digit 32 (decimal change.front ++ spaced (change.removed ∷ change.added ∷ length change.come ∷ [])) (omega arith)

  -- ---- changes

  -- the changes that have rows
  abbrev busy : List Change → List Change
  busy [] = []
  busy (x ∷ xs) = if is_idle x then busy xs else x ∷ busy xs

  -- their rows, and what they make of a list
  abbrev rows_each : ℕ → List Change → List Text
  rows_each k [] = []
  rows_each k (x ∷ xs) = (change_row k x ∷ map (hit_row texts) x.come) ++ rows_each k xs

  abbrev spliced_each : List Change → List Hit → List Hit
  spliced_each [] hits = hits
  spliced_each (x ∷ xs) hits = spliced_each xs (spliced_hits x.front x.removed x.added x.come hits)

  busy_rows : (k : ℕ) (xs : List Change) → flat_map (change_rows texts k) xs ≡ rows_each k (busy xs)
  busy_rows k [] = refl
  busy_rows k (x ∷ xs) = by_idle (is_idle x) (busy_rows k xs)
    where
      by_idle : (idle : Bool) → flat_map (change_rows texts k) xs ≡ rows_each k (busy xs) → (if idle then [] else change_row k x ∷ map (hit_row texts) x.come) ++ flat_map (change_rows texts k) xs ≡ rows_each k (if idle then busy xs else x ∷ busy xs)
      by_idle true rest = rest
      by_idle false rest = ap (λ l. (change_row k x ∷ map (hit_row texts) x.come) ++ l) rest

  busy_after : (xs : List Change) (hits : List Hit) → after_each (map (read_change texts) xs) hits ≡ spliced_each (map (read_change texts) (busy xs)) hits
  busy_after [] hits = refl
  busy_after (x ∷ xs) hits = by_idle (is_idle x) (busy_after xs)
    where
      by_idle : (idle : Bool) → ((old : List Hit) → after_each (map (read_change texts) xs) old ≡ spliced_each (map (read_change texts) (busy xs)) old) →
          after_each (map (read_change texts) xs) (if idle then hits else spliced_hits x.front x.removed x.added (map (read_hit texts) x.come) hits) ≡ spliced_each (map (read_change texts) (if idle then busy xs else x ∷ busy xs)) hits
      by_idle true rest = rest hits
      by_idle false rest = rest (spliced_hits x.front x.removed x.added (map (read_hit texts) x.come) hits)

  busy_held : (xs : List Change) → All IsHeldChange xs → All IsHeldChange (busy xs)
  busy_held [] held = held
  busy_held (x ∷ xs) held = by_idle (is_idle x) (busy_held xs (All-tail IsHeldChange x xs held))
    where
      by_idle : (idle : Bool) → All IsHeldChange (busy xs) → All IsHeldChange (if idle then busy xs else x ∷ busy xs)
      by_idle true rest = rest
      by_idle false rest = All-cons IsHeldChange x (busy xs) (All-head IsHeldChange x xs held) rest

  -- the first row of later files is none of an earlier one
  later_rows : (k j : ℕ) (files : List (List Change)) (y : Change) (rest : List Text) → j < k → k + length files ≤ 2 ^ 64 → changes_rows texts k files ≡ change_row j y ∷ rest → ⊥
  later_rows k j [] y rest below fits e = none_is_some (change_row j y) rest e
  later_rows k j (xs ∷ files) y rest below fits e = by_busy (later_rows (k + 1) j files y rest (omega arith) (omega (arith, fits))) (busy xs) (sym (ap (λ l. l ++ changes_rows texts (k + 1) files) (busy_rows k xs)) ∙ e)
    where
      by_busy : (changes_rows texts (k + 1) files ≡ change_row j y ∷ rest → ⊥) → (bs : List Change) → rows_each k bs ++ changes_rows texts (k + 1) files ≡ change_row j y ∷ rest → ⊥
      by_busy later [] same = later same
      by_busy later (x ∷ bs) same =
          let number : k ≡ j = file_read k j x y (omega (arith, fits)) (first_same (change_row k x) (change_row j y) ((map (hit_row texts) x.come ++ rows_each k bs) ++ changes_rows texts (k + 1) files) rest same) in
          omega (arith, below, number)

  -- the rows of one file and of all later ones, read in two ways
  module _ (k : ℕ) (files others : List (List Change)) (long : length files ≡ length others) (fits : k + 1 + length files ≤ 2 ^ 64) where
    abbrev rest_a : List Text
    rest_a = changes_rows texts (k + 1) files

    abbrev rest_b : List Text
    rest_b = changes_rows texts (k + 1) others

    one_file : (xs ys : List Change) (hits : List Hit) → All IsHeldChange xs → rows_each k xs ++ rest_a ≡ rows_each k ys ++ rest_b → (spliced_each (map (read_change texts) xs) hits ≡ spliced_each (map (read_change texts) ys) hits) × (rest_a ≡ rest_b)
    one_file [] [] hits held e = (refl, e)
    one_file [] (y ∷ ys) hits held e = absurd (later_rows (k + 1) k files y ((map (hit_row texts) y.come ++ rows_each k ys) ++ rest_b) (omega arith) fits e)
    one_file (x ∷ xs) [] hits held e = absurd (later_rows (k + 1) k others x ((map (hit_row texts) x.come ++ rows_each k xs) ++ rest_a) (omega arith) (omega (arith, fits, long)) (sym e))
    one_file (x ∷ xs) (y ∷ ys) hits held e =
        let held_x = All-head IsHeldChange x xs held in
        let left = (map (hit_row texts) x.come ++ rows_each k xs) ++ rest_a in
        let right = (map (hit_row texts) y.come ++ rows_each k ys) ++ rest_b in
        let row = first_same (change_row k x) (change_row k y) left right e in
        let rows = sym (append_assoc (map (hit_row texts) x.come) (rows_each k xs) rest_a) ∙ rest_same (change_row k x) (change_row k y) left right e ∙ append_assoc (map (hit_row texts) y.come) (rows_each k ys) rest_b in
        let same = numbers_read k k x y (omega (arith, fits)) held_x row in
        let front : x.front ≡ y.front = ap (λ (l : List ℕ). get_or l 1 0) same in
        let removed : x.removed ≡ y.removed = ap (λ (l : List ℕ). get_or l 2 0) same in
        let added : x.added ≡ y.added = ap (λ (l : List ℕ). get_or l 3 0) same in
        let count : length x.come ≡ length y.come = ap (λ (l : List ℕ). get_or l 4 0) same in
        let both = hits_read x.come y.come (rows_each k xs ++ rest_a) (rows_each k ys ++ rest_b) count held_x.hits rows in
        let more = one_file xs ys (spliced_hits x.front x.removed x.added (map (read_hit texts) x.come) hits) (All-tail IsHeldChange x xs held) both.1 in
        (more.0 ∙ ap (spliced_each (map (read_change texts) ys)) (λ i. spliced_hits (front i) (removed i) (added i) (both.0 i) hits), more.1)

  all_read : (k : ℕ) (a b : List (List Change)) (view : View) → length a ≡ length b → k + length a ≤ 2 ^ 64 → All AreHeldChanges a → changes_rows texts k a ≡ changes_rows texts k b → all_after (map (map (read_change texts)) a) view ≡ all_after (map (map (read_change texts)) b) view
  all_read k [] [] view l fits held e = refl
  all_read k [] (y ∷ ys) view l fits held e = absurd (omega (arith, l))
  all_read k (x ∷ xs) [] view l fits held e = absurd (omega (arith, l))
  all_read k (x ∷ xs) (y ∷ ys) [] l fits held e = refl
  all_read k (x ∷ xs) (y ∷ ys) (hits ∷ view) l fits held e =
      let rows : rows_each k (busy x) ++ changes_rows texts (k + 1) xs ≡ rows_each k (busy y) ++ changes_rows texts (k + 1) ys = ap (λ l. l ++ changes_rows texts (k + 1) xs) (sym (busy_rows k x)) ∙ e ∙ ap (λ l. l ++ changes_rows texts (k + 1) ys) (busy_rows k y) in
      let here = one_file k xs ys (omega (arith, l)) (omega (arith, fits)) (busy x) (busy y) hits (busy_held x (All-head AreHeldChanges x xs held)) rows in
      let same : after_each (map (read_change texts) x) hits ≡ after_each (map (read_change texts) y) hits = busy_after x hits ∙ here.0 ∙ sym (busy_after y hits) in
      let more = all_read (k + 1) xs ys view (omega (arith, l)) (omega (arith, fits)) (All-tail AreHeldChanges x xs held) here.1 in
      λ i. same i ∷ more i

  -- changes whose numbers can be held, and others with the same rows and status, make the same lists
  pub one_reading : (a b : List (List Change)) (s t : Status) (view : View) → length a ≡ length b → IsHeld (length a) → All AreHeldChanges a → changes_rows texts 0 a ++ status_line s ∷ [] ≡ changes_rows texts 0 b ++ status_line t ∷ [] → all_after (map (map (read_change texts)) a) view ≡ all_after (map (map (read_change texts)) b) view
  one_reading a b s t view l fits held e = all_read 0 a b view l (omega (arith, fits)) held (last_cut (changes_rows texts 0 a) (changes_rows texts 0 b) (status_line s) (status_line t) e)
