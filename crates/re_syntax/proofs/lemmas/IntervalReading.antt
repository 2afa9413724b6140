-- Reading an interval from the left: a number ends where the digits end, and what follows
-- determines the form.
use Rattle.re_syntax.proofs.{Prelude.{◌≡◌, ℕ, ◌+◌, ◌-◌, ◌<◌, ◌≤◌, [], ◌∷◌, ◌++◌, length, take, drop, Option, Some, None, MatchOption, IsTrue, codes, refl, sym, ap, ◌∙◌, arith, append_assoc, length-drop, and_parts, drop-drop, length-take, take-append-drop, list_all, Digit, Counts, Text, Begins, in_class, IsAfter, IsNumber, value, Interval, exactly, at_least, between, up_to, ClosedInterval, IsNoPart, capped, HasNoInterval, AreDigits, HasNoDigit, IsDigitCount, NumberStands, HasNoGreatest, GreatestStands, IntervalStands}, lemmas.BracketsUnique.{heads, tails}}

-- the first of some digits is one
digit_first : (b : ℕ) (t : Text) → AreDigits (b ∷ t) → IsTrue (in_class Digit b)
digit_first b t h = (and_parts (in_class Digit b) (list_all (in_class Digit) t) h).0

-- the others are digits too
digits_rest : (b : ℕ) (t : Text) → AreDigits (b ∷ t) → AreDigits t
digits_rest b t h = (and_parts (in_class Digit b) (list_all (in_class Digit) t) h).1

-- a text is cut after its first digits in one way
pub digits-cut : (m n : Text) {r s : Text} → AreDigits m → AreDigits n → HasNoDigit r → HasNoDigit s → m ++ r ≡ n ++ s → r ≡ s
digits-cut [] [] h k p q e = e
digits-cut [] (b ∷ n) {s} h k p q e = absurd (p b (n ++ s) e (digit_first b n k))
digits-cut (b ∷ m) [] {r} h k p q e = absurd (q b (m ++ r) (sym e) (digit_first b m h))
digits-cut (b ∷ m) (c ∷ n) h k p q e = digits-cut m n (digits_rest b m h) (digits_rest c n k) p q (tails e)

-- a number begins with a digit
number_first : (m r : Text) → IsNumber m → HasNoDigit (m ++ r) → ⊥
number_first [] r h _ = h.not_empty refl
number_first (b ∷ m) r h stop = stop b (m ++ r) refl (digit_first b m h.digits)

-- what closes an interval is no digit
closing_no_digit : (close u : Text) → IsNoPart close → HasNoDigit (close ++ u)
closing_no_digit [] u h b t e k = absurd (h.not_empty refl)
closing_no_digit (c ∷ close) u h b t e k = h.no_digit c close refl (rw (heads e) k)

-- a comma is no digit
comma_no_digit : (t : Text) → HasNoDigit (codes "," ++ t)
comma_no_digit t b u e k = let same : 44 ≡ b = heads e in let digit : IsTrue (in_class Digit 44) = rw (sym same) at k in cc

-- what may follow the first number of an interval's form
pub data Goes (close u t : Text) : Type 0 where
  closes : t ≡ close ++ u → Goes close u t
  opens_end : t ≡ codes "," ++ (close ++ u) → Goes close u t
  goes_to : (n : Text) → IsNumber n → t ≡ codes "," ++ (n ++ (close ++ u)) → Goes close u t

-- every interval has this after its first number
pub goes : {close u t : Text} (m : Text) {r : Text} {least : ℕ} {most : Option ℕ} → IsNoPart close → ClosedInterval close t u least most → t ≡ m ++ r → AreDigits m → HasNoDigit r → Goes close u r
goes {close} {u} {t} m {r} {least} {most} no_part c e digits stop = go c.inside least most c.form c.whole
  where
    go : (inside : Text) (least : ℕ) (most : Option ℕ) → Interval inside least most → t ≡ inside ++ (close ++ u) → Goes close u r
    go inside least most (exactly n h) w =
        closes (digits-cut m n digits h.digits stop (closing_no_digit _ u no_part) (sym e ∙ w))
    go inside least most (at_least n h) w =
        opens_end (digits-cut m n digits h.digits stop (comma_no_digit _) (sym e ∙ w ∙ append_assoc n (codes ",") (close ++ u)))
    go inside least most (between n o h k) w =
        goes_to o k (digits-cut m n digits h.digits stop (comma_no_digit _)
        (sym e ∙ w ∙ simp append_assoc))
    go inside least most (up_to n h) w =
        goes_to n h (digits-cut m [] digits refl stop (comma_no_digit _) (sym e ∙ w))

-- where there is neither a number nor a comma, there is no interval
pub none_without_number : {close : Text} (t : Text) → HasNoDigit t → ¬ Begins (codes ",") t → HasNoInterval close t
none_without_number {close} t stop comma = record { none = λ u least most c. go c.inside least most c.form u c.whole }
  where
    starts : (n s : Text) → IsNumber n → t ≡ n ++ s → ⊥
    starts n s h e = number_first n s h (rw e at stop)

    go : (inside : Text) (least : ℕ) (most : Option ℕ) → Interval inside least most → (u : Text) → t ≡ inside ++ (close ++ u) → ⊥
    go _ _ _ (exactly n h) u w = starts n (close ++ u) h w
    go _ _ _ (at_least n h) u w = starts n (codes "," ++ (close ++ u)) h (w ∙ append_assoc n (codes ",") (close ++ u))
    go inside least most (between n o h k) u w = starts n (codes "," ++ (o ++ (close ++ u))) h (w ∙ simp append_assoc)
    go _ _ _ (up_to n h) u w = comma (n ++ (close ++ u), w)

-- where a comma comes first, and then not a number and what closes it, there is no interval
pub none_after_first : {close t w : Text} → t ≡ codes "," ++ w → HasNoGreatest close w → HasNoInterval close t
none_after_first {close} {t} {w} e n = record { none = λ u least most c. go c.inside least most c.form u c.whole }
  where
    starts : (m s : Text) → IsNumber m → t ≡ m ++ s → ⊥
    starts m s h f = number_first m s h (rw (sym e ∙ f) at (comma_no_digit w))

    go : (inside : Text) (least : ℕ) (most : Option ℕ) → Interval inside least most → (u : Text) → t ≡ inside ++ (close ++ u) → ⊥
    go _ _ _ (exactly m h) u f = starts m (close ++ u) h f
    go _ _ _ (at_least m h) u f = starts m (codes "," ++ (close ++ u)) h (f ∙ append_assoc m (codes ",") (close ++ u))
    go inside least most (between m o h k) u f = starts m (codes "," ++ (o ++ (close ++ u))) h (f ∙ simp append_assoc)
    go _ _ _ (up_to m h) u f = n.none m u h (tails (sym e ∙ f))

-- no number follows the comma
pub no_greatest : {close t : Text} → HasNoDigit t → HasNoGreatest close t
no_greatest {close} stop = record { none = λ n u h e. number_first n (close ++ u) h (rw e at stop) }

-- a number follows the comma, and nothing closes it
pub no_greatest_end : {text : Text} {at count beyond : ℕ} {close : Text} → IsNoPart close → NumberStands text at count beyond → ¬ Begins close (drop beyond text) →
    HasNoGreatest close (drop at text)
no_greatest_end no_part s no_close = record {
  none = λ n u h e.
      no_close (u, digits-cut _ n s.number.digits h.digits s.stops (closing_no_digit _ u no_part) (sym s.front ∙ e));
}

-- a number follows the comma, and what closes it follows the number
pub greatest_stands : {text : Text} {at count beyond end' : ℕ} {close : Text} → NumberStands text at count beyond → IsAfter close text beyond end' →
    GreatestStands close text at (record { least = 0; most = Some count }) end'
greatest_stands {end' = end'} s c = record {
  within = c.within;
  digits = s.digits;
  number = s.number;
  front = cc (s.front, c.front);
  least_is = refl;
  most_is = rw s.count_is;
}

-- such a number is an interval, with the comma before it
pub stands_up_to : {text : Text} {at comma beyond : ℕ} {counts : Counts} {close : Text} → IsAfter (codes ",") text at comma → GreatestStands close text comma counts beyond →
    IntervalStands close text at counts beyond
stands_up_to {counts = counts} c s = record {
  within = s.within;
  least = 0;
  most = Some (value s.digits);
  stands = record { inside = codes "," ++ s.digits; form = up_to s.digits s.number; whole = c.front ∙ ap (λ t. 44 ∷ t) s.front };
  least_is = s.least_is;
  most_is = s.most_is;
}

-- what is found after a comma that comes first is the interval there
pub up_to_found : {text : Text} {at comma : ℕ} (close : Text) → IsAfter (codes ",") text at comma → (found : Option (Counts × ℕ)) →
    MatchOption found (HasNoGreatest close (drop comma text)) (λ it. GreatestStands close text comma it.0 it.1) →
    MatchOption found (HasNoInterval close (drop at text)) (λ it. IntervalStands close text at it.0 it.1)
up_to_found _ c None h = none_after_first c.front h
up_to_found _ c (Some it) h = stands_up_to c h

-- a number, and then nothing that an interval may go on with
none_by : {text : Text} {at count beyond : ℕ} {close : Text} → IsNoPart close → NumberStands text at count beyond → ((u : Text) → Goes close u (drop beyond text) → ⊥) → HasNoInterval close (drop at text)
none_by no_part s f =
    record { none = λ u least most c. f u (goes _ no_part c s.front s.number.digits s.stops) }

-- a number, and then neither what closes it nor a comma
pub none_after_number : {text : Text} {at count beyond : ℕ} {close : Text} → IsNoPart close → NumberStands text at count beyond → ¬ Begins close (drop beyond text) →
    ¬ Begins (codes ",") (drop beyond text) → HasNoInterval close (drop at text)
none_after_number {text} {at} {count} {beyond} {close} no_part s no_close no_comma = none_by no_part s go
  where
    go : (u : Text) → Goes close u (drop beyond text) → ⊥
    go u (closes e) = no_close (u, e)
    go u (opens_end e) = no_comma (close ++ u, e)
    go u (goes_to n h e) = no_comma (n ++ (close ++ u), e)

-- a number and a comma, and then neither a number nor what closes
pub none_after_comma : {text : Text} {at count beyond comma : ℕ} {close : Text} → IsNoPart close → NumberStands text at count beyond → ¬ Begins close (drop beyond text) →
    IsAfter (codes ",") text beyond comma → HasNoDigit (drop comma text) → ¬ Begins close (drop comma text) → HasNoInterval close (drop at text)
none_after_comma {text} {at} {count} {beyond} {comma} {close} no_part s no_close c no_digit no_end = none_by no_part s go
  where
    go : (u : Text) → Goes close u (drop beyond text) → ⊥
    go u (closes e) = no_close (u, e)
    go u (opens_end e) = no_end (u, tails (sym c.front ∙ e))
    go u (goes_to n h e) = number_first n _ h (rw (tails (sym c.front ∙ e)) at no_digit)

-- two numbers, and what follows does not close them
pub none_after_numbers : {text : Text} {at count beyond comma other last : ℕ} {close : Text} → IsNoPart close → NumberStands text at count beyond →
    ¬ Begins close (drop beyond text) → IsAfter (codes ",") text beyond comma → NumberStands text comma other last → ¬ Begins close (drop last text) →
    HasNoInterval close (drop at text)
none_after_numbers {text = text} {at = at} {beyond = beyond} {close = close} no_part s no_close c o no_end = none_by no_part s go
  where
    go : (u : Text) → Goes close u (drop beyond text) → ⊥
    go u (closes e) = no_close (u, e)
    go u (opens_end e) =
        number_first _ _ o.number (rw (sym (tails (sym c.front ∙ e)) ∙ o.front) at (closing_no_digit _ u no_part))
    go u (goes_to n h e) =
        no_end (u, digits-cut _ n o.number.digits h.digits o.stops (closing_no_digit _ u no_part) (sym o.front ∙ tails (sym c.front ∙ e)))

-- the three forms, read
pub stands_exactly : {text : Text} {at count beyond end' : ℕ} {close : Text} → NumberStands text at count beyond → IsAfter close text beyond end' →
    IntervalStands close text at (record { least = count; most = Some count }) end'
stands_exactly {end' = end'} s c = record {
  within = c.within;
  least = value s.digits;
  most = Some (value s.digits);
  stands = record { inside = s.digits; form = exactly s.digits s.number; whole = s.front ∙ ap (λ t. s.digits ++ t) c.front };
  least_is = s.count_is;
  most_is = rw s.count_is;
}

-- a number and a comma
pub stands_at_least : {text : Text} {at count beyond comma end' : ℕ} {close : Text} → NumberStands text at count beyond → IsAfter (codes ",") text beyond comma →
    IsAfter close text comma end' → IntervalStands close text at (record { least = count; most = None }) end'
stands_at_least {text = text} {end' = end'} {close = close} s c l = record {
  within = l.within;
  least = value s.digits;
  most = None;
  stands = record {
    inside = s.digits ++ codes ",";
    form = at_least s.digits s.number;
    whole = cc (s.front, c.front ∙ ap (λ t. 44 ∷ t) l.front, append_assoc s.digits (codes ",") (close ++ drop end' text));
  };
  least_is = s.count_is;
  most_is = refl;
}

-- two numbers
pub stands_between : {text : Text} {at count beyond comma other last end' : ℕ} {close : Text} → NumberStands text at count beyond → IsAfter (codes ",") text beyond comma →
    NumberStands text comma other last → IsAfter close text last end' → IntervalStands close text at (record { least = count; most = Some other }) end'
stands_between {end' = end'} s c o l = record {
  within = l.within;
  least = value s.digits;
  most = Some (value o.digits);
  stands = record {
    inside = s.digits ++ codes "," ++ o.digits;
    form = between s.digits o.digits s.number o.number;
    whole = s.front ∙ ap (λ t. s.digits ++ t) (c.front ∙ ap (λ t. 44 ∷ t) (o.front ∙ ap (λ t. o.digits ++ t) l.front)) ∙ simp append_assoc;
  };
  least_is = s.count_is;
  most_is = rw o.count_is;
}

-- a number is the digits that come first
pub number_stands : {text : Text} {at n v : ℕ} → at ≤ length text → IsDigitCount (drop at text) n → 0 < n → v ≡ capped (value (take n (drop at text))) →
    NumberStands text at v (at + n)
number_stands {text} {at} {n} h count more e = record {
  within = omega (arith, simp length-drop at count.within);
  digits = take n (drop at text);
  number = record { not_empty = λ f. absurd (omega (arith, ap length f, length-take n (drop at text), count.within)); digits = count.digits };
  front = cc (take-append-drop n (drop at text), drop-drop n at text);
  count_is = e;
  stops = rw (sym (drop-drop n at text)) count.stops;
}

-- the length of a part from its two ends
pub same_front : (at : ℕ) {n : ℕ} → (at + n) - at ≡ n
same_front at = omega arith
