-- Steps of many fixed strings: what a byte more does to the longest end that a string begins with.
use Rattle.re_strings.proofs.Prelude.{◌≡◌, ℕ, ◌+◌, ◌-◌, ◌<◌, ◌≤◌, ◌⊎◌, inl, inr, List, [], ◌∷◌, ◌++◌, length, drop, Any, sym, ap, subst, ◌∙◌, arith, length-append, length-drop, append_assoc, drop-append-le, drop-drop, append-nil, drop_of_length-le, Text, Begins, IsFront, IsString, StandsFor, MayStandFor}

-- what holds of some element
pub any_map : {A : Type 0} (P Q : A → Type 0) → ((x : A) → P x → Q x) → (xs : List A) → Any P xs → Any Q xs
any_map P Q f _ h = (h.0, h.1, h.2, h.3, f h.1 h.4)

-- a string that begins with a text begins with each beginning of that
pub front_shorter : (strings : List Text) (w more : Text) → IsFront strings (w ++ more) → IsFront strings w
front_shorter strings w more = any_map (λ s. Begins (w ++ more) s) (λ s. Begins w s) (λ s b. (more ++ b.0, b.1 ∙ append_assoc w more b.0)) strings

-- a string is a beginning of itself
pub string_front : (strings : List Text) (w : Text) → IsString strings w → IsFront strings w
string_front strings w = any_map (λ s. s ≡ w) (λ s. Begins w s) (λ s e. ([], e ∙ sym (append-nil w))) strings

-- an empty end begins after the text
pub empty_end : (w : Text) (k : ℕ) → k ≤ length w → [] ≡ drop k w → k ≡ length w
empty_end w k le e = let none : 0 ≡ length (drop k w) = ap length e in omega (arith, length-drop k w, none)

module _ (strings : List Text) (b : ℕ) where
  -- a place before another, or not
  before : (j k : ℕ) → (j < k) ⊎ (k ≤ j)
  before j k = search arith

  -- no longer end may go on with the byte
  pub may_at_first : {w : Text} (label : Text) (from : ℕ) → StandsFor strings label w from → MayStandFor strings label w b from
  may_at_first _ _ s = record {
    start = s.start;
    low = s.low;
    high = s.high;
    is = s.is;
    none = λ j low lt front. s.none j low lt (front_shorter _ _ _ front);
  }

  -- the label goes on with the byte
  pub goes_on : {label w : Text} {from : ℕ} → MayStandFor strings label w b from → StandsFor strings (label ++ b ∷ []) (w ++ b ∷ []) from
  goes_on {w = w} s = record {
    start = s.start;
    low = s.low;
    high = let h = s.high in omega (arith, length-append w (b ∷ []));
    is = cc (s.is, drop-append-le s.start w (b ∷ []) s.high);
    none = λ j low lt front. s.none j low lt (rw (drop-append-le j w (b ∷ []) (omega arith)) at front);
  }

  -- the empty label can't go on with it: the end after the byte is left
  pub nothing_left : (w : Text) {from : ℕ} → MayStandFor strings [] w b from → (IsFront strings (b ∷ []) → ⊥) → StandsFor strings [] (w ++ b ∷ []) from
  nothing_left w s none = record {
    start = length w + 1;
    low = omega arith;
    high = omega (arith, length-append w (b ∷ []));
    is = sym (drop_of_length-le (w ++ b ∷ []) (omega (arith, length-append w (b ∷ []))));
    none = λ j low lt front.
        let near : j ≤ length w = omega arith in
        let open_front = rw (drop-append-le j w (b ∷ []) near) at front in
        let start = empty_end w s.start s.high s.is in
        elim (before j _) [
          | inl early ↦ s.none j low early open_front
          | inr late ↦ none (rw (drop_of_length-le w (let l : length w ≤ j = omega arith in l)) at open_front)
        ];
  }

  -- the label can't go on with the byte: the next shorter end is tried
  pub falls_back : {label shorter : Text} (w : Text) {from : ℕ} → MayStandFor strings label w b from → (IsFront strings (label ++ b ∷ []) → ⊥) → StandsFor strings shorter label 1 → MayStandFor strings shorter w b from
  falls_back {label} w s none f = record {
    start = s.start + f.start;
    low = omega arith;
    high = let h = s.high in let g = f.high in omega (arith, ap length s.is, length-drop s.start w);
    is = f.is ∙ ap (drop f.start) s.is ∙ drop-drop f.start s.start w;
    none = λ j low lt front.
        elim (before j s.start) [
          | inl early ↦ s.none j low early front
          | inr late ↦
              let place : s.start + (j - s.start) ≡ j = omega arith in
              let end : drop (j - s.start) label ≡ drop j w = ap (drop (j - s.start)) s.is ∙ drop-drop (j - s.start) s.start w ∙ ap (λ n. drop n w) place in
              let own : IsFront strings (drop (j - s.start) label ++ b ∷ []) = subst (λ t. IsFront strings (t ++ b ∷ [])) (sym end) front in
              elim (before 0 (j - s.start)) [
                | inl inside ↦ f.none (j - s.start) (omega (arith, inside)) (omega (arith, late, lt)) (front_shorter strings (drop (j - s.start) label) (b ∷ []) own)
                | inr first ↦ none (subst (λ n. IsFront strings (drop n label ++ b ∷ [])) (let z : j - s.start ≡ 0 = omega (arith, first) in z) own)
              ]
        ];
  }
