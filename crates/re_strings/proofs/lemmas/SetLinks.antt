-- Fallbacks, and the longest string that a node ends with.
use Rattle.re_strings.proofs.{Prelude.{◌≡◌, ℕ, ◌+◌, ◌-◌, ◌<◌, ◌≤◌, inl, inr, Bool, true, false, List, [], ◌∷◌, ◌++◌, length, drop, slice_index, nat_lt, refl, sym, ap, subst, ◌∙◌, arith, length-append, length-drop, if◌then◌else◌, ltb-true, ltb-false, drop-drop, get_or_append_left, get_or_push, cases_lt, Text, IsString, StandsFor, IsOutput, Labels, AreLinked, AreLinkedFor, own_or}, lemmas.SetSteps.string_front}

-- the longest string that a node ends with: the node if it is one, else that of its fallback
pub output_is : {all : Labels} (n f own out : ℕ) → StandsFor all.strings (all.label f) (all.label n) 1 → IsOutput all (all.label f) out
    → (0 < own → (own ≡ length (all.label n)) × IsString all.strings (all.label n)) → (IsString all.strings (all.label n) → own ≡ length (all.label n)) → IsOutput all (all.label n) (own_or own n out)
output_is {all} n f own out s e is_own own_is = go _ refl
  where
    label : Text
    label = all.label n

    shorter : Text
    shorter = all.label f

    end : ℕ
    end = length (all.label out)

    size : length shorter ≡ length label - s.start
    size = cc (s.is, length-drop s.start label)

    same : drop (length shorter - end) shorter ≡ drop (length label - end) label
    same =
        let high = s.high in
        let w = e.ends.within in
        let place : s.start + (length shorter - end) ≡ length label - end = omega (arith, size) in
        ap (drop (length shorter - end)) s.is ∙ drop-drop (length shorter - end) s.start label ∙ ap (λ k. drop k label) place

    go : (b : Bool) → nat_lt 0 own ≡ b → IsOutput all label (if b then n else out)
    go true some =
        let known = is_own (ltb-true 0 own some) in
        let none : length label - length label ≡ 0 = omega arith in
        record {
          ends = record {
            within = omega arith;
            ends = λ h. rw none known.1;
            longest = λ j lt is. omega arith;
          };
          is = ap (λ k. drop k label) (sym none);
          some = λ inside. omega (arith, known.0, ltb-true 0 own some);
        }
    go false none = record {
      ends = record {
        within = let w = e.ends.within in omega (arith, size);
        ends = λ h. rw same at (e.ends.ends h);
        longest = λ j lt is.
            elim (cases_lt 0 j) [
              | inl inside ↦
                  let late = begins_late j inside is in
                  let place : s.start + (j - s.start) ≡ j = omega arith in
                  let part : drop (j - s.start) shorter ≡ drop j label = cc (s.is, drop-drop (j - s.start) s.start label) in
                  let most = e.ends.longest (j - s.start) (omega (arith, size)) (rw part is) in
                  omega (arith, size)
              | inr first ↦
                  let zero : j ≡ 0 = omega arith in
                  let whole = rw zero at is in
                  let long = own_is whole in
                  let no = ltb-false 0 own none in
                  absurd (omega arith)
            ];
      };
      is = e.is ∙ same;
      some = e.some;
    }
      where
        begins_late : (j : ℕ) → 0 < j → IsString all.strings (drop j label) → s.start ≤ j
        begins_late j inside is = elim (cases_lt j s.start) [ inl early ↦ absurd (s.none j (omega arith) early (string_front _ _ is)) | inr late ↦ late ]

-- neither it nor its fallback's comes after it
pub own_or_within : (own node out : ℕ) → out ≤ node → own_or own node out ≤ node
own_or_within own node out le = go (nat_lt 0 own)
  where
    go : (b : Bool) → (if b then node else out) ≤ node
    go true = omega arith
    go false = le

-- one more row
pub linked_more : {fails outputs newf newo : List ℕ} (f e : ℕ) → AreLinked (length fails) fails outputs → 0 < length fails → f < length fails → e ≤ length fails → newf ≡ fails ++ f ∷ [] → newo ≡ outputs ++ e ∷ []
    → AreLinked (length newf) newf newo
linked_more {fails} {outputs} {newf} {newo} f e a some lt le isf iso =
    let same = a.all_outputs in
    record {
      fallbacks = λ n inside below.
          let size : length newf ≡ length fails + 1 = cc (length-append fails (f ∷ [])) in
          elim (cases_lt n (length fails)) [
            | inl early ↦ rw (ap (λ l. slice_index l n) isf ∙ get_or_append_left fails (f ∷ []) 0 n early) (a.fallbacks n inside early)
            | inr late ↦
                let at : length fails ≡ n = omega (arith, size) in
                rw (ap (λ l. slice_index l n) isf ∙ get_or_push fails f 0 n at) (omega arith)
          ];
      below = λ n below.
          let size : length newo ≡ length outputs + 1 = cc (length-append outputs (e ∷ [])) in
          elim (cases_lt n (length outputs)) [
            | inl early ↦ rw (ap (λ l. slice_index l n) iso ∙ get_or_append_left outputs (e ∷ []) 0 n early) (a.below n early)
            | inr late ↦
                let at : length outputs ≡ n = omega (arith, size) in
                rw (ap (λ l. slice_index l n) iso ∙ get_or_push outputs e 0 n at) (omega (arith, same))
          ];
      all_fails = refl;
      all_outputs = omega (arith, same, ap length isf, ap length iso, length-append fails (f ∷ []), length-append outputs (e ∷ []));
    }

pub linked_right : {all : Labels} {fails outputs newf newo : List ℕ} (f own : ℕ) → AreLinked (length fails) fails outputs → newf ≡ fails ++ f ∷ [] → newo ≡ outputs ++ own_or own (length fails) (slice_index outputs f) ∷ [] → f < length fails
    → StandsFor all.strings (all.label f) (all.label (length fails)) 1
    → (0 < own → (own ≡ length (all.label (length fails))) × IsString all.strings (all.label (length fails))) → (IsString all.strings (all.label (length fails)) → own ≡ length (all.label (length fails)))
    → AreLinkedFor all fails outputs → AreLinkedFor all newf newo
linked_right {all} {fails} {outputs} f own a isf iso lt s is_own own_is old =
    let same = a.all_outputs in
    record {
      fallbacks = λ n inside below.
          elim (cases_lt n (length fails)) [
            | inl early ↦ rw (ap (λ l. slice_index l n) isf ∙ get_or_append_left fails (f ∷ []) 0 n early) (old.fallbacks n inside early)
            | inr late ↦
                let at : length fails ≡ n = omega (arith, ap length isf, length-append fails (f ∷ [])) in
                rw (ap (λ l. slice_index l n) isf ∙ get_or_push fails f 0 n at) (subst (λ k. StandsFor all.strings (all.label f) (all.label k) 1) at s)
          ];
      ended = λ n below.
          let e = own_or own (length fails) (slice_index outputs f) in
          elim (cases_lt n (length outputs)) [
            | inl early ↦ subst (IsOutput all (all.label n)) (sym (ap (λ l. slice_index l n) iso ∙ get_or_append_left outputs (e ∷ []) 0 n early)) (old.ended n early)
            | inr late ↦
                let at : length outputs ≡ n = omega (arith, ap length iso, length-append outputs (e ∷ [])) in
                let here : length fails ≡ n = omega (arith, at, same) in
                subst (IsOutput all (all.label n)) (sym (ap (λ l. slice_index l n) iso ∙ get_or_push outputs e 0 n at))
                (subst (λ k. IsOutput all (all.label k) e) here
                (output_is (length fails) f own (slice_index outputs f) s (old.ended f (omega (arith, lt, same))) is_own own_is))
          ];
    }

-- ---- the root alone

pub root_linked : (fails outputs : List ℕ) {count : ℕ} → count ≡ 1 → fails ≡ 0 ∷ [] → outputs ≡ 0 ∷ [] → AreLinked count fails outputs
root_linked fails outputs one is_fails is_outputs =
    let few : length fails ≡ 1 = rw is_fails in
    let same : length outputs ≡ 1 = rw is_outputs in
    record {
      fallbacks = λ n some below. omega arith;
      below = λ n inside.
          let first : n ≡ 0 = omega (arith, same) in
          let root : slice_index outputs n ≡ 0 = cc in
          omega arith;
      all_fails = few ∙ sym one;
      all_outputs = same ∙ sym one;
    }

pub root_linked_right : (all : Labels) (fails outputs : List ℕ) → all.label 0 ≡ [] → fails ≡ 0 ∷ [] → outputs ≡ 0 ∷ [] → AreLinkedFor all fails outputs
root_linked_right all fails outputs root is_fails is_outputs =
    let few : length fails ≡ 1 = ap length is_fails in
    let same : length outputs ≡ 1 = ap length is_outputs in
    record {
      fallbacks = λ n some below. let none : ⊥ = omega arith in absurd none;
      ended = λ n below.
          let first : n ≡ 0 = omega (arith, same) in
          let out : slice_index outputs n ≡ 0 = ap (slice_index outputs) first ∙ ap (λ l. slice_index l 0) is_outputs in
          let empty : length (all.label 0) ≡ 0 = ap length root in
          subst (λ k. IsOutput all (all.label k) (slice_index outputs n)) (sym first)
          (subst (IsOutput all (all.label 0)) (sym out)
          (record {
            ends = record {
              within = omega arith;
              ends = λ some. let none : ⊥ = omega arith in absurd none;
              longest = λ j inside _. omega arith;
            };
            is = let none : length (all.label 0) - length (all.label 0) ≡ 0 = omega arith in ap (λ k. drop k (all.label 0)) (sym none);
            some = λ inside. absurd (omega (arith, inside));
          }));
    }
