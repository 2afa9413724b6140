-- A step back on groups is right at each place of a line where they stand for its ends.
use Rattle.{re_ends.{proofs.{Prelude.{◌≡◌, ℕ, zero, suc, ◌+◌, ◌<◌, ◌≤◌, inl, inr, Bool, List, [], ◌∷◌, ◌++◌, length, length-append, slice_index, get_or_append_left, ap, ◌∙◌, refl, arith, cases_lt, ◌↔◌, Text, Expression, Part, part_of, is_end, Leads, LeadsPast}, lemmas.ListLaws.end_cases}, specs.Working.{GreatestEnds.IsBorder, Groups.{CanHave, Fall, HasGroups, In, IsFirstIn, IsStep, Leaves, StandAt}}}, std.proofs.{lemmas.List.{get_or-map, length-map}, Math.Seq.get_or-append_seam}}

no_more : (row : List ℕ) (a b : ℕ) → HasGroups row a → HasGroups row b → a ≤ b
no_more row a b these those = elim (cases_lt b a) [ inl lt ↦ absurd (let less = (those b).1 ((these b).0 lt) in omega (arith, less)) | inr ge ↦ ge ]

pub as_many : (row : List ℕ) (a b : ℕ) → HasGroups row a → HasGroups row b → a ≡ b
as_many row a b these those = let low = no_more row a b these those in let high = no_more row b a those these in omega (arith, low, high)

-- an earlier end is no less
pub no_less : (ends : List ℕ) (i k m : ℕ) → Fall ends → i ≤ k → k < length ends → m < slice_index ends k → m < slice_index ends i
no_less ends i k m fall le lt past = elim (cases_lt i k) [
  | inl less ↦ let more = fall i k less lt in omega (arith, more, past)
  | inr ge ↦ rw (let same : k ≡ i = omega (arith, le, ge) in same) at past
]

-- also without the place after them
pub no_less_before : (ends : List ℕ) (p i k m : ℕ) → Fall (ends ++ p ∷ []) → i ≤ k → k < length ends → m < slice_index ends k → m < slice_index ends i
no_less_before ends p i k m fall le lt past =
    rw (get_or_append_left ends (p ∷ []) 0 i (omega (arith, le, lt))) at (no_less _ i k m fall le (omega (arith, lt, length-append ends (p ∷ []))) (rw (get_or_append_left ends (p ∷ []) 0 k lt) past))

module _ (part : Part) (line : Text) (p : ℕ) (at_end : Bool) (groups ends kept new now : List ℕ) (lt : p < length line) (is : at_end ≡ is_end line (suc p)) (step : IsStep part at_end groups (slice_index line p) kept new) (stand : StandAt part line (suc p) groups ends) (left : Leaves kept (ends ++ suc p ∷ []) now) where
  long : length now ≡ length kept
  long = ap length left ∙ length-map kept _

  all : length (ends ++ suc p ∷ []) ≡ length ends + 1
  all = length-append ends (suc p ∷ [])

  same_count : step.count ≡ length ends
  same_count = as_many _ _ _ step.groups stand.groups

  now_at : (j : ℕ) → j < length kept → (slice_index kept j < length (ends ++ suc p ∷ [])) × (slice_index now j ≡ slice_index (ends ++ suc p ∷ []) (slice_index kept j))
  now_at j less =
      let few = step.few j less in
      let within : slice_index kept j < length (ends ++ suc p ∷ []) = omega (arith, few, same_count, all) in (within, ap (λ l. slice_index l j) left ∙ get_or-map _ kept j 0 0 less)

  -- what an end after the byte is past, an end that stays in its place or before it is
  past_on : (j k m : ℕ) → j < length kept → slice_index kept j ≤ k → k < length (ends ++ suc p ∷ []) → m < slice_index (ends ++ suc p ∷ []) k → m < slice_index now j
  past_on j k m less le inside past = rw (now_at j less).1 (no_less _ _ k m stand.fall le inside past)

  from : (q m n : ℕ) → m ≤ p + n → Leads part line p n q → (k : ℕ) × In new k q × (m < slice_index now k)
  from q m zero le (takes, last) =
      let (j, low, in_j) = step.all step.count q takes.1 (inr (refl, rw is last)) in
      (j, in_j, past_on j (length ends) m ((step.made j).1 (q, in_j)) (omega (arith, low, same_count)) (omega (arith, all)) (rw (get_or-append_seam ends (suc p) [] 0) (omega (arith, le))))
  from q m (suc n) le (takes, (r, follow, leads)) =
      let (k, in_k, past) = (stand.right r m).0 (n, omega (arith, le), leads) in
      let within = (stand.groups k).1 (r, in_k) in
      let (j, low, in_j) = step.all k q takes.1 (inl (r, follow, in_k)) in
      (j, in_j, past_on j k m ((step.made j).1 (q, in_j)) low (omega (arith, within, all)) (rw (get_or_append_left ends (suc p ∷ []) 0 k within) past))

  to : (q m k : ℕ) → part.takes q (slice_index line p) → CanHave part at_end groups step.count (slice_index kept k) q → m < slice_index (ends ++ suc p ∷ []) (slice_index kept k) → LeadsPast part line p q m
  to q m k takes (inl (r, follow, in_k)) past =
      let (n, le, leads) = (stand.right r m).1 (slice_index kept k, in_k, rw (get_or_append_left ends (suc p ∷ []) 0 (slice_index kept k) ((stand.groups (slice_index kept k)).1 (r, in_k))) at past) in (suc n, omega (arith, le), ((lt, takes), (r, follow, leads)))
  to q m k takes (inr (same, last)) past =
      let end = rw (let at : slice_index kept k ≡ length ends = omega (arith, same, same_count) in at) at past in
      let seam = get_or-append_seam ends (suc p) [] 0 in
      (0, omega (arith, end, seam), ((lt, takes), rw is at last))

  falls : (j k : ℕ) → j < k → k < length (now ++ p ∷ []) → slice_index (now ++ p ∷ []) k < slice_index (now ++ p ∷ []) j
  falls j k less within = elim (end_cases now p k within) [
    | inl at ↦
        let more = stand.fall (slice_index kept j) (slice_index kept k) (step.grow j k less (omega (arith, at.0, long))) (now_at k (omega (arith, at.0, long))).0 in
        omega (arith, more, at.1, (now_at k (omega (arith, at.0, long))).1, (now_at j (omega (arith, at.0, long, less))).1, get_or_append_left now (p ∷ []) 0 j (omega (arith, at.0, less)))
    | inr at ↦
        let before : j < length kept = omega (arith, at.0, long, less) in
        let more = past_on j (length ends) p before (let few = step.few j before in omega (arith, few, same_count)) (omega (arith, all)) (let seam = get_or-append_seam ends (suc p) [] 0 in omega (arith, seam)) in
        omega (arith, more, at.1, get_or_append_left now (p ∷ []) 0 j (omega (arith, at.0, less)))
  ]

  pub steps_on : StandAt part line p new now
  steps_on = record {
    right = λ q m. (λ (n, le, leads). from q m n le leads, λ (k, in_k, past). let (takes, can) = step.members k q in_k in to q m k takes can (rw (now_at k ((step.made k).1 (q, in_k))).1 at past));
    groups = rw long step.made;
    fall = falls;
  }

-- at a place that no match goes over there are no groups
pub stand_begin : (e : Expression) (line : Text) (p : ℕ) → IsBorder e line p → StandAt (part_of e 0) line p [] []
stand_begin e line p border = record {
  right = λ q m. (λ (n, le, leads). absurd (no_lead n q leads), λ (k, in_k, past). absurd (omega (arith, in_k.1)));
  groups = λ k. (λ lt. absurd (omega (arith, lt)), λ (q, in_k). absurd (omega (arith, in_k.1)));
  fall = λ j k lt less. absurd (omega (arith, lt, less));
}
  where
    no_byte : (q : ℕ) → (p < length line) × (part_of e 0).takes q (slice_index line p) → ⊥
    no_byte q (lt, takes) = elim border [ inl is ↦ omega (arith, is, lt) | inr none ↦ none.1 q takes ]

    no_lead : (n q : ℕ) → Leads (part_of e 0) line p n q → ⊥
    no_lead zero q leads = no_byte q leads.0
    no_lead (suc n) q leads = no_byte q leads.0

-- the first group with one of the same positions
pub first_alike : (R S : ℕ → Type 0) (row : List ℕ) {number : ℕ} → ((q : ℕ) → R q ↔ S q) → IsFirstIn R row number → IsFirstIn S row number
first_alike R S _ alike (inl (none, not)) = inl (none, λ k q in_k s. not k q in_k ((alike q).1 s))
first_alike R S _ alike (inr (k, is, (q, in_k, r), least)) = inr (k, is, (q, in_k, (alike q).0 r), λ j q in_j s. least j q in_j ((alike q).1 s))
