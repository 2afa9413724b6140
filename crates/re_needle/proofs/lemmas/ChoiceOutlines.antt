-- Outlines of choices: the sets that all branches begin with, joined place by place.
use Rattle.{re_needle.proofs.{Prelude.{◌≡◌, ◌≢◌, ℕ, zero, suc, ◌+◌, ◌<◌, ◌≤◌, ◌⊎◌, inl, inr, IsTrue, List, [], ◌∷◌, ◌++◌, length, map, take, get_or, slice_get, Option, None, Some, refl, sym, ap, ◌∙◌, subst, arith, append_assoc, set, get_or-set_at, get_or-set_other, map-append, Bytes, Text, nothing, Expression, alt, expression_of, Tree, OutlineItem, set_at, shown, Fits, IsOutline, AddsOutline, AddsSets, AreJoined, BeginsWith, Leads}, lemmas.{NeededLaws.parts_grown, OutlineLaws.{fits_le, never}}}, std.proofs.lemmas.Bool.cases_eq}
use Rattle.re_needle.specs.declared.outline_item.OutlineItem.TheVariants as m

-- ---- what an outline begins with

-- what follows the first of the sets
leads_rest : (s : Bytes) (sets : List Bytes) (line : Text) (i j : ℕ) → Leads (s ∷ sets) line i j → Leads sets line (i + 1) j
leads_rest s sets line i j l =
    record {
      within = omega arith;
      takes = λ k below.
          let place : i + suc k ≡ i + 1 + k = omega arith in rw place at (l.takes (suc k) (omega arith));
    }

-- marks that are sets, and others after them, fit where the sets lead
fits_lead : (line : Text) (sets : List Bytes) (rest : List (Option Bytes)) (i j : ℕ) → Fits line (map Some sets ++ rest) i j → Leads sets line i j
fits_lead line [] rest i j f = let on = fits_le line rest i j f in record { within = omega arith; takes = λ k below. absurd (omega arith) }
fits_lead line (s ∷ sets) rest i j (k, (b, at, has, next), later) =
    let beyond = fits_lead line sets rest k j later in record { within = omega arith; takes = taken beyond }
  where
    taken : Leads sets line k j → (n : ℕ) → n < length (s ∷ sets) → (x : ℕ) × (slice_get line (i + n) ≡ Some x) × IsTrue (set_at (s ∷ sets) n x)
    taken beyond zero below = let place : i ≡ i + 0 = omega arith in (b, subst (λ n. slice_get line n ≡ Some b) place at, has)
    taken beyond (suc n) below =
        let place : k + n ≡ i + suc n = omega arith in rw place at (beyond.takes n (omega arith))

-- where the sets lead, marks of them and a stretch fit
lead_fits : (line : Text) (sets : List Bytes) (i j : ℕ) → Leads sets line i j → Fits line (map Some sets ++ None ∷ []) i j
lead_fits line [] i j l = (j, omega arith, refl)
lead_fits line (s ∷ sets) i j l =
    let first = l.takes 0 (omega arith) in let place : i + 0 ≡ i = omega arith in
    (i + 1, (first.0, subst (λ n. slice_get line n ≡ Some first.0) place first.1, first.2, refl), lead_fits line sets (i + 1) j (leads_rest s sets line i j l))

begins_with : {marks : List OutlineItem} (sets : List Bytes) (rest : List (Option Bytes)) {e : Expression} → IsOutline marks e → map shown marks ≡ map Some sets ++ rest → BeginsWith sets e
begins_with sets rest outline is = λ line i j h. fits_lead line sets rest i j (rw is at (outline.fits line i j h))

pub begins_branch : {old : List OutlineItem} (marks : List OutlineItem) (sets : List Bytes) (e : Expression) → old ≡ [] → AddsOutline old e marks → ((rest : List (Option Bytes)) × (map shown marks ≡ map Some sets ++ rest)) → BeginsWith sets e
begins_branch marks sets e none (more, same, outline) (rest, is) = begins_with sets rest outline (ap (map shown) (sym (same ∙ ap (λ l. l ++ more) none)) ∙ is)

-- ---- joined sets

joined_lead : (one both : List Bytes) (line : Text) (i j : ℕ) → length both ≤ length one → ((k x : ℕ) → k < length both → IsTrue (set_at one k x) → IsTrue (set_at both k x)) → Leads one line i j → Leads both line i j
joined_lead one both line i j few more l =
    record {
      within = omega arith;
      takes = λ k below.
          let (b, at, has) = l.takes k (omega arith) in (b, at, more k b below has);
    }

pub joined_first : {other : List Bytes} (one both : List Bytes) (e : Expression) → AreJoined one other both → BeginsWith one e → BeginsWith both e
joined_first one both e joined begins = λ line i j h. joined_lead one both line i j (omega arith) joined.first (begins line i j h)

pub joined_second : {one : List Bytes} (other both : List Bytes) (e : Expression) → AreJoined one other both → BeginsWith other e → BeginsWith both e
joined_second other both e joined begins = λ line i j h. joined_lead other both line i j (omega arith) joined.second (begins line i j h)

-- ---- sets that are joined place by place

module _ (both : List Bytes) (k : ℕ) (u : Bytes) (lt : k < length both) (j x : ℕ) where
  -- a byte of the set at another place stays, and at this one it has to be in the set that is put there
  put_there : (j ≡ k → IsTrue (u x)) → (j ≢ k → IsTrue (set_at both j x)) → IsTrue (set_at (set both k u) j x)
  put_there here other = elim (cases_eq j k) [
    | inl same ↦ rw (get_or-set_at both k j u nothing same lt) (here same)
    | inr away ↦ rw (get_or-set_other both k j u nothing away) (other away)
  ]

-- of joined sets one more
pub first_more : (one both : List Bytes) (k : ℕ) (u : Bytes) → k < length both → ((x : ℕ) → IsTrue (set_at both k x) → IsTrue (u x))
    → ((j x : ℕ) → j < length both → IsTrue (set_at one j x) → IsTrue (set_at both j x))
    → (j x : ℕ) → j < length both → IsTrue (set_at one j x) → IsTrue (set_at (set both k u) j x)
first_more one both k u lt grows old j x below has = put_there both k u lt j x (λ same. grows x (rw same at (old j x below has))) (λ away. old j x below has)

pub second_more : (other both : List Bytes) (k : ℕ) (u : Bytes) → k < length both → ((x : ℕ) → IsTrue (set_at other k x) → IsTrue (u x))
    → ((j x : ℕ) → j < k → IsTrue (set_at other j x) → IsTrue (set_at both j x))
    → (j x : ℕ) → j < k + 1 → IsTrue (set_at other j x) → IsTrue (set_at (set both k u) j x)
second_more other both k u lt grows old j x below has = put_there both k u lt j x (λ same. grows x (rw same at has)) (λ away. old j x (omega arith) has)

-- ---- branches, one after another

pub no_branch : (sets : List Bytes) → BeginsWith sets (alt [])
no_branch sets = λ line i j h. absurd h

-- one branch more
pub branch_more : (sets : List Bytes) (es : List Expression) (e : Expression) → BeginsWith sets (alt es) → BeginsWith sets e → BeginsWith sets (alt (es ++ e ∷ []))
branch_more sets [] e all one = λ line i j h. elim h [ inl here ↦ one line i j here | inr none ↦ absurd none ]
branch_more sets (f ∷ es) e all one = λ line i j h. elim h [
  | inl here ↦ all line i j (inl here)
  | inr later ↦ branch_more sets es e (λ l a b x. all l a b (inr x)) one line i j later
]

pub parts_more : (sets : List Bytes) (parts : List Tree) (i : ℕ) (part : Tree) → i < length parts → part ≡ get_or parts i part
    → BeginsWith sets (alt (map expression_of (take i parts))) → BeginsWith sets (expression_of part) → BeginsWith sets (alt (map expression_of (take (i + 1) parts)))
parts_more sets parts i part lt is all one = rw (parts_grown parts i lt is) (branch_more _ _ _ all one)

-- ---- what is added to the marks

sets_outline : (marks : List OutlineItem) (sets : List Bytes) (e : Expression) → map shown marks ≡ map Some sets → BeginsWith sets e → IsOutline (marks ++ m.Gap ∷ []) e
sets_outline marks sets e are begins = record { fits = λ line i j h. rw (map-append shown marks (m.Gap ∷ []) ∙ ap (λ l. l ++ None ∷ []) are) (lead_fits line sets i j (begins line i j h)); holds = λ line i j h. absurd (never line marks i j h) }

pub adds_choice : (old middle new : List OutlineItem) (sets : List Bytes) (choice e : Expression) → e ≡ choice → BeginsWith sets choice → AddsSets old sets middle → new ≡ middle ++ m.Gap ∷ [] → AddsOutline old e new
adds_choice old middle new sets choice e is begins (more, same, are) added = (
  more ++ m.Gap ∷ [],
  added ∙ ap (λ l. l ++ m.Gap ∷ []) same ∙ append_assoc old more (m.Gap ∷ []),
  rw is (sets_outline more _ _ are begins),
)
