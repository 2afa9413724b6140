-- Tokens of basic expressions, by the bytes at their place.
use Rattle.re_syntax.{proofs.Prelude.{HasNoTimes, ◌≡◌, ◌≢◌, ℕ, ◌+◌, ◌<◌, ◌≤◌, ◌⊎◌, inl, inr, Bool, true, not, [], ◌∷◌, length, drop, Option, IsTrue, codes, refl, sym, ap, ◌∙◌, arith, ne_eqb, cases_eq, length-drop, Text, Begins, one_of, EscapeStands, basic_refused, IsAtEnd, of_text, of_group, of_branch, NeedsItem, needs_interval, needs_plus, needs_question, meant_bytes, HasNoSign, HasNoTail, OpensNoDuplication, is_in, is_undefined}, specs.{declared.tokens.ItemPlace.{ItemPlace, TheVariants.{First, AfterAnchor, Later}}, BasicTokens.{Duplication, is_ordinary, star, plus, question, interval, BasicToken, marks, period, dollar, ordinary}, Tokens.atom, Profile.basic_escaped}}

pub dup_length : {d : Text} {least : ℕ} {most : Option ℕ} → Duplication d least most → 0 < length d
dup_length star = omega arith
dup_length plus = omega arith
dup_length question = omega arith
dup_length (interval form allowed) = omega arith

-- where nothing that needs an item was found, nothing does
pub needs_no_item : {t : Text} → ¬ Begins (codes "\\{") t → ¬ Begins (codes "\\+") t → ¬ Begins (codes "\\?") t → ¬ NeedsItem t
needs_no_item {t} k m n h = go h refl
  where
    go : {s : Text} → NeedsItem s → t ≡ s → ⊥
    go (needs_interval {u = u}) e = k (u, e)
    go (needs_plus {u = u}) e = m (u, e)
    go (needs_question {u = u}) e = n (u, e)

pub no_duplication_opens : {t : Text} → HasNoSign t → ¬ Begins (codes "\\{") t → OpensNoDuplication t
no_duplication_opens n k = record { star = n.star; escaped = needs_no_item k n.plus n.question }

-- where no end of a branch was found, there is none
pub not_at_end : (text : Text) (at : ℕ) → at ≤ length text → (at ≡ length text → ⊥) → ¬ Begins (codes "\\|") (drop at text) → ¬ Begins (codes "\\)") (drop at text) → ¬ IsAtEnd (drop at text)
not_at_end text at h n m k e = go e refl
  where
    go : {t : Text} → IsAtEnd t → drop at text ≡ t → ⊥
    go of_text f = n (omega (arith, simp length-drop at (ap length f)))
    go (of_group {t = u}) f = k (u, f)
    go (of_branch {t = u}) f = m (u, f)

-- a byte after a backslash that makes nothing else stands for itself
pub escape_allowed : {text : Text} {at b : ℕ} → EscapeStands basic_refused text at b → ¬ Begins (codes "\\(") (drop at text) → ¬ Begins (codes "\\|") (drop at text) → ¬ Begins (codes "\\)") (drop at text) →
    ¬ NeedsItem (drop at text) → ¬ IsTrue (is_undefined basic_escaped b)
escape_allowed {text} {at} {b} s no_group no_bar no_closing no_need h =
    let rest = drop (at + 2) text in
    let begins : (c : ℕ) → c ≡ b → Begins (92 ∷ c ∷ []) (drop at text) = λ c e. (rest, s.front ∙ ap (λ x. 92 ∷ x ∷ rest) (sym e)) in
    let needs : (c : ℕ) → NeedsItem (92 ∷ c ∷ rest) → c ≢ b = λ c n e. no_need (rw (s.front, sym e) n) in
    s.allowed (rw (
      ne_eqb 40 b (λ e. no_group (begins 40 e)),
      ne_eqb 41 b (λ e. no_closing (begins 41 e)),
      ne_eqb 124 b (λ e. no_bar (begins 124 e)),
      ne_eqb 123 b (needs 123 needs_interval),
      ne_eqb 43 b (needs 43 needs_plus),
      ne_eqb 63 b (needs 63 needs_question),
    ) at h)

-- a byte that is nothing else stands for itself
ordinary_here : (p : ItemPlace) (b : ℕ) → b ≢ 91 → b ≢ 46 → b ≢ 92 → b ≢ 36 → (p ≡ First → b ≢ 94) → (p ≡ Later → b ≢ 42) → IsTrue (is_ordinary p b)
ordinary_here p b k d l m c s = rw (ne_eqb 91 b (λ x. k (sym x)), ne_eqb 46 b (λ x. d (sym x)), ne_eqb 92 b (λ x. l (sym x)), ne_eqb 36 b (λ x. m (sym x))) (go p c s)
  where
    go : (p : ItemPlace) → (p ≡ First → b ≢ 94) → (p ≡ Later → b ≢ 42) → not (is_in (marks p) b) ≡ true
    go First c s = rw (ne_eqb 94 b (λ x. c refl (sym x))) refl
    go AfterAnchor c s = refl
    go Later c s = rw (ne_eqb 42 b (λ x. s refl (sym x))) refl

pub single : {g : Bool} {p : ItemPlace} (b : ℕ) {u : Text} → HasNoTimes p (b ∷ u) → HasNoTail (b ∷ u) → (p ≡ First → ¬ Begins (codes "^") (b ∷ u)) → b ≢ 91 → b ≢ 92 → BasicToken g p (b ∷ u) u (atom (one_of (meant_bytes b)))
single {g} {p} b {u} times tail first k l = go (cases_eq b 46) (cases_eq b 36)
  where
    go : (b ≡ 46) ⊎ (b ≡ 46 → ⊥) → (b ≡ 36) ⊎ (b ≡ 36 → ⊥) → BasicToken g p (b ∷ u) u (atom (one_of (meant_bytes b)))
    go (inl e) m = rw e period
    go (inr n) (inl e) = rw e (dollar (tail.none u (rw e)))
    go (inr n) (inr m) = rw (ne_eqb b 46 n) (ordinary b (ordinary_here p b k n l m (λ q e. first q (u, ap (λ x. x ∷ u) e)) (λ q e. times.star q (u, ap (λ x. x ∷ u) e))))
