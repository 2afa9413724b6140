-- The next line that is shown, by the first selected line that is near enough.
use Rattle.grep_session.proofs.{Prelude.{◌≡◌, ℕ, ◌+◌, ◌-◌, ◌<◌, ◌≤◌, ◌⊎◌, List, All, inl, inr, arith, length, length-map, map, Expression, Context, Options, IsShown, KeptLine, line_text, IsKept, SelectedFrom, NextShown}, lemmas.CountLemmas.{none_passed, one_found}}

-- the first selected line from a place on is that from a later one on, up to itself
pub selected_on : {options : Options} {lines : List KeptLine} {p q near : ℕ} → p ≤ q → q ≤ near → SelectedFrom options lines p near → SelectedFrom options lines q near
selected_on low high s = record { after = high; within = s.within; passed = λ i d from. s.passed i d (omega arith); hit = s.hit }

-- the next line that is shown is line k, or the first before the selected one, or there is none
pub shown_next : (options : Options) (context : Context) (lines : List KeptLine) {far next : ℕ} (k near : ℕ) → k ≤ length lines → far ≡ k - context.after → SelectedFrom options lines far near
    → ((next ≡ k) × (near - context.before ≤ k) × (near < length lines)) ⊎ (((next ≡ near - context.before) × (k ≤ next) × (near < length lines)) ⊎ ((near ≡ length lines) × (next ≡ near)))
    → (es : List Expression) → All (IsKept es options) lines → NextShown es options context (map line_text lines) k next
shown_next options context lines {far} {next} k near inside is s e es kept = record {
  after = elim e [ inl h ↦ omega arith | inr h ↦ elim h [ inl h ↦ h.1 | inr h ↦ omega arith ] ];
  within = elim e [ inl h ↦ omega (arith, length-map lines line_text) | inr h ↦ elim h [ inl h ↦ omega (arith, length-map lines line_text) | inr h ↦ omega (arith, length-map lines line_text) ] ];
  passed = λ i low high shown. none_passed es options lines far near kept s shown.place (omega arith)
      (elim e [ inl h ↦ absurd (omega arith) | inr h ↦ elim h [ inl h ↦ omega arith | inr h ↦ omega (arith, length-map lines line_text) ] ]) shown.selected;
  hit = λ there. elim e [
    | inl h ↦ found h.2 (omega arith) (omega arith)
    | inr h ↦ elim h [ inl h ↦ found h.2 (omega arith) (omega arith) | inr h ↦ absurd (omega (arith, length-map lines line_text)) ]
  ];
}
  where
    found : near < length lines → near ≤ next + context.before → next ≤ near + context.after → IsShown es options context (map line_text lines) next
    found on low high = record { place = near; on = omega (arith, length-map lines line_text); selected = one_found es options _ _ _ kept s on; before = low; after = high }
