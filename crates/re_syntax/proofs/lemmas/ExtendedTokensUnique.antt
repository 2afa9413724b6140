-- A place of an extended expression has one token, or one fault.
use Rattle.re_syntax.{proofs.{Prelude.{EscapeFault, undefined, reference, ◌≡◌, ◌≢◌, ℕ, Bool, true, [], ◌∷◌, ◌++◌, Option, if◌then◌else◌, codes, refl, sym, ap, ◌∙◌, FaultKind, Extended, Text, is_in, OpensDuplication, opens_star, opens_plus, opens_question, opens_interval}, lemmas.{BracketsUnique.{heads, tails, apart, bracket_front, IsBracket-unique}, BracketFaultsUnique.{bracket_fault-unique, bracket-no_fault, bracket_fault_front}, CutsUnique.{SameToken, SameFault, IsExact}, ExtendedTokenReading.{dup_opens, no_opening}, EscapeLaws.{escape_fault-unique, escape-no_fault}, TokenParts.{closed-unique, same_times, closed_by, no_closed, never_allowed, disallowed-unique}}}, specs.{declared.tokens.ItemPlace.ItemPlace, ExtendedTokens.{Duplication, is_ordinary, star, plus, question, interval, ExtendedToken, opens, closes, parts, leads, repeats, bracket, period, dollar, escaped, ordinary, brace, ExtendedTokenFault, in_bracket, in_escape, needs_item, disallowed}, Tokens.{Token, times}, EscapeFaults.trailing}}

-- the kind of what begins with this byte: all that may begin a duplication is of one kind
abbrev kind_of : Bool → Text → ℕ
kind_of g [] = 256
kind_of g (b ∷ w) = if is_ordinary g b then 700 else if is_in (codes "*+?{") b then 0 else b

dup_kind : (g : Bool) {d : Text} {least : ℕ} {most : Option ℕ} → Duplication d least most → (u : Text) → kind_of g (d ++ u) ≡ 0
dup_kind g star u = refl
dup_kind g plus u = refl
dup_kind g question u = refl
dup_kind g (interval form allowed) u = refl

opens_kind : (g : Bool) {t : Text} → OpensDuplication t → kind_of g t ≡ 0
opens_kind g opens_star = refl
opens_kind g opens_plus = refl
opens_kind g opens_question = refl
opens_kind g (opens_interval c) = refl

escape_kind : (g : Bool) {others t v : Text} {k : FaultKind} → EscapeFault others t k v → kind_of g t ≡ 92
escape_kind g trailing = refl
escape_kind g (undefined h n) = refl
escape_kind g (reference h) = refl

abbrev token_kind : {g : Bool} {p : ItemPlace} {t u : Text} {k : Token} → ExtendedToken g p t u k → (n : ℕ) × (kind_of g t ≡ n)
token_kind opens = (40, refl)
token_kind (closes h) = (41, rw h refl)
token_kind parts = (124, refl)
token_kind leads = (94, refl)
token_kind {g} (repeats {u = u} q d) = (0, dup_kind g d u)
token_kind {g} (bracket h) = (91, ap (kind_of g) (bracket_front h).1)
token_kind period = (46, refl)
token_kind dollar = (36, refl)
token_kind (escaped b h) = (92, refl)
token_kind (ordinary b h) = (700, rw h refl)
token_kind (brace n) = (0, refl)

abbrev fault_kind : (g : Bool) {p : ItemPlace} {t v : Text} {k : FaultKind} → ExtendedTokenFault p t k v → (n : ℕ) × (kind_of g t ≡ n)
fault_kind g (in_bracket f) = (91, ap (kind_of g) (bracket_fault_front f).1)
fault_kind g (in_escape f) = (92, escape_kind g f)
fault_kind g (needs_item n o) = (0, opens_kind g o)
fault_kind g (disallowed q c d) = (0, refl)

abbrev first_byte : Text → ℕ
first_byte [] = 0
first_byte (b ∷ t) = b

abbrev dup_first : {d : Text} {least : ℕ} {most : Option ℕ} → Duplication d least most → (u : Text) → (n : ℕ) × (first_byte (d ++ u) ≡ n)
dup_first star u = (42, refl)
dup_first plus u = (43, refl)
dup_first question u = (63, refl)
dup_first (interval form allowed) u = (123, refl)

dup-unique : {c d : Text} {a b : ℕ} {x y : Option ℕ} → Duplication c a x → Duplication d b y → {u v : Text} → c ++ u ≡ d ++ v → SameToken (times a x) (times b y) u v
dup-unique star star e = record { tokens = refl; rests = tails e }
dup-unique plus plus e = record { tokens = refl; rests = tails e }
dup-unique question question e = record { tokens = refl; rests = tails e }
dup-unique (interval form i) (interval other j) {u} {v} e =
    let same = closed-unique 125 [] refl refl (closed_by u form) (closed_by v other) (tails e) in
    record { tokens = same_times same.least same.most; rests = same.rests }
dup-unique x y {u} {v} e = absurd (apart (sym (dup_first x u).1 ∙ ap first_byte e ∙ (dup_first y v).1) refl)

token-unique : {g : Bool} {p : ItemPlace} {t s u v : Text} {j k : Token} → ExtendedToken g p t u j → ExtendedToken g p s v k → t ≡ s → SameToken j k u v
token-unique (ordinary b h) (ordinary c k) e = record { tokens = rw (heads e); rests = tails e }
token-unique (brace n) (brace m) e = record { tokens = refl; rests = tails e }
token-unique (brace n) (repeats {u = u} q d) e = absurd (no_opening n (dup_opens d u) (sym e))
token-unique (repeats {u = u} q d) (brace n) e = absurd (no_opening n (dup_opens d u) e)
token-unique opens opens e = record { tokens = refl; rests = tails e }
token-unique (closes h) (closes k) e = record { tokens = refl; rests = tails e }
token-unique parts parts e = record { tokens = refl; rests = tails e }
token-unique leads leads e = record { tokens = refl; rests = tails e }
token-unique (repeats p d) (repeats q c) e = dup-unique d c e
token-unique (bracket h) (bracket k) e = let same = IsBracket-unique h k e in record { tokens = rw same.expressions; rests = same.rests }
token-unique period period e = record { tokens = refl; rests = tails e }
token-unique dollar dollar e = record { tokens = refl; rests = tails e }
token-unique (escaped b h) (escaped c k) e = record { tokens = rw (heads (tails e)); rests = tails (tails e) }
token-unique {g} x y e = absurd (apart (sym (token_kind x).1 ∙ ap (kind_of g) e ∙ (token_kind y).1) refl)

fault-unique : {p : ItemPlace} {t s u v : Text} {j k : FaultKind} → ExtendedTokenFault p t j u → ExtendedTokenFault p s k v → t ≡ s → SameFault j k u v
fault-unique (in_bracket x) (in_bracket y) e = bracket_fault-unique x y e
fault-unique (in_escape x) (in_escape y) e = escape_fault-unique x y e
fault-unique (needs_item n o) (needs_item m q) e = record { kinds = refl; places = e }
fault-unique (needs_item n o) (disallowed q c d) e = absurd (n q)
fault-unique (disallowed q c d) (needs_item n o) e = absurd (n q)
fault-unique (disallowed p c d) (disallowed q a b) e =
    let same = closed-unique 125 [] refl refl c a (tails e) in record { kinds = disallowed-unique d b same.least same.most; places = e }
fault-unique x y e = absurd (apart (sym (fault_kind true x).1 ∙ ap (kind_of true) e ∙ (fault_kind true y).1) refl)

fault-no_token : {g : Bool} {p : ItemPlace} {t s u v : Text} {k : Token} {j : FaultKind} → ExtendedTokenFault p s j v → ExtendedToken g p t u k → s ≡ t → ⊥
fault-no_token (needs_item n o) (repeats q d) e = n q
fault-no_token (needs_item m o) (brace n) e = no_opening n o e
fault-no_token (disallowed q c d) (brace n) e = no_closed n c (tails e)
fault-no_token (disallowed p c r) (repeats q star) e = apart (heads e) refl
fault-no_token (disallowed p c r) (repeats q plus) e = apart (heads e) refl
fault-no_token (disallowed p c r) (repeats q question) e = apart (heads e) refl
fault-no_token (disallowed p c r) (repeats {u = u} q (interval form allowed)) e =
    let same = closed-unique 125 [] refl refl (closed_by u form) c (sym (tails e)) in never_allowed same.least same.most allowed r
fault-no_token (in_bracket f) (bracket h) e = bracket-no_fault h f (sym e)
fault-no_token (in_escape f) (escaped b h) e = h (escape-no_fault f e)
fault-no_token {g} y x e = absurd (apart (sym (fault_kind g y).1 ∙ ap (kind_of g) e ∙ (token_kind x).1) refl)

token_not_end : {g : Bool} {p : ItemPlace} {t u : Text} {k : Token} → ExtendedToken g p t u k → t ≢ []
token_not_end (ordinary b h) e = cc
token_not_end {g} x e = absurd (apart (sym (token_kind x).1 ∙ ap (kind_of g) e) refl)

fault_not_end : {p : ItemPlace} {t v : Text} {j : FaultKind} → ExtendedTokenFault p t j v → t ≢ []
fault_not_end (in_escape trailing) e = cc
fault_not_end x e = absurd (apart (sym (fault_kind true x).1 ∙ ap (kind_of true) e) refl)

pub extended_exact : IsExact Extended
extended_exact = record {
  token = λ g p t u v j k x y. token-unique x y refl;
  fault = λ g p t u v j k x y. fault-unique x y refl;
  either = λ g p t u v k j x y. fault-no_token y x refl;
  token_not_end = λ g p u k x. token_not_end x refl;
  fault_not_end = λ g p v j x. fault_not_end x refl;
}
