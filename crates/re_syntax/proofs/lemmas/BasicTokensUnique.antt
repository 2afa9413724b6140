-- A place of a basic expression has one token, or one fault.
use Rattle.re_syntax.{proofs.{Prelude.{EscapeFault, undefined, reference, ◌≡◌, ◌≢◌, ℕ, ◌+◌, inl, inr, Bool, nat_eq, [], ◌∷◌, ◌++◌, Option, IsTrue, codes, if◌then◌else◌, refl, sym, ap, ◌∙◌, ne_eqb, or_cases, or_left, or_right, Alnum, in_class, FaultKind, Basic, Text, IsAtEnd, of_text, of_group, of_branch, NeedsItem, needs_interval, needs_plus, needs_question, basic_refused, is_in, is_undefined, one_to_nine}, lemmas.{BracketsUnique.{heads, tails, apart, bracket_front, IsBracket-unique}, BracketFaultsUnique.{bracket_fault-unique, bracket-no_fault, bracket_fault_front}, CutsUnique.{SameToken, SameFault, IsExact}, EscapeLaws.{escape_fault-unique, escape-no_fault}, TokenParts.{closed-unique, same_times, closed_by, no_closed, never_allowed, disallowed-unique}}}, specs.{declared.tokens.ItemPlace.{ItemPlace, TheVariants.Later}, BasicTokens.{Duplication, is_ordinary, star, plus, question, interval, BasicToken, opens, closes, parts, leads, trails, repeats, bracket, period, dollar, escaped, ordinary, BasicTokenFault, in_bracket, in_escape, unopened, needs_item, no_form, disallowed}, Profile.basic_escaped, Tokens.{Token, closing, bar, times}, EscapeFaults.trailing}}

-- the kind of what begins with these bytes: all that may begin a duplication is of one kind
abbrev escape_kind : Text → ℕ
escape_kind [] = 500
escape_kind (c ∷ w) = if is_in (codes "{+?") c then 0 else if is_in (codes "()|") c then 256 + c else 500

abbrev kind_of : ItemPlace → Text → ℕ
kind_of p [] = 600
kind_of p (b ∷ w) = if is_ordinary p b then 700 else if nat_eq b 92 then escape_kind w else if nat_eq b 42 then 0 else b

dup_kind : {d : Text} {least : ℕ} {most : Option ℕ} → Duplication d least most → (u : Text) → kind_of Later (d ++ u) ≡ 0
dup_kind star u = refl
dup_kind plus u = refl
dup_kind question u = refl
dup_kind (interval form allowed) u = refl

needs_kind : (p : ItemPlace) {t : Text} → NeedsItem t → kind_of p t ≡ 0
needs_kind p needs_interval = refl
needs_kind p needs_plus = refl
needs_kind p needs_question = refl

-- an escaped byte, and one that is refused, make no other token: a test tells them from the others
plain_kind : (p : ItemPlace) (b : ℕ) (w : Text) (test : ℕ → Bool) {v : Bool} → test b ≢ v → test 40 ≡ v → test 41 ≡ v → test 124 ≡ v → test 123 ≡ v → test 43 ≡ v → test 63 ≡ v → kind_of p (92 ∷ b ∷ w) ≡ 500
plain_kind p b w test {v} n i j k l m o = rw (ne_eqb 40 b (other 40 i), ne_eqb 41 b (other 41 j), ne_eqb 124 b (other 124 k), ne_eqb 123 b (other 123 l), ne_eqb 43 b (other 43 m), ne_eqb 63 b (other 63 o)) refl
  where
    other : (c : ℕ) → test c ≡ v → c ≢ b
    other c h e = n (cc)

escaped_kind : (p : ItemPlace) (b : ℕ) (w : Text) → ¬ IsTrue (is_undefined basic_escaped b) → kind_of p (92 ∷ b ∷ w) ≡ 500
escaped_kind p b w h = plain_kind p b w (is_undefined basic_escaped) h refl refl refl refl refl refl

refused_kind : (p : ItemPlace) {t v : Text} {k : FaultKind} → EscapeFault basic_refused t k v → kind_of p t ≡ 500
refused_kind p trailing = refl
refused_kind p (undefined {u = u} {b = b} h n) = plain_kind p b u (is_undefined basic_refused) (λ e. let f = sym e ∙ h in cc) refl refl refl refl refl refl
refused_kind p (reference {u = u} {b = b} h) = plain_kind p b u one_to_nine (λ e. let f = sym e ∙ h in cc) refl refl refl refl refl refl

abbrev token_kind : {g : Bool} {p : ItemPlace} {t u : Text} {k : Token} → BasicToken g p t u k → (n : ℕ) × (kind_of p t ≡ n)
token_kind opens = (296, refl)
token_kind (closes h) = (297, refl)
token_kind parts = (380, refl)
token_kind (leads q) = (94, rw q refl)
token_kind (trails a) = (36, refl)
token_kind (dollar n) = (36, refl)
token_kind (repeats {u = u} q d) = (0, rw q (dup_kind d u))
token_kind {p} (bracket h) = (91, ap (kind_of p) (bracket_front h).1)
token_kind period = (46, refl)
token_kind {p} (escaped {u = u} b h) = (500, escaped_kind p b u h)
token_kind (ordinary b h) = (700, rw h refl)

abbrev fault_kind : {g : Bool} {p : ItemPlace} {t v : Text} {k : FaultKind} → BasicTokenFault g p t k v → (n : ℕ) × (kind_of p t ≡ n)
fault_kind {p} (in_bracket f) = (91, ap (kind_of p) (bracket_fault_front f).1)
fault_kind {p} (in_escape f) = (500, refused_kind p f)
fault_kind (unopened n) = (297, refl)
fault_kind {p} (needs_item n o) = (0, needs_kind p o)
fault_kind (no_form q h) = (0, refl)
fault_kind (disallowed q c d) = (0, refl)

-- the byte that determines the kind of duplication: the first, or the one after a backslash
abbrev first_byte : Text → ℕ
first_byte [] = 0
first_byte (b ∷ t) = b

abbrev mark : Text → ℕ
mark [] = 0
mark (b ∷ t) = if nat_eq b 92 then first_byte t else b

abbrev dup_mark : {d : Text} {least : ℕ} {most : Option ℕ} → Duplication d least most → (u : Text) → (n : ℕ) × (mark (d ++ u) ≡ n)
dup_mark star u = (42, refl)
dup_mark plus u = (43, refl)
dup_mark question u = (63, refl)
dup_mark (interval form allowed) u = (123, refl)

dup-unique : {c d : Text} {a b : ℕ} {x y : Option ℕ} → Duplication c a x → Duplication d b y → {u v : Text} → c ++ u ≡ d ++ v → SameToken (times a x) (times b y) u v
dup-unique star star e = record { tokens = refl; rests = tails e }
dup-unique plus plus e = record { tokens = refl; rests = tails (tails e) }
dup-unique question question e = record { tokens = refl; rests = tails (tails e) }
dup-unique (interval form i) (interval other j) {u} {v} e =
    let same = closed-unique 92 (codes "}") refl refl (closed_by u form) (closed_by v other) (tails (tails e)) in
    record { tokens = same_times same.least same.most; rests = tails same.rests }
dup-unique x y {u} {v} e = absurd (apart (sym (dup_mark x u).1 ∙ ap mark e ∙ (dup_mark y v).1) refl)

token-unique : {g : Bool} {p : ItemPlace} {t s u v : Text} {j k : Token} → BasicToken g p t u j → BasicToken g p s v k → t ≡ s → SameToken j k u v
token-unique (ordinary b h) (ordinary c k) e = record { tokens = rw (heads e); rests = tails e }
token-unique (dollar n) (dollar m) e = record { tokens = refl; rests = tails e }
token-unique (dollar n) (trails a) e = absurd (n (rw (tails e) a))
token-unique (trails a) (dollar n) e = absurd (n (rw (← (tails e)) a))
token-unique opens opens e = record { tokens = refl; rests = tails (tails e) }
token-unique (closes h) (closes k) e = record { tokens = refl; rests = tails (tails e) }
token-unique parts parts e = record { tokens = refl; rests = tails (tails e) }
token-unique (leads p) (leads q) e = record { tokens = refl; rests = tails e }
token-unique (trails a) (trails b) e = record { tokens = refl; rests = tails e }
token-unique (repeats p d) (repeats q c) e = dup-unique d c e
token-unique (bracket h) (bracket k) e = let same = IsBracket-unique h k e in record { tokens = rw same.expressions; rests = same.rests }
token-unique period period e = record { tokens = refl; rests = tails e }
token-unique (escaped b h) (escaped c k) e = record { tokens = rw (heads (tails e)); rests = tails (tails e) }
token-unique {p} x y e = absurd (apart (sym (token_kind x).1 ∙ ap (kind_of p) e ∙ (token_kind y).1) refl)

fault-unique : {g : Bool} {p : ItemPlace} {t s u v : Text} {j k : FaultKind} → BasicTokenFault g p t j u → BasicTokenFault g p s k v → t ≡ s → SameFault j k u v
fault-unique (in_bracket x) (in_bracket y) e = bracket_fault-unique x y e
fault-unique (in_escape x) (in_escape y) e = escape_fault-unique x y e
fault-unique (unopened n) (unopened m) e = record { kinds = refl; places = e }
fault-unique (needs_item n o) (needs_item m q) e = record { kinds = refl; places = e }
fault-unique (needs_item n o) (no_form q h) e = absurd (n q)
fault-unique (needs_item n o) (disallowed q c d) e = absurd (n q)
fault-unique (no_form q h) (needs_item n o) e = absurd (n q)
fault-unique (no_form p h) (no_form q k) e = record { kinds = refl; places = e }
fault-unique (no_form p h) (disallowed q c d) e = absurd (no_closed h c (sym (tails (tails e))))
fault-unique (disallowed q c d) (needs_item n o) e = absurd (n q)
fault-unique (disallowed p c d) (no_form q h) e = absurd (no_closed h c (tails (tails e)))
fault-unique (disallowed p c d) (disallowed q a b) e =
    let same = closed-unique 92 (codes "}") refl refl c a (tails (tails e)) in record { kinds = disallowed-unique d b same.least same.most; places = e }
fault-unique {p} x y e = absurd (apart (sym (fault_kind x).1 ∙ ap (kind_of p) e ∙ (fault_kind y).1) refl)

-- a byte among some is among more, so what may not follow a backslash is not escaped
in_more : (s t : Text) (b : ℕ) → IsTrue (is_in t b) → IsTrue (is_in (s ++ t) b)
in_more [] t b h = h
in_more (c ∷ s) t b h = or_right (nat_eq c b) _ (in_more s t b h)

wider : (b : ℕ) → IsTrue (is_undefined basic_refused b) → IsTrue (is_undefined basic_escaped b)
wider b h =
    elim (or_cases (in_class Alnum b) (is_in basic_refused b) h) [
      | inl e ↦ or_left (in_class Alnum b) (is_in basic_escaped b) e
      | inr k ↦ or_right (in_class Alnum b) (is_in basic_escaped b) (in_more (codes "(){+?|") basic_refused b k)
    ]

fault-no_token : {g : Bool} {p : ItemPlace} {t s u v : Text} {k : Token} {j : FaultKind} → BasicTokenFault g p s j v → BasicToken g p t u k → s ≡ t → ⊥
fault-no_token (needs_item n o) (repeats q d) e = n q
fault-no_token (unopened n) (closes h) e = n h
fault-no_token (no_form p h) (repeats q star) e = apart (heads e) refl
fault-no_token (no_form p h) (repeats q plus) e = apart (heads (tails e)) refl
fault-no_token (no_form p h) (repeats q question) e = apart (heads (tails e)) refl
fault-no_token (no_form p h) (repeats {u = u} q (interval form allowed)) e = no_closed h (closed_by {close = (codes "\\}")} u form) (sym (tails (tails e)))
fault-no_token (disallowed p c r) (repeats q star) e = apart (heads e) refl
fault-no_token (disallowed p c r) (repeats q plus) e = apart (heads (tails e)) refl
fault-no_token (disallowed p c r) (repeats q question) e = apart (heads (tails e)) refl
fault-no_token (disallowed p c r) (repeats {u = u} q (interval form allowed)) e =
    let same = closed-unique 92 (codes "}") refl refl (closed_by u form) c (sym (tails (tails e))) in never_allowed same.least same.most allowed r
fault-no_token (in_bracket f) (bracket h) e = bracket-no_fault h f (sym e)
fault-no_token (in_escape f) (escaped b h) e = h (wider b (escape-no_fault f e))
fault-no_token {p} y x e = absurd (apart (sym (fault_kind y).1 ∙ ap (kind_of p) e ∙ (token_kind x).1) refl)

-- a token that is where a branch ends closes a group or separates branches
abbrev pub MayEnd : Token → Type 0
MayEnd closing = Unit {0}
MayEnd bar = Unit {0}
MayEnd k = ⊥

pub at_end : {g : Bool} {p : ItemPlace} {t s u : Text} {k : Token} → BasicToken g p t u k → IsAtEnd s → t ≡ s → MayEnd k
at_end (closes h) a e = tt
at_end parts a e = tt
at_end {p} x of_text e = absurd (apart (sym (token_kind x).1 ∙ ap (kind_of p) e) refl)
at_end {p} x of_group e = absurd (apart (sym (token_kind x).1 ∙ ap (kind_of p) e) refl)
at_end {p} x of_branch e = absurd (apart (sym (token_kind x).1 ∙ ap (kind_of p) e) refl)

token_not_end : {g : Bool} {p : ItemPlace} {t u : Text} {k : Token} → BasicToken g p t u k → t ≢ []
token_not_end (ordinary b h) e = cc
token_not_end {p} x e = absurd (apart (sym (token_kind x).1 ∙ ap (kind_of p) e) refl)

fault_not_end : {g : Bool} {p : ItemPlace} {t v : Text} {j : FaultKind} → BasicTokenFault g p t j v → t ≢ []
fault_not_end (in_escape trailing) e = cc
fault_not_end {p} x e = absurd (apart (sym (fault_kind x).1 ∙ ap (kind_of p) e) refl)

pub basic_exact : IsExact Basic
basic_exact = record {
  token = λ g p t u v j k x y. token-unique x y refl;
  fault = λ g p t u v j k x y. fault-unique x y refl;
  either = λ g p t u v k j x y. fault-no_token y x refl;
  token_not_end = λ g p u k x. token_not_end x refl;
  fault_not_end = λ g p v j x. fault_not_end x refl;
}
