-- The faults of bracket expressions, by what a cursor passes or finds.
use Rattle.re_syntax.{proofs.{Prelude.{◌≡◌, ◌≢◌, ℕ, ◌⊎◌, inl, inr, ◌∷◌, ◌++◌, codes, length, drop, refl, sym, ap, ◌∙◌, subst, arith, length-drop, ListPlace, Cursor, FaultKind, BadRange, PatternFault, Text, Begins, Point, bare, MayGoOn, left, Passes}, lemmas.BracketsUnique.{apart, point-unique}}, specs.{declared.bracket.ListPlace.TheVariants.First, BracketFaults.{RangeFault, ElementFault, no_range, ListFault, here, BracketFault}, Faults.IsAt, Working.BracketSteps.{from_place, Fails, IsIn, IsHyphenBefore, IsStray}}}

-- a fault at the cursor's place
pub fault_here : (P : Text → FaultKind → Text → Type 0) (c : Cursor) {t : Text} {kind : FaultKind} {at : ℕ} → at ≡ c.at → left c ≡ t → P t kind t → Fails (P (left c)) c (record { kind = kind; at = at })
fault_here P c e f x = record { within = rw e c.in_text; is_fault = rw e (rw f x) }

-- what follows from a fault is one
pub fault_as : {P Q : FaultKind → Text → Type 0} {text : Text} {fault : PatternFault} → IsAt P text fault → ((kind : FaultKind) (from : Text) → P kind from → Q kind from) → IsAt Q text fault
fault_as {text = text} {fault = fault} f g = record { within = f.within; is_fault = g fault.kind (drop fault.at text) f.is_fault }

-- a place where a hyphen is, is in the text
pub hyphen_within : (c : Cursor) {hyphen : ℕ} (t : Text) → from_place hyphen c ≡ codes "-" ++ t → IsIn hyphen c
hyphen_within c t e = omega (arith, simp length-drop at (ap length e))

-- a fault of a range, at its hyphen
pub bad_range_at : {opening : Text} {first : ℕ} (c : Cursor) {hyphen : ℕ} → IsHyphenBefore hyphen c → RangeFault opening first (left c) BadRange (codes "-" ++ left c) →
    Fails (RangeFault opening first (left c)) c (record { kind = BadRange; at = hyphen })
bad_range_at c e f =
    record { within = hyphen_within c _ e; is_fault = rw e f }

-- the fault of two hyphens, where the first was read as a point
pub stray_before : (opening : ℕ) (place : ListPlace) (old new : Cursor) {m : Text} (fault : PatternFault) {b : ℕ} → new.text ≡ old.text → Point (left old) m b → Begins (codes "-") (left old) →
    m ≡ codes "-" ++ left new → ¬ Begins (codes "-]") m → place ≢ First → IsStray opening new fault → Fails (ElementFault (from_place opening old) place (left old)) old fault
stray_before opening place old new {m} fault same x (rest, e) f last n h =
    let next = (point-unique x (bare 45 (λ k. absurd (apart k refl))) e).rests in
    let whole : left old ≡ 45 ∷ 45 ∷ left new = cc (sym next ∙ f) in
    let found = h place n (λ (r, g). last (r, f ∙ ap (λ t. 45 ∷ t) g)) in
    subst (λ t. IsAt (ElementFault (drop opening t.now) place (left old)) t.now fault) same
    (subst (λ t. IsAt (ElementFault (from_place opening new) place t) new.text.now fault) (sym whole) found)

-- the fault of a range, from the point that begins it
pub range_before : (opening : ℕ) {place : ListPlace} (old new : Cursor) {m : Text} (fault : PatternFault) {b : ℕ} → new.text ≡ old.text → MayGoOn place (left old) → (Begins (codes "-") (left old) → place ≡ First) →
    Point (left old) m b → m ≡ codes "-" ++ left new → ¬ Begins (codes "-]") m → Fails (RangeFault (from_place opening new) b (left new)) new fault →
    Fails (ElementFault (from_place opening old) place (left old)) old fault
range_before opening {place} old new fault {b} same on first x f last h =
    rw same at
    (fault_as h (λ kind from g. no_range (rw f at x) (λ (r, e). last (r, f ∙ ap (λ t. 45 ∷ t) e)) start g))
  where
    start : Begins (codes "]") (left old) ⊎ Begins (codes "-") (left old) → place ≡ First
    start (inl k) = on.bracket k
    start (inr k) = first k

-- the list of a bracket expression has the fault
pub list_fault : (opening : ℕ) (start c : Cursor) (p : ListPlace) {fault : PatternFault} → c.text ≡ start.text →
    ((kind : FaultKind) (from : Text) → ListFault (from_place opening start) p (left c) kind from → ListFault (from_place opening start) First (left start) kind from) →
    Fails (ElementFault (from_place opening c) p (left c)) c fault → Fails (ListFault (from_place opening start) First (left start)) start fault
list_fault opening start c p {fault} same on h =
    fault_as (subst (λ t. IsAt (ElementFault (drop opening t.now) p (left c)) t.now fault) same h) (λ kind from f. on kind from (here f))

-- the fault of a list after what opens it
pub opened_fault : {bytes : Text} {opening : ℕ} {old new : Cursor} {fault : PatternFault} → opening ≡ old.at → Passes bytes old new →
    ((kind : FaultKind) (from : Text) → ListFault (bytes ++ left new) First (left new) kind from → BracketFault (bytes ++ left new) kind from) →
    Fails (ListFault (from_place opening new) First (left new)) new fault → Fails (BracketFault (left old)) old fault
opened_fault {bytes} {opening} {old} {new} {fault} e past f h =
    let from : from_place opening new ≡ bytes ++ left new = cc (past.same_text, past.passed) in
    let moved = rw from at h in
    subst (λ t. IsAt (BracketFault t) old.text.now fault) (sym past.passed)
    (subst (λ t. IsAt (BracketFault (bytes ++ left new)) t.now fault) past.same_text (fault_as moved f))

-- the opening is in the text
pub opening_in : {opening : ℕ} (old new : Cursor) → opening ≡ old.at → new.text ≡ old.text → IsIn opening new
opening_in old new e same = rw same (rw e old.in_text)

-- the fault of the bracket expression at a place
pub exact_at : {text : Text} (from : ℕ) (c : Cursor) {fault : PatternFault} → c.text.now ≡ text → left c ≡ drop from text → Fails (BracketFault (left c)) c fault → IsAt (BracketFault (drop from text)) text fault
exact_at {text} _ c {fault} e f h = subst (λ t. IsAt (BracketFault t) text fault) f (subst (λ t. IsAt (BracketFault (left c)) t fault) e h)
