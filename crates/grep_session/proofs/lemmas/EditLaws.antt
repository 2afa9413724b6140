-- The law of the definitions: an edit has one outcome for its inputs, and one cost.
use Rattle.{grep_session.proofs.Prelude.{◌≡◌, ℕ, ◌+◌, ◌<◌, Bool, List, [], ◌∷◌, length, Result, Ok, Err, get_or, length-take, refl, sym, ap, ◌∙◌, arith, PatternFault, Syntax, Text, Matches, list_of, Inputs, Matched, EditFault, NoSuchFile, FileIsMissing, OutOfRange, LineHasNewline, NoSuchPattern, Pattern, TooManyPatterns, Memory, Edit, AddFile, AddMissing, DropFile, Splice, AddPatterns, ChangePattern, DropPattern, SetFlag, SetSyntax, SetContext, Applies, Reads, IsFirstRefused, AreAlike, EditsAreDetermined, Touched, Touches, Costs, CostsAs, CostsAccepted, pairs_cost, parting, parts_alone, all_lines, get_or-take}, grep_core.proofs.lemmas.{ChooseLaws.{same_value, IfHolds-both, Chosen-determined}, LawsHold.{means_one, IsMeant-determined}}}

alike_same : {a b o : Result Inputs EditFault} → a ≡ o → b ≡ o → AreAlike a b
alike_same {o = o} p q = rw (p, q) (alike_itself o)
  where
    alike_itself : (o : Result Inputs EditFault) → AreAlike o o
    alike_itself (Ok a) = refl
    alike_itself (Err (Pattern i f)) = refl
    alike_itself (Err NoSuchFile) = refl
    alike_itself (Err FileIsMissing) = refl
    alike_itself (Err OutOfRange) = refl
    alike_itself (Err LineHasNewline) = refl
    alike_itself (Err NoSuchPattern) = refl
    alike_itself (Err TooManyPatterns) = refl
    alike_itself (Err Memory) = refl

-- two refusals for the same pattern
alike_patterns : (a b : Result Inputs EditFault) {i j : ℕ} {f g : PatternFault} → a ≡ Err (Pattern i f) → b ≡ Err (Pattern j g) → i ≡ j → AreAlike a b
alike_patterns a b p q e = rw p (rw q e)

-- a text before the first refused one is readable
not_before : (syntax : Syntax) (fold : Bool) (texts : List Text) (i j : ℕ) (f g : PatternFault) → IsFirstRefused syntax fold texts i f → IsFirstRefused syntax fold texts j g → i < j → ⊥
not_before syntax fold texts i j f g a b less =
    a.unreadable (rw (get_or-take j texts i [] less) at (b.readable_before i [] (omega (arith, length-take j texts))))

Reads-once : {syntax : Syntax} {fold : Bool} {texts : List Text} {new : Inputs} (a b : Result Inputs EditFault) → Reads syntax fold texts new a → Reads syntax fold texts new b → AreAlike a b
Reads-once {syntax} {fold} {texts} a b p q =
    IfHolds-both p q alike_same (λ x y.
    let here = not_before syntax fold texts x.0 y.0 x.1 y.1 x.2 y.2 in
    let there = not_before syntax fold texts y.0 x.0 y.1 x.1 y.2 x.2 in
    alike_patterns a b x.3 y.3 (omega arith))

-- an edit has one outcome for its inputs
pub Applies-once : (edit : Edit) (old : Inputs) (a b : Result Inputs EditFault) → Applies edit old a → Applies edit old b → AreAlike a b
Applies-once (AddFile name lines) old a b p q = IfHolds-both p q alike_same alike_same
Applies-once (AddMissing name) old a b p q = alike_same p q
Applies-once (DropFile k) old a b p q = IfHolds-both p q alike_same alike_same
Applies-once (Splice k start count lines) old a b p q =
    IfHolds-both p q alike_same (λ p q.
    IfHolds-both p q alike_same (λ p q.
    IfHolds-both p q alike_same (λ p q.
    IfHolds-both p q alike_same alike_same)))
Applies-once (AddPatterns list) old a b p q = IfHolds-both p q alike_same (Reads-once a b)
Applies-once (DropPattern n) old a b p q = IfHolds-both p q alike_same alike_same
Applies-once (ChangePattern n text) old a b p q = IfHolds-both p q (Reads-once a b) alike_same
Applies-once (SetFlag flag on) old a b p q = Reads-once a b p q
Applies-once (SetSyntax syntax) old a b p q = Reads-once a b p q
Applies-once (SetContext context) old a b p q = alike_same p q

-- ---- one cost

Touches-once : (edit : Edit) (old : Inputs) (a b : Touched) → Touches edit old a → Touches edit old b → a ≡ b
Touches-once (AddFile name lines) old a b p q = same_value p q
Touches-once (Splice k start count lines) old a b p q = same_value p q
Touches-once (AddPatterns list) old a b p q =
    let added = means_one old.syntax old.options (list_of list) p.0 q.0 p.1 q.1 in
    let lines = Chosen-determined (Matched q.0 old.options) _ p.2 q.2 (rw added at p.3) q.3 in
    p.4 ∙ ap (λ l. record { patterns = length (list_of list); paired = all_lines old; lines = l }) lines ∙ sym q.4
Touches-once (DropPattern n) old a b p q =
    let same = IsMeant-determined old.syntax old.options.ignore_case (get_or old.patterns n []) p.0 q.0 p.1 q.1 in
    let lines = Chosen-determined (λ line. Matches q.0 line old.options.line_regexp) _ p.2 q.2 (rw same at p.3) q.3 in
    p.4 ∙ ap parts_alone lines ∙ sym q.4
Touches-once (ChangePattern n text) old a b p q = IfHolds-both p q same_value (λ p q.
    let gone = IsMeant-determined old.syntax old.options.ignore_case (get_or old.patterns n []) p.0 q.0 p.1 q.1 in
    let come = IsMeant-determined old.syntax old.options.ignore_case text p.2 q.2 p.3 q.3 in
    let both : p.0 ∷ p.2 ∷ [] ≡ q.0 ∷ q.2 ∷ [] = λ i. gone i ∷ come i ∷ [] in
    let paired = IfHolds-both p.5 q.5 (λ c d. Chosen-determined (λ line. Matches q.0 line old.options.line_regexp) (all_lines old) p.4 q.4 (rw gone at c) d) same_value in
    let lines = Chosen-determined (Matched (q.0 ∷ q.2 ∷ []) old.options) (all_lines old) p.6 q.6 (rw both at p.7) q.7 in
    p.8 ∙ (λ i. record { patterns = 1; paired = paired i; lines = lines i }) ∙ sym q.8)
Touches-once (SetFlag flag on) old a b p q = IfHolds-both p q same_value same_value
Touches-once (SetSyntax syntax) old a b p q = IfHolds-both p q same_value same_value
Touches-once (SetContext context) old a b p q = same_value p q
Touches-once (AddMissing name) old a b p q = same_value p q
Touches-once (DropFile k) old a b p q = same_value p q

accepted_once : (edit : Edit) (old new : Inputs) (a b : ℕ) → CostsAccepted edit old new a → CostsAccepted edit old new b → a ≡ b
accepted_once edit old new a b p q =
    let es = means_one new.syntax new.options new.patterns p.es q.es p.are_meant q.are_meant in
    let touched = Touches-once edit old p.touched q.touched p.are_touched q.are_touched in
    let mine = rw touched at (rw es at p.are_parted) in
    let parted = Chosen-determined (Matched q.es new.options) q.touched.lines p.parted q.parted mine q.are_parted in
    p.is_sum ∙ (λ i. pairs_cost (touched i).patterns (touched i).paired + pairs_cost (parting (es i) new.options) (parted i)) ∙ sym q.is_sum

costs_once : (edit : Edit) (old : Inputs) (a b : ℕ) → Costs edit old a → Costs edit old b → a ≡ b
costs_once edit old a b p q = by_outcome p.0 q.0 (Applies-once _ _ _ _ p.1 q.1) p.2 q.2
  where
    by_outcome : (o r : Result Inputs EditFault) → AreAlike o r → CostsAs edit old o a → CostsAs edit old r b → a ≡ b
    by_outcome (Ok m) (Ok n) same c d = accepted_once _ _ n a b (rw same at c) d
    by_outcome (Ok m) (Err g) none c d = absurd none
    by_outcome (Err f) (Ok n) none c d = absurd none
    by_outcome (Err f) (Err g) same c d = same_value c d

-- one outcome and one cost
pub edits_are_determined : EditsAreDetermined
edits_are_determined edit old = record { one_outcome = Applies-once edit old; one_cost = costs_once edit old }
