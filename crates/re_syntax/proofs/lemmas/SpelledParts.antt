-- Parts of a text, the tokens that lead through them, and what these spell.
use Rattle.re_syntax.{proofs.Prelude.{◌≡◌, ℕ, suc, max, ◌+◌, ◌≤◌, Bool, true, false, List, [], ◌∷◌, ◌++◌, length, Option, refl, arith, append_assoc, append-nil, Text, Expression, begin, repeat, sequence, choice, most_levels, Syntax, IsSpelled}, specs.{declared.tokens.ItemPlace.{ItemPlace, TheVariants.{First, AfterAnchor, Later}}, Tokens.{Token, opening, closing, bar, lead, atom, times}, FirstFaults.{Around, Context, is_group, IsToken, Cut, whole, next}}}
use Rattle.re_syntax.specs.Spelled as grammar

-- what is known in some groups, at a place and heights
abbrev pub there : List Around → ItemPlace → ℕ → ℕ → Context
there os p n m = record { place = p; last = n; height = m; around = os }

-- tokens that mean something lead from a place of a text on to others, through what has a height
pub data Reads (syntax : Syntax) (g : Bool) (p : ItemPlace) (h : ℕ) (t : Text) (Means : List Token → Type 0) (On : List Around → ℕ → List Token → Type 0) : Type 0 where
  reads : {ks : List Token} → Means ks → ((os : List Around) (n m : ℕ) (ls : List Token) → is_group os ≡ g → h + length os ≤ most_levels → ((l : ℕ) → l ≤ max m h → On os l ls) → Cut syntax (there os p n m) t (ks ++ ls)) →
      Reads syntax g p h t Means On

module _ (syntax : Syntax) (g : Bool) where
  abbrev pub ItemReads : ItemPlace → ℕ → Text → Text → Expression → Type 0
  ItemReads p h t u e = Reads syntax g p h t (λ ks. grammar.Item ks e) (λ os l ls. (k : ℕ) → k ≤ h → Cut syntax (there os Later k l) u ls)

  abbrev pub ItemsRead : ItemPlace → ℕ → Text → Text → List Expression → Type 0
  ItemsRead p h t u es = Reads syntax g p h t (λ ks. grammar.Items ks es) (λ os l ls. (q : ItemPlace) (k : ℕ) → Cut syntax (there os q k l) u ls)

  abbrev pub BranchesRead : ℕ → Text → Text → List Expression → Type 0
  BranchesRead h t u es = Reads syntax g First h t (λ ks. grammar.Branches ks es) (λ os l ls. (q : ItemPlace) (k : ℕ) → Cut syntax (there os q k l) u ls)

module _ {syntax : Syntax} {g : Bool} where
  pub single : {p : ItemPlace} {t u : Text} {e : Expression} → IsToken syntax g p t u (atom e) → ItemReads syntax g p 0 t u e
  single {e = e} x = reads (grammar.single e) (λ os n m ls f fits on. next (rw f x) (λ d. d) (on m (omega arith) 0 (omega arith)))

  pub group : {p : ItemPlace} {h : ℕ} {t u v w : Text} {es : List Expression} → IsToken syntax g p t u opening → BranchesRead syntax true h u v es → ((q : ItemPlace) → IsToken syntax true q v w closing) → ItemReads syntax g p (suc h) t w (choice es)
  group {t = t} {u = u} x (reads {ks} bs f) y = reads (grammar.group bs) (λ os n m ls e fits on. next {u = u} (rw e x) (λ d. omega arith)
      (rw (append_assoc ks (closing ∷ []) ls) (f (record { from = t; height = m } ∷ os) 0 0 (closing ∷ ls) refl (omega arith) (λ l b q k. next (y q) (λ d. d) (on (max m (suc l)) (omega arith) (suc l) (omega arith))))))

  pub repeated : {p : ItemPlace} {h : ℕ} {t u v : Text} {e : Expression} {least : ℕ} {most : Option ℕ} → ItemReads syntax g p h t u e → IsToken syntax g Later u v (times least most) → ItemReads syntax g p (suc h) t v (repeat e least most)
  repeated {least = least} {most = most} (reads {ks} i f) x = reads (grammar.repeated least most i) (λ os n m ls e fits on. rw (append_assoc ks (times least most ∷ []) ls)
      (f os n m (times least most ∷ ls) e (omega arith) (λ l b k c. next (rw e x) (λ d. omega arith) (on (max l (suc k)) (omega arith) (suc k) (omega arith)))))

  pub none : {p : ItemPlace} {t : Text} → ItemsRead syntax g p 0 t t []
  none {p} = reads grammar.none (λ os n m ls e fits on. on m (omega arith) p n)

  pub anchor : {p : ItemPlace} {h : ℕ} {t u v : Text} {es : List Expression} → IsToken syntax g p t u lead → ItemsRead syntax g AfterAnchor h u v es → ItemsRead syntax g p h t v (begin ∷ es)
  anchor x (reads is f) = reads (grammar.anchor is) (λ os n m ls e fits on. next (rw e x) (λ d. d) (f os 0 m ls e fits on))

  pub item : {p : ItemPlace} {h k : ℕ} {t u v : Text} {e : Expression} {es : List Expression} → ItemReads syntax g p h t u e → ItemsRead syntax g Later k u v es → ItemsRead syntax g p (max h k) t v (e ∷ es)
  item (reads {ks} i f) (reads {ks = ms} is r) = reads (grammar.item i is) (λ os n m ls e fits on. rw (append_assoc ks ms ls)
      (f os n m (ms ++ ls) e (omega arith) (λ l b j c. r os j l ls e (omega arith) (λ y d. on y (omega arith)))))

  pub last : {h : ℕ} {t u : Text} {es : List Expression} → ItemsRead syntax g First h t u es → BranchesRead syntax g h t u (sequence es ∷ [])
  last (reads is f) = reads (grammar.last is) f

  pub more : {h k : ℕ} {t u v w : Text} {es fs : List Expression} → ItemsRead syntax g First h t u es → ((q : ItemPlace) → IsToken syntax g q u v bar) → BranchesRead syntax g k v w fs → BranchesRead syntax g (max h k) t w (sequence es ∷ fs)
  more (reads {ks} is f) x (reads {ks = ms} bs r) = reads (grammar.more is bs) (λ os n m ls e fits on. rw (append_assoc ks (bar ∷ ms) ls)
      (f os n m (bar ∷ ms ++ ls) e (omega arith) (λ l b q j. next (rw e (x q)) (λ d. d) (r os 0 l ls e (omega arith) (λ y d. on y (omega arith))))))

-- what is read up to the text's end is spelled
pub spells : {syntax : Syntax} {h : ℕ} {t : Text} {es : List Expression} → BranchesRead syntax false h t [] es → h ≤ most_levels → IsSpelled syntax t (choice es)
spells (reads {ks} bs f) fits = grammar.by_tokens (rw (append-nil ks) at (f [] 0 0 [] refl (omega arith) (λ l b q k. whole refl))) bs
