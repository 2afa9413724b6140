-- Tokens have one meaning: what a machine builds of them, one after another. Each whole cut has one.
use Rattle.re_syntax.{proofs.Prelude.{◌≡◌, ℕ, zero, suc, Bool, true, length, List, [], ◌∷◌, ◌++◌, Option, refl, sym, ap, ◌∙◌, subst, append_assoc, append-nil, Text, Expression, begin, repeat, sequence, choice, Syntax, Basic, Extended, Fixed}, specs.{declared.tokens.ItemPlace.{ItemPlace, TheVariants.{First, AfterAnchor, Later}}, Tokens.{Token, opening, closing, bar, lead, atom, times}, FirstFaults.{Around, Context, is_group, closed_group, IsToken, Cut, whole, next, IsCut}, Spelled.{Branches, last, more, Items, none, anchor, item, Item, single, group, repeated}, Working.Builds.{Frame, Built, nothing_built, repeat_last, branches_of, with_item, build, build_all}}}
use Rattle.re_syntax.specs.BasicTokens as basic
use Rattle.re_syntax.specs.ExtendedTokens as extended

pub build-append : (ks ls : List Token) (b : Built) → build_all (ks ++ ls) b ≡ build_all ls (build_all ks b)
unfolding build_all
build-append [] _ b = refl
build-append (k ∷ ks) ls b = build-append ks ls _

pub build-one : (k : Token) (b : Built) → build_all (k ∷ []) b ≡ build k b
unfolding build_all
build-one k b = refl

build-more : (k : Token) (ks : List Token) (b : Built) → build_all (k ∷ ks) b ≡ build_all ks (build k b)
unfolding build_all
build-more k _ b = refl

build-none : (b : Built) → build_all [] b ≡ b
unfolding build_all
build-none b = refl

-- the last of some items repeated
pub repeat-snoc : (least : ℕ) (most : Option ℕ) (es : List Expression) (e : Expression) → repeat_last least most (es ++ e ∷ []) ≡ es ++ repeat e least most ∷ []
repeat-snoc _ _ [] e = refl
repeat-snoc _ _ (d ∷ []) e = refl
repeat-snoc least most (d ∷ f ∷ es) e = ap (λ xs. d ∷ xs) (repeat-snoc least most (f ∷ es) e)

abbrev built_of : List Expression → List Frame → List Expression → Built
built_of bs outer is = record { level = record { branches = bs; items = is }; outer = outer }

-- the same with more items
abbrev plus : List Expression → Built → Built
plus es b = built_of b.level.branches b.outer (b.level.items ++ es)

-- the level that tokens build after some branches, and its branches
record IsLevel (bs : List Expression) (outer : List Frame) (ks : List Token) (es : List Expression) : Type 0 where
  pub level : Frame
  pub is : build_all ks (built_of bs outer []) ≡ record { level = level; outer = outer }
  pub are : branches_of level ≡ bs ++ es

mutual
  items-built : {ks : List Token} {es : List Expression} → Items ks es → (b : Built) → build_all ks b ≡ plus es b
  items-built none b = build-none b ∙ ap (built_of b.level.branches b.outer) (sym (append-nil b.level.items))
  items-built (anchor {ks} {es} is) b =
      build-more lead ks b ∙ items-built is (build lead b) ∙ ap (built_of b.level.branches b.outer) (append_assoc b.level.items (begin ∷ []) es)
  items-built (item {ks} {ls} {es} {e} i is) b =
      build-append ks ls b ∙ ap (build_all ls) (item-built i b) ∙ items-built is (plus (e ∷ []) b)
      ∙ ap (built_of b.level.branches b.outer) (append_assoc b.level.items (e ∷ []) es)

  item-built : {ks : List Token} {e : Expression} → Item ks e → (b : Built) → build_all ks b ≡ plus (e ∷ []) b
  item-built (single e) b = build-one (atom e) b
  item-built (group {ks} {es} bs) b =
      let inside = branches-built bs in
      build-more opening (ks ++ closing ∷ []) b ∙ build-append ks (closing ∷ []) (build opening b) ∙ ap (build_all (closing ∷ [])) inside.is
      ∙ build-one closing (record { level = inside.level; outer = b.level ∷ b.outer })
      ∙ ap (λ xs. record { level = with_item (choice xs) b.level; outer = b.outer }) inside.are
  item-built (repeated {ks} {e} least most i) b =
      build-append ks (times least most ∷ []) b ∙ ap (build_all (times least most ∷ [])) (item-built i b) ∙ build-one (times least most) (plus (e ∷ []) b)
      ∙ ap (built_of b.level.branches b.outer) (repeat-snoc least most b.level.items e)

  branches-built : {ks : List Token} {es : List Expression} → Branches ks es → {bs : List Expression} {outer : List Frame} → IsLevel bs outer ks es
  branches-built (last {es = es} is) {bs} {outer} = record { level = record { branches = bs; items = es }; is = items-built is (built_of bs outer []); are = refl }
  branches-built (more {ks} {ls} {es} {fs} is rest) {bs} {outer} =
      let others = branches-built rest in
      record {
        level = others.level;
        is = build-append ks (bar ∷ ls) (built_of bs outer []) ∙ ap (build_all (bar ∷ ls)) (items-built is (built_of bs outer [])) ∙ build-more bar ls (built_of bs outer es) ∙ others.is;
        are = others.are ∙ append_assoc bs (sequence es ∷ []) fs;
      }

pub branches-unique : {ks : List Token} {ds es : List Expression} → Branches ks ds → Branches ks es → ds ≡ es
branches-unique x y =
    let p = branches-built x {bs = []} {outer = []} in
    let q = branches-built y in
    sym p.are ∙ ap (λ b. branches_of b.level) (sym p.is ∙ q.is) ∙ q.are

-- Each whole cut has a meaning: what the rest of its tokens mean at a place.

record Means (ks : List Token) : Type 0 where
  pub branches : List Expression
  pub read : Branches ks branches

-- one item more in front; an anchor more; one branch more
item_first : {ls ks : List Token} {e : Expression} {es : List Expression} → Item ls e → Branches ks es → Means (ls ++ ks)
item_first i (last is) = record { branches = _; read = last (item i is) }
item_first {ls} i (more {ks} {ls = ms} is bs) = rw (← (append_assoc ls ks (bar ∷ ms))) (record { branches = _; read = more (item i is) bs })

anchor_first : {ks : List Token} {es : List Expression} → Branches ks es → Means (lead ∷ ks)
anchor_first (last is) = record { branches = _; read = last (anchor is) }
anchor_first (more is bs) = record { branches = _; read = more (anchor is) bs }

-- the rest of a level has a meaning; after an item it has one with any item
abbrev MeansAt : ItemPlace → List Token → Type 0
MeansAt First ks = Means ks
MeansAt AfterAnchor ks = Means ks
MeansAt Later ks = (ls : List Token) (e : Expression) → Item ls e → Means (ls ++ ks)

means_at : (p : ItemPlace) {ks : List Token} → Means ks → MeansAt p ks
means_at First m = m
means_at AfterAnchor m = m
means_at Later m = λ ls e i. item_first i m.read

-- the rest of the text, where so many groups are open
abbrev MeansIn : ℕ → ItemPlace → List Token → Type 0
MeansIn zero p ks = MeansAt p ks
MeansIn (suc n) p ks = (inside : List Token) × (others : List Token) × (ks ≡ inside ++ closing ∷ others) × MeansAt p inside × MeansIn n Later others

-- some tokens more in front
more_first : (n : ℕ) (ms : List Token) (p q : ItemPlace) (ks : List Token) → ((ls : List Token) → MeansAt p ls → MeansAt q (ms ++ ls)) → MeansIn n p ks → MeansIn n q (ms ++ ks)
more_first zero _ p q ks f m = f ks m
more_first (suc n) ms p q ks f (inside, others, e, m, rest) = (ms ++ inside, others, ap (λ ks. ms ++ ks) e ∙ sym (append_assoc ms inside (closing ∷ others)), f inside m, rest)

item_in : (n : ℕ) {ms : List Token} (p : ItemPlace) {e : Expression} (ks : List Token) → Item ms e → MeansIn n Later ks → MeansIn n p (ms ++ ks)
item_in n {ms} p {e} ks i = more_first n ms Later p ks (λ ls m. means_at p (m ms e i))

times_in : (n : ℕ) {p : ItemPlace} (least : ℕ) (most : Option ℕ) (ks : List Token) → p ≡ Later → MeansIn n Later ks → MeansIn n p (times least most ∷ ks)
times_in n least most ks q m =
    rw q
    (more_first n (times least most ∷ []) Later Later ks (λ ms f ls e i. rw (append_assoc ls (times least most ∷ []) ms) at (f (ls ++ times least most ∷ []) (repeat e least most) (repeated least most i))) m)

opening_in : (n : ℕ) (p : ItemPlace) {ks : List Token} → MeansIn (suc n) First ks → MeansIn n p (opening ∷ ks)
opening_in n p (inside, others, e, m, rest) =
    rw (append_assoc inside (closing ∷ []) others ∙ sym e) at (item_in n p _ (group m.read) rest)

closing_in : (os : List Around) (c : Context) (p : ItemPlace) (h : ℕ) (ks : List Token) → is_group os ≡ true → MeansIn (length (closed_group h os c).around) (closed_group h os c).place ks → MeansIn (length os) p (closing ∷ ks)
closing_in [] c p h ks e m = absurd (cc)
closing_in (a ∷ os) c p h ks e m = ([], ks, refl, means_at p (record { branches = _; read = last none }), m)

end_in : (os : List Around) (p : ItemPlace) → os ≡ [] → MeansIn (length os) p []
end_in [] p e = means_at p (record { branches = _; read = last none })
end_in (a ∷ os) p e = absurd (cc)

-- a closing is in a group, and a duplication follows an item
in_group : (syntax : Syntax) (g : Bool) (p : ItemPlace) (t u : Text) → IsToken syntax g p t u closing → g ≡ true
in_group Basic _ _ _ _ (basic.closes h) = h
in_group Extended _ _ _ _ (extended.closes h) = h
in_group Fixed _ _ _ _ x = elim x [ ]

after_item : (syntax : Syntax) (g : Bool) (p : ItemPlace) (t u : Text) (least : ℕ) (most : Option ℕ) → IsToken syntax g p t u (times least most) → p ≡ Later
after_item Basic _ _ _ _ _ _ (basic.repeats h d) = h
after_item Extended _ _ _ _ _ _ (extended.repeats h d) = h
after_item Fixed _ _ _ _ _ _ x = elim x [ ]

cut_means : {syntax : Syntax} {c : Context} {t : Text} {ks : List Token} → Cut syntax c t ks → MeansIn (length c.around) c.place ks
cut_means {c = c} (whole e) = end_in c.around c.place e
cut_means {c = c} (next {k = opening} x n y) = opening_in (length c.around) c.place (cut_means y)
cut_means {syntax} {c} (next {k = closing} x n y) = closing_in c.around c c.place (suc c.height) _ (in_group syntax _ _ _ _ x) (cut_means y)
cut_means {c = c} (next {k = bar} x n y) = more_first (length c.around) (bar ∷ []) First c.place _ (λ ls m. means_at c.place (record { branches = _; read = more none m.read })) (cut_means y)
cut_means {c = c} (next {k = lead} x n y) = more_first (length c.around) (lead ∷ []) AfterAnchor c.place _ (λ ls m. means_at c.place (anchor_first m.read)) (cut_means y)
cut_means {c = c} (next {k = atom e} x n y) = item_in (length c.around) c.place _ (single e) (cut_means y)
cut_means {syntax} {c} (next {k = times least most} x n y) = times_in (length c.around) least most _ (after_item syntax _ _ _ _ _ _ x) (cut_means y)

-- what is built of a whole cut are its branches
pub cut_branches : {syntax : Syntax} {text : Text} {ks : List Token} → IsCut syntax text ks → Branches ks (branches_of (build_all ks nothing_built).level)
cut_branches {ks = ks} x =
    let means = cut_means x in
    let built = branches-built means.read in
    subst (Branches ks) (sym (ap (λ b. branches_of b.level) built.is ∙ built.are)) means.read
