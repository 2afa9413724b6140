-- What is known at a place of a text, after one token more.
use Rattle.{re_syntax.{proofs.{Prelude.{zero, ◌⊎◌, ◌-◌, inl, inr, cases_lt, nat_lt, lt-ltb, drop-length, begin, append_assoc, append-nil, ◌≡◌, ◌≢◌, ℕ, suc, ◌+◌, ◌*◌, ◌<◌, ◌≤◌, max, List, [], ◌∷◌, ◌++◌, Option, length, length-append, drop, refl, sym, ap, ◌∙◌, subst, arith, TooDeep, UnclosedGroup, PatternFault, Syntax, Text, Expression, positions, cat, alt, choice, sequence, up_to_word, most_levels}, lemmas.{Built.{build-append, build-one}, Mirrored.{partner, none_mirrors, as_many}}}, specs.{declared.{shape.{OpenGroup.OpenGroup, Shape.Shape}, tokens.ItemPlace.{ItemPlace, TheVariants.{First, AfterAnchor, Later}}}, Tokens.{Token, opening, closing, bar, lead, atom, times}, Faults.IsAt, FirstFaults.{Around, Context, start, is_group, after, closed_group, whole, next, FirstFault, no_token, too_deep, unclosed, later, IsToken, IsTokenFault, IsFirstFault}, Working.{Builds.{Frame, Built, build_all, nothing_built, branches_of, repeat_last, left_group, with_item, level_positions, last_positions, rest_positions}, Mirrors.{Mirrors, neither, both}, ShapeSteps.{IsAround, Shows, Counts, Takes, Refuses, Reaches, Ends, EndsOpen}, TokenSteps.{Stands, token_of}}}}, std.specs.Prelude.◌^◌, re_trees.specs.Holds.copies}
use Rattle.re_syntax.specs.declared.tokens.Token.{Token as Read}

-- Positions.

-- a choice has as many positions as the sequence of its branches
positions-alt : (es : List Expression) → positions (alt es) ≡ positions (cat es)
positions-alt [] = refl
positions-alt (e ∷ es) = rw (positions-alt es)

-- the positions with one more member
positions-more : (es : List Expression) (e : Expression) → positions (cat (es ++ (e ∷ []))) ≡ positions (cat es) + positions e
positions-more [] e = omega arith
positions-more (f ∷ es) e = omega (arith, positions-more es e)

-- the positions of branches as one expression
pub positions-choice : (es : List Expression) → positions (choice es) ≡ positions (cat es)
positions-choice [] = refl
positions-choice (e ∷ []) = omega arith
positions-choice (e ∷ f ∷ es) = positions-alt (e ∷ f ∷ es)

-- those of a sequence are those of its items
positions-sequence : (es : List Expression) → positions (sequence es) ≡ positions (cat es)
positions-sequence [] = refl
positions-sequence (e ∷ []) = omega arith
positions-sequence (e ∷ f ∷ es) = refl

-- those of branches
pub positions-branches : (l : Frame) → positions (cat (branches_of l)) ≡ level_positions l
positions-branches l = cc (positions-more _ _, positions-sequence _)

-- the last item and those before it are all
rest-and-last : (es : List Expression) → rest_positions es + last_positions es ≡ positions (cat es)
rest-and-last [] = refl
rest-and-last (e ∷ []) = omega arith
rest-and-last (e ∷ f ∷ es) = omega (arith, rest-and-last (f ∷ es))

rest-snoc : (es : List Expression) (e : Expression) → rest_positions (es ++ e ∷ []) ≡ positions (cat es)
rest-snoc [] e = refl
rest-snoc (d ∷ []) e = omega arith
rest-snoc (d ∷ f ∷ es) e = omega (arith, rest-snoc (f ∷ es) e)

last-snoc : (es : List Expression) (e : Expression) → last_positions (es ++ e ∷ []) ≡ positions e
last-snoc [] e = refl
last-snoc (d ∷ []) e = refl
last-snoc (d ∷ f ∷ es) e = last-snoc (f ∷ es) e

rest-repeated : (least : ℕ) (most : Option ℕ) (es : List Expression) → rest_positions (repeat_last least most es) ≡ rest_positions es
rest-repeated _ _ [] = refl
rest-repeated _ _ (e ∷ []) = refl
rest-repeated _ _ (e ∷ f ∷ []) = refl
rest-repeated least most (e ∷ f ∷ g ∷ es) = ap (λ n. positions e + n) (rest-repeated least most (f ∷ g ∷ es))

last-repeated : (least : ℕ) (most : Option ℕ) (es : List Expression) → last_positions (repeat_last least most es) ≡ copies least most * last_positions es
last-repeated least most [] = omega arith
last-repeated _ _ (e ∷ []) = refl
last-repeated _ _ (e ∷ f ∷ []) = refl
last-repeated least most (e ∷ f ∷ g ∷ es) = last-repeated least most (f ∷ g ∷ es)

-- a product of a word that keeps only the greatest
times_up : (c n : ℕ) → up_to_word (c * up_to_word n) ≡ up_to_word (c * n)
times_up zero n = omega arith
times_up (suc c) n = go (cases_lt (2 ^ 64 - 1) n)
  where
    go : (2 ^ 64 - 1 < n) ⊎ (n ≤ 2 ^ 64 - 1) → up_to_word (suc c * up_to_word n) ≡ up_to_word (suc c * n)
    go (inl h) = let e : up_to_word n ≡ 2 ^ 64 - 1 = omega arith in rw e (omega arith)
    go (inr h) = let e : up_to_word n ≡ n = omega arith in rw e refl

-- the positions of a level together
counted : {shape : Shape} {b : Built} → Counts shape b → up_to_word (shape.before + shape.item) ≡ up_to_word (level_positions b.level)
counted {b = b} h = omega (arith, h.before, h.item, rest-and-last b.level.items)

-- Tokens that are taken.

-- a group was opened
pub group_taken : {at p n : ℕ} {old new : Shape} → n ≡ length old.groups.items → n ≢ most_levels → n ≤ most_levels → p ≡ up_to_word (old.before + old.item) →
    new.place ≡ First → new.last ≡ 0 → new.height ≡ 0 → new.before ≡ 0 → new.item ≡ 0 →
    new.groups.items ≡ old.groups.items ++ record { opening = at; height = old.height; positions = p } ∷ [] → Takes opening at old new
group_taken {at} {p} {old} count room fits q place last height before none e =
    let more = ap length e ∙ length-append old.groups.items (record { opening = at; height = old.height; positions = p } ∷ []) in
    record {
      shows = λ text c within s. (
        λ d. omega (arith, as_many s.around),
        record {
          place_is = place;
          last_is = last;
          height_is = height;
          around = both (record { opening = at; height = old.height; positions = p }) s.around
              (record { is = rw (← s.height_is); within = within; fits = s.bounded.height_fits }) e;
          bounded = record { last_fits = omega arith; height_fits = omega arith };
        },
      );
      counts = λ b h. record { before = before; item = none; around = both (record { opening = at; height = old.height; positions = p }) h.around (q ∙ counted h) e };
    }

pub group_refused : {at : ℕ} {shape : Shape} {fault : PatternFault} {n : ℕ} → n ≡ length shape.groups.items → n ≡ most_levels → fault ≡ record { kind = TooDeep; at = at } → Refuses opening at shape fault
group_refused count full e = record { fault_is = e; deep = λ text c s. omega (arith, as_many s.around) }

-- an item was repeated
pub item_taken : {at n m : ℕ} {old new : Shape} (least : ℕ) (most : Option ℕ) → n ≡ length old.groups.items → old.last + n < most_levels → m ≡ up_to_word (copies least most * old.item) →
    new.place ≡ Later → new.last ≡ old.last + 1 → new.height ≡ max old.height (old.last + 1) → new.before ≡ old.before → new.item ≡ m → new.groups.items ≡ old.groups.items →
    Takes (times least most) at old new
item_taken least most count room product place last height before item' e = record {
  shows = λ text c within s. (
    λ d. omega (arith, as_many s.around, s.last_is),
    record {
      place_is = place;
      last_is = omega (arith, s.last_is);
      height_is = omega (arith, s.height_is, s.last_is);
      around = rw e s.around;
      bounded = record { last_fits = omega (arith, ap length e); height_fits = omega (arith, ap length e, s.bounded.height_fits) };
    },
  );
  counts = λ b h. record {
    before = cc (h.before, rest-repeated _ _ _);
    item = item' ∙ product ∙ ap (λ k. up_to_word (copies least most * k)) h.item ∙ times_up (copies least most) (last_positions b.level.items) ∙ ap up_to_word (sym (last-repeated least most b.level.items));
    around = rw e h.around;
  };
}

pub item_refused : {at : ℕ} {shape : Shape} {fault : PatternFault} {n : ℕ} (least : ℕ) (most : Option ℕ) → n ≡ length shape.groups.items → most_levels ≤ shape.last + n → fault ≡ record { kind = TooDeep; at = at } →
    Refuses (times least most) at shape fault
item_refused least most count full e = record { fault_is = e; deep = λ text c s. omega (arith, as_many s.around, s.last_is) }

-- a group was closed
pub group_left : {at p : ℕ} {old new : Shape} (last : OpenGroup) → old.groups.items ≡ new.groups.items ++ last ∷ [] → p ≡ up_to_word (old.before + old.item) → new.place ≡ Later → new.last ≡ old.height + 1 →
    new.height ≡ max last.height (old.height + 1) → new.before ≡ last.positions → new.item ≡ p → Takes closing at old new
group_left {at} {old} {new} last e q place l height before item' = record { shows = λ text c within s. (λ d. d, shown text c s); counts = counts }
  where
    shown : (text : Text) (c : Context) → Shows text old c → Shows text new (after (drop at text) closing c)
    shown text c s =
        let inner = partner s.around e in
        let fewer = ap length e ∙ length-append new.groups.items (last ∷ []) in
        rw inner.are (record {
          place_is = place;
          last_is = omega (arith, s.height_is);
          height_is = omega (arith, s.height_is, ap (λ a. a.height) inner.is.is);
          around = inner.mirrors;
          bounded = record { last_fits = omega (arith, s.bounded.height_fits); height_fits = omega (arith, s.bounded.height_fits, inner.is.fits) };
        })

    counts : (b : Built) → Counts old b → Counts new (left_group b.level b.outer)
    counts b h =
        let inner = partner h.around e in
        let x = choice (branches_of b.level) in
        rw inner.are (record {
          before = cc (inner.is, rest-snoc _ x);
          item = item' ∙ q ∙ counted h ∙ ap up_to_word (sym (last-snoc inner.first.items x ∙ positions-choice (branches_of b.level) ∙ positions-branches b.level));
          around = inner.mirrors;
        })

-- none was open
pub none_left : {at : ℕ} {shape : Shape} → shape.groups.items ≡ [] → Takes closing at shape shape
none_left {shape} e = record {
  shows = λ text c within s. (λ d. d, subst (λ os. Shows text shape (closed_group (suc c.height) os c)) (sym (none_mirrors s.around e)) s);
  counts = λ b h.
      let none = none_mirrors h.around e in
      rw none (record { before = h.before; item = h.item; around = rw none at h.around });
}

-- a token without a height was taken
flat : {text : Text} {c : Context} {old new : Shape} {place : ItemPlace} {m n : ℕ} → new ≡ record old { place = place; last = 0; before = m; item = n } → Shows text old c →
    Shows text new (record { place = place; last = 0; height = c.height; around = c.around })
flat e s = rw e
    (record { place_is = refl; last_is = refl; height_is = s.height_is; around = s.around; bounded = record { last_fits = omega (arith, s.bounded.height_fits); height_fits = s.bounded.height_fits } })

pub bar_taken : {at : ℕ} {old new : Shape} → new ≡ record old { place = First; last = 0; before = up_to_word (old.before + old.item); item = 0 } → Takes bar at old new
bar_taken e = record {
  shows = λ text c within s. (λ d. d, flat e s);
  counts = λ b h. rw e
      (record { before = counted h ∙ ap up_to_word (sym (positions-branches b.level) ∙ omega arith); item = refl; around = h.around });
}

-- an item without parts was taken
one_taken : {old new : Shape} {place : ItemPlace} {n : ℕ} {b : Built} (e : Expression) → new ≡ record old { place = place; last = 0; before = up_to_word (old.before + old.item); item = n } →
    n ≡ up_to_word (positions e) → Counts old b → Counts new (record { level = with_item e b.level; outer = b.outer })
one_taken x e p h = rw e (record {
  before = cc (counted h, rest-snoc _ x);
  item = cc (last-snoc _ x);
  around = h.around;
})

pub lead_taken : {at : ℕ} {old new : Shape} → new ≡ record old { place = AfterAnchor; last = 0; before = up_to_word (old.before + old.item); item = 0 } → Takes lead at old new
lead_taken e = record { shows = λ text c within s. (λ d. d, flat e s); counts = λ b h. one_taken begin e refl h }

pub atom_taken : {at n : ℕ} (x : Expression) {old new : Shape} → n ≡ positions x → n ≤ 1 → new ≡ record old { place = Later; last = 0; before = up_to_word (old.before + old.item); item = n } → Takes (atom x) at old new
atom_taken x p few e = record { shows = λ text c within s. (λ d. d, flat e s); counts = λ b h. one_taken x e (omega arith) h }

-- What was read.

-- whether a group is open
open_is : {text : Text} {shape : Shape} {c : Context} → Shows text shape c → {n : ℕ} → n ≡ length shape.groups.items → is_group c.around ≡ nat_lt 0 n
open_is s {n} e = go s.around n e
  where
    go : {text : Text} {gs : List OpenGroup} {os : List Around} → Mirrors (IsAround text) gs os → (n : ℕ) → n ≡ length gs → is_group os ≡ nat_lt 0 n
    go neither n e = rw e refl
    go (both {xs = gs} g a h f) n e = sym (lt-ltb 0 n (omega (arith, ap length f, length-append gs (g ∷ []))))

module _ {syntax : Syntax} {text : Text} {at : ℕ} {old : Shape} {done : List Token} (r : Reaches syntax text at old done) (n : ℕ) (is_open : n ≡ length old.groups.items) where
  here : {token : Read} {beyond : ℕ} → Stands syntax (nat_lt 0 n) old.place text at token beyond → IsToken syntax (is_group r.context.around) r.context.place (drop at text) (drop beyond text) (token_of token)
  here t = rw (open_is r.shows is_open)
      (rw r.shows.place_is at t.stands)

  -- a token was read and taken
  pub reaches_on : {token : Read} {beyond : ℕ} {new : Shape} → Stands syntax (nat_lt 0 n) old.place text at token beyond → Takes (token_of token) at old new →
      Reaches syntax text beyond new (done ++ token_of token ∷ [])
  reaches_on {token} t k =
      let (light, shows) = k.shows text r.context r.within r.shows in
      record {
        within = t.within;
        context = after (drop at text) (token_of token) r.context;
        shows = shows;
        cut = λ ks x. rw (append_assoc done (token_of token ∷ []) ks) (r.cut (token_of token ∷ ks) (next (here t) light x));
        fault = λ kind from x. r.fault kind from (later _ (here t) light x);
        counts = rw (build-append _ _ _ ∙ build-one (token_of token) (build_all done nothing_built)) (k.counts (build_all done nothing_built) r.counts);
      }

  -- no token is there
  pub fault_met : {fault : PatternFault} → IsAt (IsTokenFault syntax (nat_lt 0 n) old.place (drop at text)) text fault → IsFirstFault syntax text fault
  fault_met {fault} h = record {
    within = h.within;
    is_fault = r.fault _ _ (no_token (rw (open_is r.shows is_open)
        (rw r.shows.place_is at h.is_fault)));
  }

  -- the token goes too deep
  pub deep_met : {token : Read} {beyond : ℕ} {fault : PatternFault} → Stands syntax (nat_lt 0 n) old.place text at token beyond → Refuses (token_of token) at old fault → IsFirstFault syntax text fault
  deep_met {fault} t h =
      rw h.fault_is (record { within = r.within; is_fault = r.fault TooDeep (drop at text) (too_deep _ _ (here t) (h.deep text r.context r.shows)) })

-- the text begins
pub reaches_start : (syntax : Syntax) (text : Text) {shape : Shape} → ((text : Text) → Shows text shape start) → Counts shape nothing_built → Reaches syntax text 0 shape []
unfolding build_all
reaches_start syntax text s h = record { within = omega arith; context = start; shows = s text; cut = λ ks x. x; fault = λ kind from x. x; counts = h }

-- the text ends
pub at_end : {syntax : Syntax} {text : Text} {at : ℕ} {shape : Shape} {done : List Token} → Reaches syntax text at shape done → length text ≤ at → Reaches syntax text (length text) shape done
at_end {syntax} {text} {at} {shape} {done} r h = subst (λ n. Reaches syntax text n shape done) (omega (arith, h, r.within)) r

pub ends_whole : {shape : Shape} {count : ℕ} → count ≡ up_to_word (shape.before + shape.item) → shape.groups.items ≡ [] → Ends shape count
ends_whole e none = record {
  ends = λ syntax text done r. (
    rw (append-nil done) at (r.cut [] (rw (drop-length text) (whole (none_mirrors r.shows.around none)))),
    e ∙ counted r.counts,
  );
}

pub ends_open : (shape : Shape) (fault : PatternFault) (others : List OpenGroup) (last : OpenGroup) → shape.groups.items ≡ others ++ last ∷ [] → fault ≡ record { kind = UnclosedGroup; at = last.opening } → EndsOpen shape fault
ends_open _ fault _ last e f = record {
  ends = λ syntax text done r.
      let inner = partner r.shows.around e in
      subst (IsFirstFault syntax text) (sym f) (record {
        within = inner.is.within;
        is_fault = r.fault UnclosedGroup (drop last.opening text) (subst (λ t. FirstFault syntax r.context t UnclosedGroup (drop last.opening text)) (sym (drop-length text))
            (subst (FirstFault syntax r.context [] UnclosedGroup) (ap (λ a. a.from) inner.is.is) (unclosed inner.are)));
      });
}
