-- Lists of hits that are others, but that some may lack their text.
use Rattle.{grep_cmd.proofs.Prelude.{◌≡◌, ℕ, ◌+◌, Bool, true, false, true≢false, cond, List, [], ◌∷◌, map, if◌then◌else◌, refl, sym, ap, subst, inl, inr, nat_lt, nat_le, ◌⊎◌, AllZip, filter, Hit, View, Change, after, after_each, all_after, moved, is_idle, spliced_hits, view_after, Edit, AddFile, AddMissing, DropFile, Splice, ChangePattern, DropPattern, SetFlag, SetSyntax, SetContext, read_hit, read_change, MayLackText, AreButTexts}, grep_session.{specs.Edits.AddPatterns, proofs.lemmas.DroppingLemmas.AllZip-remove}, grep_core.proofs.lemmas.MatcherLemmas.AllZip-append, std.proofs.lemmas.List.Elements.same_from_all_zip}

zip_weaker : {A B : Type 0} (R S : A → B → Type 0) → ((x : A) (y : B) → R x y → S x y) → (xs : List A) (ys : List B) → AllZip R xs ys → AllZip S xs ys
zip_weaker R S step [] [] all = tt
zip_weaker R S step [] (y ∷ ys) all = absurd all
zip_weaker R S step (x ∷ xs) [] all = absurd all
zip_weaker R S step (x ∷ xs) (y ∷ ys) all = (step x y all.0, zip_weaker R S step xs ys all.1)

module _ (Lost : Type 0) where
  -- texts are written, or some may be lost
  abbrev pub Kept : Bool → Type 0
  Kept texts = (texts ≡ true) ⊎ Lost

  -- a hit is another, or that without its text
  abbrev pub IsAs : Hit → Hit → Type 0
  IsAs hit other = (hit ≡ other) ⊎ (Lost × (hit ≡ record other { text = [] }))

  abbrev pub AreAs : List Hit → List Hit → Type 0
  AreAs hits others = AllZip IsAs hits others

  abbrev pub ViewsAs : View → View → Type 0
  ViewsAs view others = AllZip AreAs view others

  same_place : (hit other : Hit) → IsAs hit other → hit.place ≡ other.place
  same_place hit other (inl e) = ap (λ (h : Hit). h.place) e
  same_place hit other (inr (lost, e)) = ap (λ (h : Hit). h.place) e

  -- the hits at some places
  as_filtered : (test : ℕ → Bool) (hits others : List Hit) → AreAs hits others → AreAs (filter (λ hit. test hit.place) hits) (filter (λ hit. test hit.place) others)
  as_filtered test [] [] alike = tt
  as_filtered test [] (other ∷ others) alike = absurd alike
  as_filtered test (hit ∷ hits) [] alike = absurd alike
  as_filtered test (hit ∷ hits) (other ∷ others) (one, alike) =
      let rest = as_filtered test hits others alike in
      subst (λ (b : Bool). AreAs (cond (test hit.place) (hit ∷ filter (λ h. test h.place) hits) (filter (λ h. test h.place) hits)) (cond b (other ∷ filter (λ h. test h.place) others) (filter (λ h. test h.place) others)))
      (ap test (same_place hit other one)) (by_test (test hit.place) rest)
    where
      by_test : (b : Bool) → AreAs (filter (λ h. test h.place) hits) (filter (λ h. test h.place) others) → AreAs (cond b (hit ∷ filter (λ h. test h.place) hits) (filter (λ h. test h.place) hits)) (cond b (other ∷ filter (λ h. test h.place) others) (filter (λ h. test h.place) others))
      by_test true rest = (one, rest)
      by_test false rest = rest

  one_moved : (from to : ℕ) (hit other : Hit) → IsAs hit other → IsAs (moved from to hit) (moved from to other)
  one_moved from to hit other (inl e) = inl (ap (moved from to) e)
  one_moved from to hit other (inr (lost, e)) = inr (lost, ap (moved from to) e)

  as_moved : (from to : ℕ) (hits others : List Hit) → AreAs hits others → AreAs (map (moved from to) hits) (map (moved from to) others)
  as_moved from to [] [] alike = tt
  as_moved from to [] (other ∷ others) alike = absurd alike
  as_moved from to (hit ∷ hits) [] alike = absurd alike
  as_moved from to (hit ∷ hits) (other ∷ others) (one, alike) = (one_moved from to hit other one, as_moved from to hits others alike)

  -- the hits of rows
  one_read : (texts : Bool) → Kept texts → (hit : Hit) → IsAs (read_hit texts hit) hit
  one_read true kept hit = inl refl
  one_read false (inl e) hit = absurd (true≢false (sym e))
  one_read false (inr lost) hit = inr (lost, refl)

  module _ (texts : Bool) (kept : Kept texts) where
    as_read : (hits : List Hit) → AreAs (map (read_hit texts) hits) hits
    as_read [] = tt
    as_read (hit ∷ hits) = (one_read texts kept hit, as_read hits)

    -- the list of a file after a change
    as_after : (change : Change) (hits others : List Hit) → AreAs hits others → AreAs (after (read_change texts change) hits) (after change others)
    as_after change hits others alike = by_idle (is_idle change)
      where
        front : AreAs (filter (λ hit. nat_lt hit.place change.front) hits) (filter (λ hit. nat_lt hit.place change.front) others)
        front = as_filtered (λ place. nat_lt place change.front) hits others alike

        back : AreAs (map (moved (change.front + change.removed) (change.front + change.added)) (filter (λ hit. nat_le (change.front + change.removed) hit.place) hits)) (map (moved (change.front + change.removed) (change.front + change.added)) (filter (λ hit. nat_le (change.front + change.removed) hit.place) others))
        back = as_moved (change.front + change.removed) (change.front + change.added) _ _ (as_filtered (λ place. nat_le (change.front + change.removed) place) hits others alike)

        by_idle : (idle : Bool) → AreAs (if idle then hits else spliced_hits change.front change.removed change.added (map (read_hit texts) change.come) hits) (if idle then others else spliced_hits change.front change.removed change.added change.come others)
        by_idle true = alike
        by_idle false = AllZip-append IsAs _ _ _ _ front (AllZip-append IsAs _ _ _ _ (as_read change.come) back)

    as_after_each : (changes : List Change) (hits others : List Hit) → AreAs hits others → AreAs (after_each (map (read_change texts) changes) hits) (after_each changes others)
    as_after_each [] hits others alike = alike
    as_after_each (change ∷ changes) hits others alike = as_after_each changes (after (read_change texts change) hits) (after change others) (as_after change hits others alike)

    pub as_all_after : (changes : List (List Change)) (view others : View) → ViewsAs view others → ViewsAs (all_after (map (map (read_change texts)) changes) view) (all_after changes others)
    as_all_after [] view others alike = tt
    as_all_after (own ∷ changes) [] [] alike = tt
    as_all_after (own ∷ changes) [] (other ∷ others) alike = absurd alike
    as_all_after (own ∷ changes) (hits ∷ view) [] alike = absurd alike
    as_all_after (own ∷ changes) (hits ∷ view) (other ∷ others) (one, alike) = (as_after_each own hits other one, as_all_after changes view others alike)

  -- the lists after an edit
  pub as_view_after : (edit : Edit) (view others : View) → ViewsAs view others → ViewsAs (view_after edit view) (view_after edit others)
  as_view_after (AddFile name lines) view others alike = AllZip-append AreAs view ([] ∷ []) others ([] ∷ []) alike (tt, tt)
  as_view_after (AddMissing name) view others alike = AllZip-append AreAs view ([] ∷ []) others ([] ∷ []) alike (tt, tt)
  as_view_after (DropFile k) view others alike = AllZip-remove AreAs view others k alike
  as_view_after (Splice k start count lines) view others alike = alike
  as_view_after (AddPatterns list) view others alike = alike
  as_view_after (DropPattern p) view others alike = alike
  as_view_after (ChangePattern p text) view others alike = alike
  as_view_after (SetFlag flag on) view others alike = alike
  as_view_after (SetSyntax syntax) view others alike = alike
  as_view_after (SetContext context) view others alike = alike

-- where no text is lost they are the same
pub same_views : (view others : View) → ViewsAs ⊥ view others → others ≡ view
same_views view others alike = same_from_all_zip (AreAs ⊥) view others alike (λ hits own are. same_from_all_zip (IsAs ⊥) hits own are same_hit)
  where
    same_hit : (hit other : Hit) → IsAs ⊥ hit other → other ≡ hit
    same_hit hit other (inl e) = sym e
    same_hit hit other (inr (lost, e)) = absurd lost

pub but_texts : (view others : View) → ViewsAs (Unit {0}) view others → AreButTexts view others
but_texts view others alike = zip_weaker (AreAs (Unit {0})) (λ hits own. AllZip MayLackText hits own) (λ hits own are. zip_weaker (IsAs (Unit {0})) MayLackText one hits own are) view others alike
  where
    one : (hit other : Hit) → IsAs (Unit {0}) hit other → MayLackText hit other
    one hit other (inl e) = inl e
    one hit other (inr (lost, e)) = inr e
