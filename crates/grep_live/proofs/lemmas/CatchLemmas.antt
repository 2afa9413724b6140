-- What is reported makes each view that follows the present hits, and it follows then.
use Rattle.{grep_live.proofs.{Prelude.{◌≡◌, ℕ, ◌+◌, ◌-◌, ◌<◌, ◌≤◌, Bool, true, false, if◌then◌else◌, nat_eq, ◌&&◌, List, [], ◌∷◌, length, map, take, drop, get_or, Option, Result, Ok, Err, ◌⊎◌, inl, inr, refl, sym, ap, subst, ◌∙◌, arith, cases_lt, nat_tests, slice_range, MatchResult, Text, Expression, Status, Options, File, Inputs, Selected, written, Writes, GrepGives, IsStatusOfInputs, AllChanges, ListedParts, Marked, Stretch, Fits, Keeps, AllThree, Hit, View, HitOf, HitsFrom, Hits, AreHits, Watched, whole_mark, Change, AreChanges, ChangesFile, is_idle, AreWithin, moved, hits_at, spliced_hits, after, after_each, all_after, FollowsFile, Follows, changes_rows, all_known, WritesChanges, IsFit, AreFit, Mean, drop-drop, get_or-take, get_or-drop, length-take, length-take-le, length-drop}, lemmas.{HitLemmas.{within_wider, by_within, line_hits, hits_by_line, at_same, spliced_within, spliced_before, spliced_among, spliced_after}, ListingLemmas.HitsFrom-exist}}, grep_core.proofs.lemmas.LawsHold.means_one}

idle_is : (removed added : ℕ) → (nat_eq removed 0 && nat_eq added 0) ≡ true → (removed ≡ 0) × (added ≡ 0)
idle_is removed added e =
    let none_removed : removed ≡ 0 = grind (arith, nat_tests) in
    let none_added : added ≡ 0 = grind (arith, nat_tests) in
    (none_removed, none_added)

-- ---- a list that is right up to a place

-- before place n there are the present hits, and from it on those of the lines that are kept
record CaughtUp (es : List Expression) (options : Options) (lines : List Text) (n many : ℕ) (stretches : List Stretch) (hits : List Hit) : Type 0 where
  in_order : AreWithin 0 many hits
  fits : (old : ℕ) × (new : ℕ) × (many ≡ n + old) × (length lines ≡ n + new) × Fits old new stretches
  done : (p : ℕ) → p < n → HitOf es options (p, get_or lines p []) (hits_at p hits)
  kept : (old new p q : ℕ) → p ≡ n + old → q ≡ n + new → Keeps stretches old new → q < length lines → HitOf es options (q, get_or lines q []) (map (moved p q) (hits_at p hits))

module _ (es : List Expression) (options : Options) where
  -- the hits of a change are among the lines that were added
  pub come_within : (front kept past : ℕ) (lines : List Text) (come : List Hit) → HitsFrom es options front (slice_range lines kept past) come → AreWithin front (front + (past - kept)) come
  come_within front kept past lines come h =
      let put = slice_range lines kept past in
      within_wider _ _ _ _ _ (omega arith) (omega (arith, length-take (past - kept) (drop kept lines))) (by_within (Selected es options) (ListedParts es options) _ _ _ h)

  -- there are changes of a file
  some_changes : (first : ℕ) (lines : List Text) (stretches : List Stretch) → (changes : List Change) × AreChanges es options first lines stretches changes
  some_changes first lines [] = ([], refl)
  some_changes first lines (stretch ∷ more) =
      let past = stretch.kept + stretch.added in
      let come = HitsFrom-exist es options (first + stretch.kept) (slice_range lines stretch.kept past) in
      let rest = some_changes (first + past) (drop past lines) more in
      let change : Change = record { front = first + stretch.kept; removed = stretch.removed; added = stretch.added; come = come.0 } in
      (change ∷ rest.0, (refl, refl, refl, come.1, rest.1))

  module _ (lines : List Text) where
    module _ (n many : ℕ) (stretch : Stretch) (more : List Stretch) (hits : List Hit) (s : CaughtUp es options lines n many (stretch ∷ more) hits) where
      -- the lines up to the stretch
      up_to : (p : ℕ) → p < n + stretch.kept → HitOf es options (p, get_or lines p []) (hits_at p hits)
      up_to p l = by_place (cases_lt p n)
        where
          by_place : (p < n) ⊎ (n ≤ p) → HitOf es options (p, get_or lines p []) (hits_at p hits)
          by_place (inl h) = s.done p h
          by_place (inr h) =
              rw (at_same p hits) at (s.kept (p - n) (p - n) p p (omega arith) (omega arith) (inl (omega arith, refl)) (omega (arith, s.fits.3, s.fits.4.3)))

      module _ (change : Change) (is_front : change.front ≡ n + stretch.kept) (is_removed : change.removed ≡ stretch.removed) (is_added : change.added ≡ stretch.added)
          (are_hits : HitsFrom es options (n + stretch.kept) (slice_range (drop n lines) stretch.kept (stretch.kept + stretch.added)) change.come) where
        abbrev Next : List Hit → Type 0
        Next hits = CaughtUp es options lines (n + (stretch.kept + stretch.added)) (many - change.removed + change.added) more hits

        next_fits : (old : ℕ) × (new : ℕ) × (many - change.removed + change.added ≡ n + (stretch.kept + stretch.added) + old) × (length lines ≡ n + (stretch.kept + stretch.added) + new) × Fits old new more
        next_fits = (s.fits.4.0, s.fits.4.1, omega (arith, s.fits.2, s.fits.4.2), omega (arith, s.fits.3, s.fits.4.3), s.fits.4.4)

        next_idle : change.removed ≡ 0 → change.added ≡ 0 → Next hits
        next_idle r a =
            let same : many ≡ many - change.removed + change.added = omega arith in
            record {
              in_order = rw same at s.in_order;
              fits = next_fits;
              done = (λ p l. up_to p (omega arith));
              kept = (λ old new p q e f keeps inside.
                  s.kept (stretch.kept + stretch.removed + old) (stretch.kept + stretch.added + new) p q (omega arith) (omega arith) (inr (old, new, refl, refl, keeps)) inside);
            }

        between : AreWithin change.front (change.front + change.added) change.come
        between =
            let far : (n + stretch.kept) + ((stretch.kept + stretch.added) - stretch.kept) ≤ change.front + change.added = omega arith in
            within_wider _ _ _ _ _ (omega arith) far
            (come_within _ _ _ _ _ are_hits)

        -- the lines of the stretch
        among : (p : ℕ) → n + stretch.kept ≤ p → p < n + stretch.kept + stretch.added → HitOf es options (p, get_or lines p []) (hits_at p change.come)
        among p l h =
            let i = p - (n + stretch.kept) in
            let many = (stretch.kept + stretch.added) - stretch.kept in
            let rest = drop stretch.kept (drop n lines) in
            let there : n + (stretch.kept + i) ≡ p = omega arith in
            let long : many ≤ length rest = omega (arith, s.fits.3, s.fits.4.3, length-drop stretch.kept (drop n lines), length-drop n lines) in
            let inside : i < length (take many rest) = omega (arith, length-take-le many rest long) in
            let text =
            get_or-take many rest i [] (omega arith) ∙ get_or-drop stretch.kept (drop n lines) i [] ∙ get_or-drop n lines (stretch.kept + i) [] ∙ ap (λ m. get_or lines m []) there in
            rw text at (line_hits (Selected es options) (ListedParts es options) _ _ _ are_hits i p (omega arith) inside)

        abbrev spliced : List Hit
        spliced = spliced_hits change.front change.removed change.added change.come hits

        done_busy : (p : ℕ) → p < n + (stretch.kept + stretch.added) → HitOf es options (p, get_or lines p []) (hits_at p spliced)
        done_busy p l = by_place (cases_lt p change.front)
          where
            by_place : (p < change.front) ⊎ (change.front ≤ p) → HitOf es options (p, get_or lines p []) (hits_at p spliced)
            by_place (inl h) =
                rw (spliced_before _ _ _ many _ _ s.in_order between p h) (up_to p (omega arith))
            by_place (inr h) =
                rw (spliced_among _ _ _ many _ _ s.in_order between p h (omega arith)) (among p (omega arith) (omega arith))

        next_busy : Next spliced
        next_busy = record {
          in_order = spliced_within change.front change.removed change.added many change.come hits s.in_order between (omega (arith, s.fits.2, s.fits.4.2));
          fits = next_fits;
          done = done_busy;
          kept = (λ old new p q e f keeps inside.
              let was = n + (stretch.kept + stretch.removed + old) in
              rw (spliced_after change.front change.removed change.added many change.come hits s.in_order between p was q (omega arith) (omega arith))
              (s.kept (stretch.kept + stretch.removed + old) (stretch.kept + stretch.added + new) was q refl (omega arith) (inr (old, new, refl, refl, keeps)) inside));
        }

        next : Next (after change hits)
        next = by_idle (is_idle change) refl
          where
            by_idle : (b : Bool) → is_idle change ≡ b → Next (if b then hits else spliced)
            by_idle true e = let none = idle_is change.removed change.added e in next_idle none.0 none.1
            by_idle false e = next_busy

    -- all was made
    at_end : (n many : ℕ) (hits : List Hit) → CaughtUp es options lines n many [] hits → Hits es options lines hits
    at_end n many hits s =
        let whole : many ≡ 0 + length lines = omega (arith, s.fits.2, s.fits.3, s.fits.4) in
        hits_by_line (Selected es options) (ListedParts es options) 0 lines hits (rw whole at s.in_order)
        (λ i p e l.
        let same : p ≡ i = omega arith in
        subst (λ (m : ℕ). HitOf es options (p, get_or lines m []) (hits_at p hits)) same (by_place p (omega (arith, same, l)) (cases_lt p n)))
      where
        by_place : (p : ℕ) → p < length lines → (p < n) ⊎ (n ≤ p) → HitOf es options (p, get_or lines p []) (hits_at p hits)
        by_place p l (inl h) = s.done p h
        by_place p l (inr h) = rw (at_same p hits) at (s.kept (p - n) (p - n) p p (omega arith) (omega arith) refl l)

    catch_up : (stretches : List Stretch) (changes : List Change) (n many : ℕ) (hits : List Hit) → CaughtUp es options lines n many stretches hits → AreChanges es options n (drop n lines) stretches changes → Hits es options lines (after_each changes hits)
    catch_up [] changes n many hits s c = rw c (at_end n many hits s)
    catch_up (stretch ∷ more) [] n many hits s c = absurd c
    catch_up (stretch ∷ more) (change ∷ changes) n many hits s (is_front, is_removed, is_added, are_hits, rest) =
        let past = stretch.kept + stretch.added in
        let later : AreChanges es options (n + past) (drop (n + past) lines) more changes = rw (drop-drop past n lines) at rest in
        catch_up more changes (n + past) (many - change.removed + change.added) (after change hits) (next n many stretch more hits s change is_front is_removed is_added are_hits) later

module _ (es : List Expression) (inputs : Inputs) where
  pub changes_exist : (files : List File) (marks : List Marked) → AreFit files marks → (changes : List (List Change)) × AllThree (ChangesFile es inputs.options) files marks changes
  changes_exist [] [] fit = ([], tt)
  changes_exist [] (mark ∷ marks) fit = absurd fit
  changes_exist (file ∷ files) [] fit = absurd fit
  changes_exist (file ∷ files) (mark ∷ marks) fit =
      let own = some_changes es inputs.options 0 file.lines mark.stretches in
      let more = changes_exist files marks fit.1 in
      (own.0 ∷ more.0, (own.1, more.1))

  -- a view of one file that follows, after its changes
  one_catches : (meant : Mean inputs es) (file : File) (mark : Marked) (changes : List Change) (hits : List Hit) → IsFit file mark → ChangesFile es inputs.options file mark changes → FollowsFile inputs file mark hits → Hits es inputs.options file.lines (after_each changes hits)
  one_catches meant file mark changes hits fit c f =
      let lines = file.lines in
      let start : CaughtUp es inputs.options lines 0 mark.known mark.stretches hits = record {
        in_order = f.in_order;
        fits = (mark.known, mark.lines, omega arith, omega (arith, fit.0), fit.1);
        done = (λ p l. absurd (omega (arith, l)));
        kept = (λ old new p q e g keeps inside.
            let was : old ≡ p = omega (arith, e) in
            let is : new ≡ q = omega (arith, g) in
            subst (λ (z : ℕ × ℕ). HitOf es inputs.options (z.1, get_or lines z.1 []) (map (moved z.0 z.1) (hits_at z.0 hits))) (λ i. (was i, is i)) (f.untouched es meant old new keeps (omega (arith, inside, is))));
      } in
      catch_up es inputs.options lines mark.stretches changes 0 mark.known hits start c

  pub all_catch : (meant : Mean inputs es) (files : List File) (marks : List Marked) (changes : List (List Change)) (view : View) → AreFit files marks → AllThree (ChangesFile es inputs.options) files marks changes → AllThree (FollowsFile inputs) files marks view →
      AreHits es inputs.options files (all_after changes view)
  all_catch meant [] [] [] [] fit c f = tt
  all_catch meant [] [] [] (hits ∷ view) fit c f = absurd f
  all_catch meant [] [] (change ∷ changes) view fit c f = absurd c
  all_catch meant [] (mark ∷ marks) changes view fit c f = absurd fit
  all_catch meant (file ∷ files) [] changes view fit c f = absurd fit
  all_catch meant (file ∷ files) (mark ∷ marks) [] view fit c f = absurd c
  all_catch meant (file ∷ files) (mark ∷ marks) (change ∷ changes) [] fit c f = absurd f
  all_catch meant (file ∷ files) (mark ∷ marks) (change ∷ changes) (hits ∷ view) fit c f =
      (one_catches meant file mark change hits fit.0 c.0 f.0, all_catch meant files marks changes view fit.1 c.1 f.1)

  -- ---- a view that has the present

  one_follows : (meant : Mean inputs es) (file : File) (hits : List Hit) → Hits es inputs.options file.lines hits → FollowsFile inputs file (whole_mark (length file.lines)) hits
  one_follows meant file hits h =
      let n = length file.lines in
      let lines = file.lines in
      let S = Selected es inputs.options in
      let P = ListedParts es inputs.options in
      let whole : 0 + n ≡ n = omega arith in
      record {
        in_order = subst (λ (m : ℕ). AreWithin 0 m hits) whole (by_within S P 0 lines hits h);
        untouched = (λ ds m old new keeps inside.
            let is : ◌≡◌ {A = ℕ} new (0 + new) = omega arith in
            let here : HitOf es inputs.options (new, get_or lines new []) (map (moved new new) (hits_at new hits)) =
            subst (HitOf es inputs.options (new, get_or lines new [])) (sym (at_same new hits)) (line_hits S P 0 lines hits h new new is inside) in
            subst (λ (xs : List Expression). HitOf xs inputs.options (new, get_or lines new []) (map (moved old new) (hits_at old hits))) (means_one inputs.syntax inputs.options inputs.patterns es ds meant m)
            (subst (λ (o : ℕ). HitOf es inputs.options (new, get_or lines new []) (map (moved o new) (hits_at o hits))) keeps here));
      }

  pub all_follow : (meant : Mean inputs es) (files : List File) (view : View) → AreHits es inputs.options files view → AllThree (FollowsFile inputs) files (map (λ file. whole_mark (length file.lines)) files) view
  all_follow meant [] [] h = tt
  all_follow meant [] (hits ∷ view) h = absurd h
  all_follow meant (file ∷ files) [] h = absurd h
  all_follow meant (file ∷ files) (hits ∷ view) h = (one_follows meant file hits h.0, all_follow meant files view h.1)

-- ---- what is reported

changed : (old : Watched) → AreFit old.inputs.files old.marks → GrepGives old.inputs → AllChanges old
changed old fit grep =
    let changes = changes_exist grep.es old.inputs old.inputs.files old.marks fit in
    let catches = λ (view : View) (f : Follows old view). all_catch grep.es old.inputs grep.are_meant old.inputs.files old.marks changes.0 view fit changes.1 f in
    record {
      es = grep.es;
      are_meant = grep.are_meant;
      changes = changes.0;
      are_changes = changes.1;
      status = grep.status;
      is_status = grep.is_status;
      catches_up = catches;
      follows = (λ view f. all_follow grep.es old.inputs grep.are_meant old.inputs.files (all_after changes.0 view) (catches view f));
    }

module _ (texts : Bool) {W : Type 0} (contents : W → Option Text) (failures : W → ℕ) (margin : Text) (begun ended : W) (old new : Watched) (status : Status) where
  pub writes_all : (E : Type 0) (result : Result Status E) → AreFit old.inputs.files old.marks → IsStatusOfInputs old.inputs status →
      ((es : List Expression) → Mean old.inputs es → (changes : List (List Change)) → AllThree (ChangesFile es old.inputs.options) old.inputs.files old.marks changes → Writes contents failures begun ended (written margin (changes_rows texts 0 changes)) result) →
      MatchResult result (λ answer. (answer ≡ status) × (new ≡ all_known old)) (λ _. new ≡ old) → WritesChanges contents failures margin texts begun ended old new result
  unfolding changed
  writes_all E (Ok answer) fit is wrote left =
      let all = changed old fit is.grep in
      record { all = all; wrote = wrote all.es all.are_meant all.changes all.are_changes; answered = left.0 ∙ is.answered; leaves = left.1 }
  writes_all E (Err fault) fit is wrote left =
      let all = changed old fit is.grep in
      record { all = all; wrote = wrote all.es all.are_meant all.changes all.are_changes; answered = tt; leaves = left }
