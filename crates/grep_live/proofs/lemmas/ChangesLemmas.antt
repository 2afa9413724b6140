-- What is counted and written of the lines of a file, by the hits that are left.
use Rattle.{grep_live.proofs.Prelude.{Bool, ◌≡◌, ℕ, ◌+◌, ◌-◌, ◌<◌, ◌≤◌, true, false, List, [], ◌∷◌, ◌++◌, length, map, drop, get_or, Option, ap, subst, ◌∙◌, arith, nat_eq, ◌&&◌, flat_map, take, Text, Expression, Inputs, file_at, written, output_line, GoesOut, StopsWithin, Marked, Stretch, Fits, IsFit, AllThree, Hit, HitsFrom, Change, AreChanges, ChangesFile, hit_row, change_row, change_rows, changes_rows, Mean, HitsBetween, IsFirst, drop_all, drop-drop}, grep_session.proofs.lemmas.Writing.{drop-next, WrittenUpTo, none_written, written_on, all_written, broken_off, one_went, one_stopped}}

module _ (texts : Bool) (inputs : Inputs) (k from to : ℕ) {W : Type 0} (contents : W → Option Text) (failures : W → ℕ) (margin : Text) where
  -- some were written, and these are left
  pub record ListedUpTo (old now : W) (es : List Expression) (place : ℕ) (all : List Hit) : Type 0 where
    pub left : List Hit
    pub are_left : HitsBetween es inputs k place to left
    pub wrote : WrittenUpTo contents failures margin old now (map (hit_row texts) all) (map (hit_row texts) left)

  abbrev pub Lists : W → W → ℕ → Type 0
  Lists old now place = (es : List Expression) → Mean inputs es → (all : List Hit) → HitsBetween es inputs k from to all → ListedUpTo old now es place all

  pub listed_none : (a : W) → Lists a a from
  listed_none a = λ es meant all hits. record { left = all; are_left = hits; wrote = none_written contents failures margin a (map (hit_row texts) all) }

  module _ (es : List Expression) (all : List Hit) (old now : W) (place : ℕ) (s : ListedUpTo old now es place all) where
    module _ (at : ℕ) (text : Text) (parts : List (ℕ × ℕ)) (f : IsFirst es inputs k to at text parts s.left) (new : W) where
      pub listed_one : GoesOut contents failures now new (output_line margin (hit_row texts (record { place = at; text = text; parts = parts }))) → ListedUpTo old new es (at + 1) all
      listed_one went = record {
        left = f.rest;
        are_left = f.are_rest;
        wrote = written_on contents failures margin old now new (map (hit_row texts) all) (map (hit_row texts) s.left) (hit_row texts (record { place = at; text = text; parts = parts }) ∷ []) (map (hit_row texts) f.rest) (rw f.joined) s.wrote
            (one_went contents failures margin now new (hit_row texts (record { place = at; text = text; parts = parts })) went);
      }

      pub listed_stops : StopsWithin contents failures now new (output_line margin (hit_row texts (record { place = at; text = text; parts = parts }))) → StopsWithin contents failures old new (written margin (map (hit_row texts) all))
      listed_stops stops =
          broken_off contents failures margin old now new (map (hit_row texts) all) (map (hit_row texts) s.left) (hit_row texts (record { place = at; text = text; parts = parts }) ∷ []) (map (hit_row texts) f.rest) (rw f.joined) s.wrote
          (one_stopped contents failures margin now new (hit_row texts (record { place = at; text = text; parts = parts })) stops)

    pub listed_all : s.left ≡ [] → GoesOut contents failures old now (written margin (map (hit_row texts) all))
    listed_all none = all_written contents failures margin old now (map (hit_row texts) all) (map (hit_row texts) s.left) (rw none) s.wrote

-- ---- one stretch

-- a change of nothing has no rows
pub rows_idle : (texts : Bool) (k front removed added : ℕ) (come : List Hit) → (nat_eq removed 0 && nat_eq added 0) ≡ true → change_rows texts k (record { front = front; removed = removed; added = added; come = come }) ≡ []
rows_idle texts k front removed added come idle = rw idle

pub rows_busy : (texts : Bool) (k front removed added : ℕ) (come : List Hit) → (nat_eq removed 0 && nat_eq added 0) ≡ false →
    change_rows texts k (record { front = front; removed = removed; added = added; come = come }) ≡ change_row k (record { front = front; removed = removed; added = added; come = come }) ∷ map (hit_row texts) come
rows_busy texts k front removed added come busy = rw busy

-- ---- one file

-- so many lines of a file are left from a place on, and these stretches are within them
pub record StretchesLeft (lines place to : ℕ) (stretches : List Stretch) : Type 0 where
  pub end : to ≡ lines
  pub place_within : place ≤ lines
  pub old : ℕ
  pub fit : Fits old (lines - place) stretches

-- the lines of the next stretch are within the file
pub record NextStretch (lines place to : ℕ) (stretch : Stretch) (more : List Stretch) : Type 0 where
  pub within : place + stretch.kept + stretch.added ≤ lines
  pub fits_from : place + stretch.kept ≤ to
  pub fits_to : place + stretch.kept + stretch.added ≤ to
  pub left : StretchesLeft lines (place + stretch.kept + stretch.added) to more

pub stretches_begin : (inputs : Inputs) (k to : ℕ) (mark : Marked) → to ≡ length (file_at inputs.files k).lines → IsFit (file_at inputs.files k) mark → StretchesLeft (length (file_at inputs.files k).lines) 0 to mark.stretches
stretches_begin inputs k to mark e fit =
    let same : mark.lines ≡ length (file_at inputs.files k).lines - 0 = omega (arith, fit.0) in
    record { end = e; place_within = omega arith; old = mark.known; fit = rw same at fit.1 }

pub next_stretch : (lines place to : ℕ) (stretches : List Stretch) (stretch : Stretch) (more : List Stretch) → stretches ≡ stretch ∷ more → StretchesLeft lines place to stretches → NextStretch lines place to stretch more
next_stretch lines place to stretches stretch more is s =
    let fit = rw is at s.fit in
    let within : place + stretch.kept + stretch.added ≤ lines = omega (arith, fit.3, s.place_within) in
    let same : fit.1 ≡ lines - (place + stretch.kept + stretch.added) = omega (arith, fit.3, s.place_within) in
    record {
      within = within;
      fits_from = omega (arith, within, s.end);
      fits_to = omega (arith, within, s.end);
      left = record { end = s.end; place_within = within; old = fit.0; fit = rw same at fit.4 };
    }

-- the stretch of a turn, and those after it
pub turn_is : (items stretches : List Stretch) (i : ℕ) (d : Stretch) → items ≡ stretches → i < length items → drop i stretches ≡ get_or items i d ∷ drop (i + 1) stretches
turn_is items stretches i d e h = subst (λ (l : List Stretch). drop i l ≡ get_or items i d ∷ drop (i + 1) l) e (drop-next items i d h)

module _ (texts : Bool) (inputs : Inputs) (k : ℕ) {W : Type 0} (contents : W → Option Text) (failures : W → ℕ) (margin : Text) where
  abbrev lines_from : ℕ → List Text
  lines_from place = drop place (file_at inputs.files k).lines

  abbrev rows_of : List Change → List Text
  rows_of changes = flat_map (change_rows texts k) changes

  -- the first changes were written, and these of the stretches after this place are left
  pub record ChangedUpTo (old now : W) (es : List Expression) (place : ℕ) (stretches : List Stretch) (all : List Change) : Type 0 where
    pub left : List Change
    pub are_left : AreChanges es inputs.options place (lines_from place) stretches left
    pub wrote : WrittenUpTo contents failures margin old now (rows_of all) (rows_of left)

  abbrev pub Changes : Marked → W → W → ℕ → List Stretch → Type 0
  Changes mark old now place stretches = (es : List Expression) → Mean inputs es → (all : List Change) → ChangesFile es inputs.options (file_at inputs.files k) mark all → ChangedUpTo old now es place stretches all

  pub changed_none : (mark : Marked) (a : W) → Changes mark a a 0 mark.stretches
  changed_none mark a = λ es meant all are. record { left = all; are_left = are; wrote = none_written contents failures margin a (rows_of all) }

  pub changed_all : (es : List Expression) (a b : W) (place : ℕ) (stretches : List Stretch) (all : List Change) → stretches ≡ [] → ChangedUpTo a b es place stretches all → GoesOut contents failures a b (written margin (rows_of all))
  changed_all es a b place stretches all none s =
      let is = rw none at s.are_left in
      all_written contents failures margin a b (rows_of all) (rows_of s.left) (rw is) s.wrote

  -- the change of the next stretch, and those after it
  record NextChange (es : List Expression) (place : ℕ) (stretch : Stretch) (more : List Stretch) (changes : List Change) : Type 0 where
    come : List Hit
    rest : List Change
    are_hits : HitsBetween es inputs k (place + stretch.kept) (place + stretch.kept + stretch.added) come
    are_rest : AreChanges es inputs.options (place + stretch.kept + stretch.added) (lines_from (place + stretch.kept + stretch.added)) more rest
    joined : changes ≡ record { front = place + stretch.kept; removed = stretch.removed; added = (place + stretch.kept + stretch.added) - (place + stretch.kept); come = come } ∷ rest

  next_change : (es : List Expression) (place : ℕ) (stretch : Stretch) (more : List Stretch) (changes : List Change) → AreChanges es inputs.options place (lines_from place) (stretch ∷ more) changes → NextChange es place stretch more changes
  next_change es place stretch more [] c = absurd c
  next_change es place stretch more (change ∷ changes) (is_front, is_removed, is_added, are_hits, rest) =
      let lines = (file_at inputs.files k).lines in
      let from = place + stretch.kept in
      let to = from + stretch.added in
      let past = stretch.kept + stretch.added in
      let far : place + past ≡ to = omega arith in
      let cut : past - stretch.kept ≡ to - from = omega arith in
      let added : change.added ≡ to - from = omega (arith, is_added) in
      let text : drop stretch.kept (drop place lines) ≡ drop from lines = drop-drop stretch.kept place lines in
      let after : drop past (drop place lines) ≡ drop to lines = drop-drop past place lines ∙ ap (λ n. drop n lines) far in
      record {
        come = change.come;
        rest = changes;
        are_hits = subst (λ (l : List Text). HitsFrom es inputs.options from l change.come) (λ i. take (cut i) (text i)) are_hits;
        are_rest = subst (λ (z : ℕ × List Text). AreChanges es inputs.options z.0 z.1 more changes) (λ i. (far i, after i)) rest;
        joined = λ i. record { front = is_front i; removed = is_removed i; added = added i; come = change.come } ∷ changes;
      }

  module _ (es : List Expression) (a b c : W) (place : ℕ) (stretch : Stretch) (more : List Stretch) (all : List Change) where
    abbrev Wrote : (List Text → Type 0) → Type 0
    Wrote P = (hits : List Hit) → HitsBetween es inputs k (place + stretch.kept) (place + stretch.kept + stretch.added) hits →
        P (change_rows texts k (record { front = place + stretch.kept; removed = stretch.removed; added = (place + stretch.kept + stretch.added) - (place + stretch.kept); come = hits }))

    pub changed_on : (stretches : List Stretch) → stretches ≡ stretch ∷ more → ChangedUpTo a b es place stretches all → Wrote (λ rows. GoesOut contents failures b c (written margin rows)) → ChangedUpTo a c es (place + stretch.kept + stretch.added) more all
    changed_on stretches is s wrote =
        let next = next_change es place stretch more s.left (rw is at s.are_left) in
        let here = change_rows texts k (record { front = place + stretch.kept; removed = stretch.removed; added = (place + stretch.kept + stretch.added) - (place + stretch.kept); come = next.come }) in
        record { left = next.rest; are_left = next.are_rest; wrote = written_on contents failures margin a b c (rows_of all) (rows_of s.left) here (rows_of next.rest) (ap rows_of next.joined) s.wrote (wrote next.come next.are_hits) }

    pub changed_stops : (stretches : List Stretch) → stretches ≡ stretch ∷ more → ChangedUpTo a b es place stretches all → Wrote (λ rows. StopsWithin contents failures b c (written margin rows)) → StopsWithin contents failures a c (written margin (rows_of all))
    changed_stops stretches is s wrote =
        let next = next_change es place stretch more s.left (rw is at s.are_left) in
        let here = change_rows texts k (record { front = place + stretch.kept; removed = stretch.removed; added = (place + stretch.kept + stretch.added) - (place + stretch.kept); come = next.come }) in
        broken_off contents failures margin a b c (rows_of all) (rows_of s.left) here (rows_of next.rest) (ap rows_of next.joined) s.wrote (wrote next.come next.are_hits)

-- ---- the changes of all files

-- the rows of the changes from one on are those of that one and of those after it
pub next_rows : (texts : Bool) (k : ℕ) (changes : List (List Change)) → k < length changes → changes_rows texts k (drop k changes) ≡ flat_map (change_rows texts k) (get_or changes k []) ++ changes_rows texts (k + 1) (drop (k + 1) changes)
next_rows texts k changes h = rw (drop-next changes k [] h)

module _ (texts : Bool) (inputs : Inputs) (marks : List Marked) {W : Type 0} (contents : W → Option Text) (failures : W → ℕ) (margin : Text) where
  -- the changes of the first files were written
  abbrev pub ReportedUpTo : W → W → ℕ → Type 0
  ReportedUpTo old now k = (es : List Expression) → Mean inputs es → (changes : List (List Change)) → AllThree (ChangesFile es inputs.options) inputs.files marks changes → WrittenUpTo contents failures margin old now (changes_rows texts 0 changes) (changes_rows texts k (drop k changes))

  pub reported_on : (es : List Expression) (changes : List (List Change)) (a b c : W) (k : ℕ) → k < length changes → WrittenUpTo contents failures margin a b (changes_rows texts 0 changes) (changes_rows texts k (drop k changes)) →
      GoesOut contents failures b c (written margin (flat_map (change_rows texts k) (get_or changes k []))) → WrittenUpTo contents failures margin a c (changes_rows texts 0 changes) (changes_rows texts (k + 1) (drop (k + 1) changes))
  reported_on es changes a b c k h s went =
      written_on contents failures margin a b c (changes_rows texts 0 changes) (changes_rows texts k (drop k changes)) (flat_map (change_rows texts k) (get_or changes k [])) (changes_rows texts (k + 1) (drop (k + 1) changes)) (next_rows _ k _ h) s went

  pub reported_stops : (es : List Expression) (changes : List (List Change)) (a b c : W) (k : ℕ) → k < length changes → WrittenUpTo contents failures margin a b (changes_rows texts 0 changes) (changes_rows texts k (drop k changes)) →
      StopsWithin contents failures b c (written margin (flat_map (change_rows texts k) (get_or changes k []))) → StopsWithin contents failures a c (written margin (changes_rows texts 0 changes))
  reported_stops es changes a b c k h s stopped =
      broken_off contents failures margin a b c (changes_rows texts 0 changes) (changes_rows texts k (drop k changes)) (flat_map (change_rows texts k) (get_or changes k [])) (changes_rows texts (k + 1) (drop (k + 1) changes)) (next_rows _ k _ h) s stopped

  pub reported_all : (es : List Expression) (changes : List (List Change)) (a b : W) (k : ℕ) → length changes ≤ k → WrittenUpTo contents failures margin a b (changes_rows texts 0 changes) (changes_rows texts k (drop k changes)) → GoesOut contents failures a b (written margin (changes_rows texts 0 changes))
  reported_all es changes a b k h s = all_written contents failures margin a b (changes_rows texts 0 changes) (changes_rows texts k (drop k changes)) (rw (drop_all k changes h)) s
