-- Some patterns of a session went, and others came in their place: the matchers after that, and after they are put back.
use Rattle.{grep_session.proofs.{Prelude.{◌≡◌, ℕ, ◌+◌, ◌≤◌, List, [], ◌∷◌, ◌++◌, All, All-append, All-nil, AllZip, inl, inr, length, map, refl, sym, ap, ◌∙◌, arith, map-append, length-append, length-map, Syntax, Text, IsMeant, Matcher, IsReadable, matched_expression, room_of, wants_whole, Options, Inputs, AreMeant, Expression, Edit, EditFault, EditGives, Applies, Reads, RefusesFirst, Result, Err, AreSame, IsSession, inputs_of, Inside, most_patterns, AreMatchers, KeepAtMost, IsFileKept, kept_file, lost, Bool}, lemmas.{EditLemmas.searched_session, FoundLemmas.{all_first, all_rest}, SplicedLists.{IsSpliced, map_parts, same_parts}}}, grep_core.proofs.lemmas.MatcherLemmas.AllZip-append}

-- f of the elements is as before, after those that went were put back
back_same : {X Y : Type 0} (f : X → Y) {first many count : ℕ} {xs all now new : List X} (m : IsSpliced first many count xs all) (b : IsSpliced first count many now new) → b.come ≡ m.gone → map f now ≡ map f all → map f new ≡ map f xs
back_same f {xs = xs} {all} {now} {new} m b again same =
    let both = sym (map_parts f now b.front b.gone b.back b.old_is) ∙ same ∙ map_parts f all m.front m.come m.back m.new_is in
    let front = same_parts (map f b.front) (map f b.gone ++ map f b.back) (map f m.front) (map f m.come ++ map f m.back) both (omega (arith, length-map b.front f, length-map m.front f)) in
    let back = same_parts (map f b.gone) (map f b.back) (map f m.come) (map f m.back) front.1 (omega (arith, length-map b.gone f, length-map m.come f)) in
    map_parts f new b.front b.come b.back b.new_is ∙ (λ i. front.0 i ++ (map f (again i) ++ back.1 i)) ∙ sym (map_parts f xs m.front m.gone m.back m.old_is)

pub restored : {first many count : ℕ} {xs all now new : List Matcher} (m : IsSpliced first many count xs all) (b : IsSpliced first count many now new) → b.come ≡ m.gone → AreSame all now → AreSame xs new
restored m b again same = record {
  same_expressions = back_same matched_expression m b again same.same_expressions;
  same_wholes = back_same wants_whole m b again same.same_wholes;
  same_rooms = back_same room_of m b again same.same_rooms;
}

-- ---- matchers of patterns

zip_parts : {X Y : Type 0} (P : X → Y → Type 0) (xs us : List X) (ys vs : List Y) → length xs ≡ length ys → AllZip P (xs ++ us) (ys ++ vs) → AllZip P xs ys × AllZip P us vs
zip_parts P [] us [] vs same h = (tt, h)
zip_parts P [] us (y ∷ ys) vs same h = absurd (omega arith)
zip_parts P (x ∷ xs) us [] vs same h = absurd (omega arith)
zip_parts P (x ∷ xs) us (y ∷ ys) vs same h = let rest = zip_parts P xs us ys vs (omega arith) h.1 in ((h.0, rest.0), rest.1)

module _ (syntax : Syntax) (options : Options) (texts others : List Text) (old more : List Matcher) where
  abbrev Means : Text → Expression → Type 0
  Means text e = IsMeant syntax options.ignore_case text e

  abbrev Readable : Text → Type 0
  Readable = IsReadable syntax options.ignore_case

  abbrev Whole : Bool → Type 0
  Whole w = w ≡ options.line_regexp

  AreMatchers-append : AreMatchers syntax options texts old → AreMatchers syntax options others more → AreMatchers syntax options (texts ++ others) (old ++ more)
  AreMatchers-append a b = record {
    meant = rw (map-append matched_expression old more) (AllZip-append Means texts others (map matched_expression old) (map matched_expression more) a.meant b.meant);
    wholes = rw (map-append wants_whole old more) (All-append Whole (map wants_whole old) (map wants_whole more) a.wholes b.wholes);
    readable = All-append Readable texts others a.readable b.readable;
    counted = length-append old more ∙ (λ i. a.counted i + b.counted i) ∙ sym (length-append texts others);
  }

  AreMatchers-parts : length texts ≡ length old → AreMatchers syntax options (texts ++ others) (old ++ more) → AreMatchers syntax options texts old × AreMatchers syntax options others more
  AreMatchers-parts same a =
      let meant = zip_parts Means texts others (map matched_expression old) (map matched_expression more) (omega (arith, length-map old matched_expression)) (rw (map-append matched_expression old more) at a.meant) in
      let wholes = rw (map-append wants_whole old more) at a.wholes in (
        record { meant = meant.0; wholes = all_first Whole _ _ wholes; readable = all_first Readable _ _ a.readable; counted = sym same },
        record { meant = meant.1; wholes = all_rest Whole _ _ wholes; readable = all_rest Readable _ _ a.readable; counted = omega (arith, length-append old more, length-append texts others) },
      )

pub no_matchers : (syntax : Syntax) (options : Options) → AreMatchers syntax options [] []
no_matchers syntax options = record { meant = tt; wholes = All-nil (λ w. w ≡ options.line_regexp); readable = All-nil (IsReadable syntax options.ignore_case); counted = refl }

-- ---- a session

module _ {s : Inside} {first many count : ℕ} {texts : List Text} {all : List Matcher} (old : IsSession s) (m : IsSpliced first many count s.matchers.items all) (t : IsSpliced first many count (inputs_of s).patterns texts) (new : AreMatchers s.syntax s.options t.come m.come) where
  -- those that went, those before them, and those after them
  old_parts : AreMatchers s.syntax s.options t.front m.front × AreMatchers s.syntax s.options t.gone m.gone × AreMatchers s.syntax s.options t.back m.back
  old_parts =
      let was = rw t.old_is at (rw m.old_is at old.matchers) in
      let one = AreMatchers-parts s.syntax s.options t.front (t.gone ++ t.back) m.front (m.gone ++ m.back) (sym t.at ∙ m.at) was in
      let two = AreMatchers-parts s.syntax s.options t.gone t.back m.gone m.back (sym t.went ∙ m.went) one.1 in
      (one.0, two.0, two.1)

  pub gone_meant : AreMeant s.syntax s.options t.gone (map matched_expression m.gone)
  gone_meant = old_parts.1.meant

  -- the matchers are those of the patterns
  pub are_matchers : AreMatchers s.syntax s.options texts all
  are_matchers =
      let now = AreMatchers-append s.syntax s.options t.front (t.come ++ t.back) m.front (m.come ++ m.back) old_parts.0 (AreMatchers-append _ _ _ _ _ _ new old_parts.2) in
      rw t.new_is (rw m.new_is now)

  -- no more patterns than before
  pub no_more : count ≤ many → length all ≤ most_patterns
  no_more fewer = omega (arith, ap length m.old_is, ap length m.new_is, length-append m.front (m.gone ++ m.back), length-append m.gone m.back, length-append m.front (m.come ++ m.back), length-append m.come m.back)

  -- the session after it, where all was searched
  pub spliced_session : (t : Inside) → t ≡ record s { texts = t.texts; matchers = t.matchers; files = t.files; marks = t.marks } → map (λ text. text.items) t.texts.items ≡ texts → length all ≤ most_patterns → KeepAtMost s.states m.come → AreSame all t.matchers.items
      → All (IsFileKept (map matched_expression t.matchers.items) s.options) t.files.items → map kept_file t.files.items ≡ map kept_file s.files.items → t.marks.items ≡ map lost s.marks.items → IsSession t
  spliced_session t is read few rooms same kept files marks =
      let Small : ℕ → Type 0 = λ room. room ≤ s.states in
      let was = rw (map_parts room_of s.matchers.items m.front m.gone m.back m.old_is) at old.rooms in
      let back = all_rest Small (map room_of m.gone) _ (all_rest Small (map room_of m.front) _ was) in
      let now = rw (← map_parts room_of all m.front m.come m.back m.new_is) at (All-append Small (map room_of m.front) _ (all_first Small _ _ was) (All-append Small (map room_of m.come) (map room_of m.back) rooms back)) in
      searched_session s t s.syntax s.options texts all is read old are_matchers few now same kept files marks

-- ---- what is reported

-- a text was refused, or memory ran out
pub refuses : (T : Type 0) (edit : Edit) (old new : Inputs) (texts : List Text) (fault : EditFault) → ((o : Result Inputs EditFault) → Reads old.syntax old.options.ignore_case texts new o → Applies edit old o) → RefusesFirst old.syntax old.options.ignore_case texts fault → EditGives {T = T} edit old old (Err fault)
refuses T edit old new texts fault applies (inl memory) = rw memory refl
refuses T edit old new texts fault applies (inr reported) =
    rw reported.3 (applies _ (inr ((λ all. reported.2.unreadable (all reported.0 [] reported.2.in_texts)), (reported.0, reported.1, reported.2, refl))), refl)
