-- Marks that fit their files, and the marks that edits leave.
use Rattle.{grep_session.proofs.{Prelude.{◌≡◌, ℕ, zero, suc, ◌+◌, ◌-◌, ◌<◌, ◌≤◌, List, [], ◌∷◌, ◌++◌, length, map, take, drop, get_or, Bool, Result, Ok, Err, refl, sym, ap, ◌∙◌, inr, arith, set, length-take-le, length-append, length-drop, length-map, map-append, AllZip, remove, splice, slice_set, Text, File, file_at, KeptFile, kept_file, spliced, Marked, Splices, whole_mark, new_mark, mark_at, lost, known_marks, IsFit, AreFit, SplicesMark, Watched, MarksAfter, MarksGiven, Splice, LosesMarks, changes_hits, true, EditFault, Syntax, Flag, SetSyntax, SetFlag, option_of}, lemmas.DroppingLemmas.AllZip-remove}, std.proofs.lemmas.List.{get_or-map, get_or-set_same, length-set}}

-- ---- two lists of which a relation holds place by place

module _ {A B : Type 0} (R : A → B → Type 0) where
  zip-append : (xs : List A) (ys : List B) (x : A) (y : B) → AllZip R xs ys → R x y → AllZip R (xs ++ x ∷ []) (ys ++ y ∷ [])
  zip-append [] [] x y h r = (r, tt)
  zip-append [] (b ∷ ys) x y h r = absurd h
  zip-append (a ∷ xs) [] x y h r = absurd h
  zip-append (a ∷ xs) (b ∷ ys) x y h r = (h.0, zip-append xs ys x y h.1 r)

  pub zip-set : (xs : List A) (ys : List B) (k : ℕ) (x : A) (y : B) → AllZip R xs ys → R x y → AllZip R (set xs k x) (set ys k y)
  zip-set [] [] k x y h r = tt
  zip-set [] (b ∷ ys) k x y h r = absurd h
  zip-set (a ∷ xs) [] k x y h r = absurd h
  zip-set (a ∷ xs) (b ∷ ys) zero x y h r = (r, h.1)
  zip-set (a ∷ xs) (b ∷ ys) (suc k) x y h r = (h.0, zip-set xs ys k x y h.1 r)

  zip-map : (f : B → B) → ((x : A) (y : B) → R x y → R x (f y)) → (xs : List A) (ys : List B) → AllZip R xs ys → AllZip R xs (map f ys)
  zip-map f step [] [] h = tt
  zip-map f step [] (b ∷ ys) h = absurd h
  zip-map f step (a ∷ xs) [] h = absurd h
  zip-map f step (a ∷ xs) (b ∷ ys) h = (step a b h.0, zip-map f step xs ys h.1)

  pub zip-at : (xs : List A) (ys : List B) (k : ℕ) (x : A) (y : B) → k < length xs → AllZip R xs ys → R (get_or xs k x) (get_or ys k y)
  zip-at [] ys k x y l h = absurd (omega arith)
  zip-at (a ∷ xs) [] k x y l h = absurd h
  zip-at (a ∷ xs) (b ∷ ys) zero x y l h = h.0
  zip-at (a ∷ xs) (b ∷ ys) (suc k) x y l h = zip-at xs ys k x y (omega arith) h.1

  pub zip-length : (xs : List A) (ys : List B) → AllZip R xs ys → length xs ≡ length ys
  zip-length [] [] h = refl
  zip-length [] (b ∷ ys) h = absurd h
  zip-length (a ∷ xs) [] h = absurd h
  zip-length (a ∷ xs) (b ∷ ys) h = rw (zip-length xs ys h.1)

-- ---- one mark

pub length-splice : (lines come : List Text) (start count : ℕ) → start + count ≤ length lines → length (splice lines start (start + count) come) ≡ start + (length come + (length lines - (start + count)))
length-splice lines come start count h =
    omega (arith, length-append (take start lines) (come ++ drop (start + count) lines), length-append come (drop (start + count) lines), length-take-le start lines (omega arith), length-drop (start + count) lines)

fits_lost : (file : File) (mark : Marked) → IsFit file mark → IsFit file (lost mark)
fits_lost file mark fits = (fits.0, (0, 0, omega arith, omega arith, refl))

fits_new : (file : File) (mark : Marked) → mark ≡ new_mark (length file.lines) → IsFit file mark
fits_new file mark is = rw is (refl, (0, 0, refl, omega arith, refl))

-- ---- the marks of all files

module _ (files : List File) (marks : List Marked) (fit : AreFit files marks) where
  -- there is a mark for each file
  pub as_many : length marks ≡ length files
  as_many = sym (zip-length IsFit files marks fit)

  pub fit_added : (file : File) → AreFit (files ++ file ∷ []) (marks ++ new_mark (length file.lines) ∷ [])
  fit_added file = zip-append IsFit files marks file (new_mark (length file.lines)) fit (fits_new file (new_mark (length file.lines)) refl)

  pub fit_dropped : (k : ℕ) → AreFit (remove files k) (remove marks k)
  fit_dropped k = AllZip-remove IsFit files marks k fit

  pub fit_lost : AreFit files (map lost marks)
  fit_lost = zip-map IsFit lost fits_lost _ _ fit

  -- the mark of one of them
  pub fit_at : (k : ℕ) → k < length files → IsFit (file_at files k) (mark_at marks k)
  fit_at k inside = zip-at IsFit files marks k (file_at [] k) (whole_mark 0) inside fit

  pub fit_spliced : (k start count : ℕ) (come : List Text) → k < length files → start + count ≤ length (file_at files k).lines → (mark : Marked) → Splices start count (length come) (mark_at marks k) mark → AreFit (spliced files k start count come) (slice_set marks k mark)
  fit_spliced k start count come inside within mark s =
      let file = file_at files k in
      let many : mark.lines ≡ length (splice file.lines start (start + count) come) =
      omega (arith, (fit_at k inside).0, length-splice file.lines come start count within) in
      zip-set IsFit _ _ k _ _ fit (many, s.fits)

  -- the mark of a file in which lines were replaced, so that it has `lines` lines
  module _ (k start count : ℕ) (come : List Text) (inside : k < length files) (within : start + count ≤ length (file_at files k).lines) (lines : ℕ) (is : lines ≡ length (splice (file_at files k).lines start (start + count) come)) where
    pub mark_within : start + count ≤ (mark_at marks k).lines
    mark_within = omega (arith, (fit_at k inside).0)

    pub mark_rest : (mark_at marks k).lines - count ≤ lines
    mark_rest = omega (arith, length-splice (file_at files k).lines come start count within, (fit_at k inside).0)

    pub mark_spliced : (more : List Marked) → SplicesMark k start count (lines - ((mark_at marks k).lines - count)) marks more → SplicesMark k start count (length come) marks more
    mark_spliced more s =
        let same : lines - ((mark_at marks k).lines - count) ≡ length come = omega (arith, length-splice (file_at files k).lines come start count within, (fit_at k inside).0) in
        rw same at s

-- how many lines a file has in which some were replaced
pub lines_spliced : (files : List KeptFile) (old : List File) (k start count : ℕ) (come : List Text) (here : KeptFile) → k < length old → map kept_file files ≡ spliced old k start count come → here ≡ get_or files k here → length (kept_file here).lines ≡ length (splice (file_at old k).lines start (start + count) come)
lines_spliced files old k start count come here inside all at =
    let file = record (file_at old k) { lines = splice (file_at old k).lines start (start + count) come } in
    let none = file_at [] k in
    let one = ap kept_file at ∙ sym (get_or-map kept_file files k here none (omega (arith, length-map files kept_file, ap length all, length-set old k file))) ∙ ap (λ fs. get_or fs k none) all ∙ get_or-set_same old k file none inside in
    ap (λ (f : File). length f.lines) one

-- all changes are reported
pub known_marks_are : (files : List File) (marks : List Marked) → AreFit files marks → map (λ (mark : Marked). whole_mark mark.lines) marks ≡ known_marks files
known_marks_are [] [] fit = refl
known_marks_are [] (mark ∷ marks) fit = absurd fit
known_marks_are (file ∷ files) [] fit = absurd fit
known_marks_are (file ∷ files) (mark ∷ marks) fit = λ i. whole_mark (fit.0.0 i) ∷ known_marks_are files marks fit.1 i

pub known_fit : (files : List File) → AreFit files (known_marks files)
known_fit [] = tt
known_fit (file ∷ files) = ((refl, refl), known_fit files)

-- marks that fit, of lists that are the same
pub fit_as : (files new : List File) (marks more : List Marked) → new ≡ files → more ≡ marks → AreFit files marks → AreFit new more
fit_as files new marks more f m fit = rw f (rw m fit)

-- all were lost
pub fit_lose : (files new : List File) (marks more : List Marked) → new ≡ files → more ≡ map lost marks → AreFit files marks → AreFit new more
fit_lose files new marks more f m fit = fit_as _ _ _ _ f m (fit_lost _ _ fit)

-- a file was added
pub fit_pushed : (files : List KeptFile) (marks : List Marked) (file : KeptFile) (new : List KeptFile) (more : List Marked) → new ≡ files ++ file ∷ [] → more ≡ marks ++ new_mark (length (kept_file file).lines) ∷ [] → AreFit (map kept_file files) marks → AreFit (map kept_file new) more
fit_pushed files marks file new more f m fit = fit_as (map kept_file files ++ kept_file file ∷ []) (map kept_file new) (marks ++ new_mark (length (kept_file file).lines) ∷ []) more (cc (map-append kept_file files (file ∷ []))) m (fit_added (map kept_file files) marks fit (kept_file file))

-- ---- marks that edits are promised to leave

-- where a new value of the syntax, or of an option, leaves no line untouched
pub given_syntax : {T : Type 0} (syntax : Syntax) (old : Watched) (new : List Marked) (result : Result T EditFault) → (syntax ≡ old.inputs.syntax → ⊥) → LosesMarks old.marks new result → MarksGiven (SetSyntax syntax) old new result
given_syntax syntax old new (Ok done) other loses = inr (other, loses)
given_syntax syntax old new (Err fault) other loses = loses

-- where lines were replaced
pub given_splice : (k start count : ℕ) (lines come : List Text) (old : Watched) (new : List Marked) → come ≡ lines → SplicesMark k start count (length come) old.marks new → MarksAfter (Splice k start count lines) old new
given_splice k start count lines come old new same s =
    let all = rw same at s in
    all

pub given_flag : {T : Type 0} (flag : Flag) (on : Bool) (old : Watched) (new : List Marked) (result : Result T EditFault) → (option_of flag old.inputs.options ≡ on → ⊥) → changes_hits flag ≡ true → LosesMarks old.marks new result → MarksGiven (SetFlag flag on) old new result
given_flag flag on old new (Ok done) other changes loses = inr (other, rw changes loses)
given_flag flag on old new (Err fault) other changes loses = loses
