-- The messages, file by file, up to the one at which `-q` stops.
use Rattle.{grep_core.proofs.{Prelude.{◌≡◌, Bool, true, false, List, [], ◌∷◌, ◌++◌, inl, inr, refl, MatchBool, Any, append-nil, Text, Expression, Options, EachGives, File, Stops, Reached, Message, Reported, Messages}, lemmas.{ChooseLaws.{EachGives-append, EachGives-exist}, Exist.{Reached-exist, Message-exist}}}, re_syntax.proofs.lemmas.Decisions.{Any-first, Any-later}}

module _ (es : List Expression) (options : Options) where
  -- after files at which a run does not stop, the files that are reached follow
  pub Reached-after : (front rest reached : List File) → (Any (Stops es options) front → ⊥) → Reached es options rest reached → Reached es options (front ++ rest) (front ++ reached)
  Reached-after [] _ _ none r = r
  Reached-after (file ∷ front) rest reached none r =
      (front ++ reached, refl, inr ((λ s. none (Any-first (Stops es options) file front s)), Reached-after front rest reached (λ a. none (Any-later (Stops es options) file front a)) r))

  -- where a run stops at no file, all are reached
  pub Reached-all : (files : List File) → (Any (Stops es options) files → ⊥) → Reached es options files files
  Reached-all files none = rw (append-nil files) at (Reached-after files [] [] none refl)

  -- where a run stops at a file, it is the last that is reached
  pub Reached-stopped : (front rest : List File) (file : File) → (Any (Stops es options) front → ⊥) → Stops es options file → Reached es options (front ++ file ∷ rest) (front ++ file ∷ [])
  Reached-stopped _ _ _ none stops = Reached-after _ _ _ none ([], refl, inl (stops, refl))

  -- the messages are those about the files that are reached
  pub Messages-reached : (files reached : List File) (reported : List Text) → Reached es options files reached → Reported es options reached reported → Messages es options files reported
  Messages-reached files reached reported r t = by_flag options.no_messages t
    where
      by_flag : (none : Bool) → MatchBool none (reported ≡ []) (EachGives (Message es options) reached reported) →
          MatchBool none (reported ≡ []) ((reached : List File) × Reached es options files reached × EachGives (Message es options) reached reported)
      by_flag true h = h
      by_flag false h = (reached, r, h)

  -- no file has no message
  pub Reported-nothing : Reported es options [] []
  Reported-nothing = by_flag options.no_messages
    where
      by_flag : (none : Bool) → MatchBool none (◌≡◌ {A = List Text} [] []) (EachGives (Message es options) [] [])
      by_flag true = refl
      by_flag false = refl

  -- the messages about some files, and about others after them
  pub Reported-append : (xs ys : List File) (us vs : List Text) → Reported es options xs us → Reported es options ys vs → Reported es options (xs ++ ys) (us ++ vs)
  Reported-append xs ys us vs a b = by_flag options.no_messages a b
    where
      by_flag : (none : Bool) → MatchBool none (us ≡ []) (EachGives (Message es options) xs us) → MatchBool none (vs ≡ []) (EachGives (Message es options) ys vs) →
          MatchBool none (us ++ vs ≡ []) (EachGives (Message es options) (xs ++ ys) (us ++ vs))
      by_flag true h k = λ i. h i ++ k i
      by_flag false h k = EachGives-append _ xs ys us vs h k

  -- any files have a list of messages about them, which may be empty
  pub Reported-exist : (files : List File) → (reported : List Text) × Reported es options files reported
  Reported-exist files = by_flag options.no_messages
    where
      by_flag : (none : Bool) → (reported : List Text) × MatchBool none (reported ≡ []) (EachGives (Message es options) files reported)
      by_flag true = ([], refl)
      by_flag false = EachGives-exist (Message es options) (Message-exist es options) files

  -- the messages about files at which a run does not stop are a beginning of all messages
  pub Messages-front : (front rest : List File) (reported : List Text) → (Any (Stops es options) front → ⊥) → Reported es options front reported → (more : List Text) × Messages es options (front ++ rest) (reported ++ more)
  Messages-front front rest reported none t =
      let reached = Reached-exist es options rest in
      let more = Reported-exist reached.0 in
      (more.0, Messages-reached (front ++ rest) (front ++ reached.0) (reported ++ more.0) (Reached-after front rest reached.0 none reached.1) (Reported-append front reached.0 reported more.0 t more.1))
