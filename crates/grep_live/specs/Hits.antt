-- Hits: the selected lines of files, as an editor lists them.
use Rattle.std.specs.{Prelude.{◌≡◌, ℕ, List, [], ◌∷◌, ⊤}, List.{enumerate_from, AllZip}}
use Rattle.re_syntax.specs.{Bytes.Text, Expression.Expression}
use Rattle.grep_core.specs.{declared.options.Options.Options, Choose.{IfHolds, EachGives}}
use Rattle.{grep_core.specs.Files.{File, Selected}, grep_session.specs.Listed.ListedParts}

-- three lists are of one length, and R holds of their elements at each place
abbrev pub AllThree : {A B C : Type 0} → (A → B → C → Type 0) → List A → List B → List C → Type 0
AllThree R [] [] [] = ⊤
AllThree R [] [] (z ∷ zs) = ⊥
AllThree R [] (y ∷ ys) zs = ⊥
AllThree R (x ∷ xs) [] zs = ⊥
AllThree R (x ∷ xs) (y ∷ ys) [] = ⊥
AllThree R (x ∷ xs) (y ∷ ys) (z ∷ zs) = R x y z × AllThree R xs ys zs

-- a selected line: its place in its file, counted from 0, its text, and its listed parts, each from
-- its first byte to the place after its last
pub record Hit : Type 0 where
  pub place : ℕ
  pub text : Text
  pub parts : List (ℕ × ℕ)

-- the lists of an editor: one list of hits for each file, in order
abbrev pub View : Type 0
View = List (List Hit)

module _ (es : List Expression) (options : Options) where
  -- the hits of one line, with its place: one where it is selected, and otherwise none
  abbrev pub HitOf : ℕ × Text → List Hit → Type 0
  HitOf line hits =
      IfHolds (Selected es options line.1)
      ((parts : List (ℕ × ℕ)) × ListedParts es options line.1 parts ×
      (hits ≡ record { place = line.0; text = line.1; parts = parts } ∷ []))
      (hits ≡ [])

  -- the hits of lines, the first of which has place `first`
  abbrev pub HitsFrom : ℕ → List Text → List Hit → Type 0
  HitsFrom first lines hits = EachGives HitOf (enumerate_from first lines) hits

  -- the hits of a file's lines
  abbrev pub Hits : List Text → List Hit → Type 0
  Hits lines hits = HitsFrom 0 lines hits

  abbrev pub AreHits : List File → View → Type 0
  AreHits files view = AllZip (λ file hits. Hits file.lines hits) files view
