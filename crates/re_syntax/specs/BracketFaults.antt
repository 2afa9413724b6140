-- The one fault of a text that a bracket expression opens and that begins none (XBD 9.3.5): its
-- kind, and the text from its place on. An unclosed bracket's place is its opening.
use Rattle.std.specs.Prelude.{◌<◌, codes, ℕ, ◌∷◌, ◌≢◌, ◌≡◌, ◌⊎◌, ◌++◌, []}
use Rattle.re_syntax.specs.declared.bracket.ListPlace.{ListPlace, TheVariants.First}
use Rattle.re_syntax.specs.declared.fault.FaultKind.TheVariants.{UnclosedBracket, BadRange}
use Rattle.re_syntax.specs.declared.fault.FaultKind.TheVariants.{BadClass, BadCollatingSymbol}
use Rattle.re_syntax.specs.{declared.fault.FaultKind.FaultKind, Brackets.{Element, Point}}
use Rattle.re_trees.specs.{declared.class.Class.Class, Bytes.{Text, Begins, Bytes, class_name}}

module _ (opening : Text) where
  -- no point is here: a `[.` without one byte and `.]`, or the text's end
  pub data PointFault : Text → FaultKind → Text → Type 0 where
    symbol : {t : Text} → ((b : ℕ) → ¬ Begins (b ∷ codes ".]") t) →
        PointFault (codes "[." ++ t) BadCollatingSymbol (codes "[." ++ t)
    ended : PointFault [] UnclosedBracket opening

  -- no range's end is here, after the hyphen of a range from a byte
  pub data RangeFault (first : ℕ) : Text → FaultKind → Text → Type 0 where
    no_end : {t from : Text} {kind : FaultKind} → PointFault t kind from →
        RangeFault first t kind from
    of_class : {t : Text} → Begins (codes "[:") t ⊎ Begins (codes "[=") t →
        RangeFault first t BadRange (codes "-" ++ t)
    descends : {t u : Text} {last : ℕ} → Point t u last → last < first →
        RangeFault first t BadRange (codes "-" ++ t)

  -- no element is here, at a place of the list
  pub data ElementFault (p : ListPlace) : Text → FaultKind → Text → Type 0 where
    no_class : {t : Text} → ((c : Class) → ¬ Begins (class_name c ++ codes ":]") t) →
        ElementFault p (codes "[:" ++ t) BadClass (codes "[:" ++ t)
    no_equivalence : {t : Text} → ((b : ℕ) → ¬ Begins (b ∷ codes "=]") t) →
        ElementFault p (codes "[=" ++ t) BadCollatingSymbol (codes "[=" ++ t)
    no_point : {t from : Text} {kind : FaultKind} → PointFault t kind from →
        ElementFault p t kind from
    -- a range has no end
    no_range : {t u from : Text} {first : ℕ} {kind : FaultKind} →
        Point t (codes "-" ++ u) first → ¬ Begins (codes "]") u →
        (Begins (codes "]") t ⊎ Begins (codes "-") t → p ≡ First) →
        RangeFault first u kind from → ElementFault p t kind from
    -- a hyphen that may begin no range, and another that is not the last: the text ends, or goes on
    cut_off : p ≢ First → ElementFault p (codes "--") UnclosedBracket opening
    stray : {u : Text} → p ≢ First → u ≢ [] → ¬ Begins (codes "]") u →
        ElementFault p (codes "--" ++ u) BadRange (codes "-" ++ u)

  -- the first place of a list where no element is
  pub data ListFault : ListPlace → Text → FaultKind → Text → Type 0 where
    here : {p : ListPlace} {t from : Text} {kind : FaultKind} → ElementFault p t kind from →
        ListFault p t kind from
    later : {p q : ListPlace} {t u from : Text} {a : Bytes} {kind : FaultKind} →
        Element p t u a q → ListFault q u kind from → ListFault p t kind from

pub data BracketFault : Text → FaultKind → Text → Type 0 where
  matching : {t from : Text} {kind : FaultKind} → ¬ Begins (codes "^") t →
      ListFault (codes "[" ++ t) First t kind from → BracketFault (codes "[" ++ t) kind from
  non_matching : {t from : Text} {kind : FaultKind} →
      ListFault (codes "[^" ++ t) First t kind from → BracketFault (codes "[^" ++ t) kind from
