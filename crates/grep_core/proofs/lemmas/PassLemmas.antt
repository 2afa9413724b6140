-- The rows that were written for the lines handed out, one more line at a time.
use Rattle.grep_core.proofs.Prelude.{ℕ, Bool, true, false, ◌||◌, Decides, [], ◌∷◌, Option, refl, ◌∙◌, append-nil, Text, output_line, GoesOut, StopsWithin, writer, TakesAll, TakesFront}

-- ---- writers

module _ {W : Type 0} (contents : W → Option Text) (failures : W → ℕ) where
  -- one line was written
  pub TakesAll-line : (a b : W) (text : Text) → GoesOut contents failures a b (output_line [] text) → TakesAll (writer contents failures a) (writer contents failures b) (text ∷ [])
  TakesAll-line a b text g = record {
    written_all = rw (append-nil (output_line [] text)) g.written;
    none_failed = g.none_failed;
  }

  -- a beginning of one line was written
  pub TakesFront-line : (a b : W) (text : Text) → StopsWithin contents failures a b (output_line [] text) → TakesFront (writer contents failures a) (writer contents failures b) (text ∷ [])
  TakesFront-line a b text s = record {
    front = s.front;
    rest = s.rest;
    cut = append-nil (output_line [] text) ∙ s.cut;
    written_front = s.written;
  }

-- ---- rows

-- the verdict on one of two
pub or_decides : {P Q : Type 0} (a b : Bool) → Decides a P → Decides b Q → {S : Type 0} → (P → S) → (Q → S) → (S → (P → ⊥) → (Q → ⊥) → ⊥) → Decides (a || b) S
or_decides true b p q f g none = ((λ _. f (p.0 refl)), (λ _. refl))
or_decides false true p q f g none = ((λ _. g (q.0 refl)), (λ _. refl))
or_decides false false p q f g none =
    ((λ e. absurd (cc)), (λ s. absurd (none s (λ x. let e = p.1 x in cc) (λ y. let e = q.1 y in cc))))
