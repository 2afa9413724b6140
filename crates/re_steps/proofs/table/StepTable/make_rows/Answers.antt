use Rattle.re_steps.proofs.{Prelude.{◌≡◌, ◌++◌, ◌∷◌, [], List, true, inl, inr, refl, sym, ap, ◌∙◌, false≢true, Text, Expression, Mode, StateSet, StandsAt, expression_in}, lemmas.RowLaws.get_cases}
use Rattle.re_steps.proofs.table.StepTable.make_rows.Goals as goal

-- the set of a line's first place has its mark
marked : (e : Expression) (mode : Mode) (set : StateSet) → ((line : Text) → StandsAt e mode line 0 set) → set.at_begin ≡ true
unfolding StandsAt
marked e mode set stands = (stands []).0

-- the one set that there is
only : (old new : List StateSet) (set : StateSet) → old ≡ [] → new ≡ old ++ set ∷ [] → new ≡ set ∷ []
only old new set none is = is ∙ ap (λ ks. ks ++ set ∷ []) none

pub add-requires-2-clause-fresh : goal.add-requires-2-clause-fresh
add-requires-2-clause-fresh c = λ t other is same.
    let nowhere = c.in_ok-nowhere.nowhere in
    elim (get_cases [] _ t _ (rw (only _ _ _ c.requires.blank.sets c.in_ok-add.ensures.added) at is)) [
      | inl early ↦ cc
      | inr last ↦
          let mark : nowhere.at_begin ≡ true = ap (λ (s : StateSet). s.at_begin) last.1 ∙ same.1 ∙ marked (expression_in c.args.asked.now) c.args.asked.now.mode c.start.new.into (c.start.ensures.stands c.args.asked.now.mode) in
          false≢true (sym c.in_ok-nowhere.ensures.nowhere.0 ∙ mark)
    ]

pub returns-clause-right : goal.returns-clause-right
returns-clause-right c =
    let nowhere = c.in_ok-nowhere.nowhere in
    let start = c.start.new.into in
    let keys : c.add-2.new.self.sets.keys ≡ nowhere ∷ start ∷ [] = c.in_ok-add-2.ensures.added ∙ ap (λ ks. ks ++ start ∷ []) (only _ _ _ c.requires.blank.sets c.in_ok-add.ensures.added) in
    record {
      sound = c.in_ok-add-2.ensures.sound;
      first = record {
        nowhere = nowhere;
        is_nowhere = rw keys refl;
        empty = c.in_ok-nowhere.ensures.nowhere;
        start = start;
        is_start = rw keys refl;
        stands = c.start.ensures.stands c.args.asked.now.mode;
      };
    }
