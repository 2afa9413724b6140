use Rattle.re_steps.proofs.{Prelude.{arith, ◌≡◌, ◌<◌, ◌⊎◌, ℕ, inl, inr, length, eq-eqb, refl, sym, ◌∙◌, false≢true, Text, expression_in}, lemmas.{RowLaws.mark_of_set, WalkLaws.is_search}}
use Rattle.re_steps.proofs.table.StepTable.is_matched_at_once.Goals as goal

positive : (line : Text) → (length line ≡ 0 → ⊥) → 0 < length line
positive line some = elim (sides (length line)) [ inl none ↦ absurd (some none) | inr more ↦ more ]
  where
    sides : (n : ℕ) → (n ≡ 0) ⊎ (0 < n)
    sides n = search arith

pub returns-clause-yes : goal.returns-clause-yes
returns-clause-yes c = λ start is yes.
    let e = expression_in c.args.asked.now in
    let search = is_search c.args.asked.now.mode c.if-eq.ensures in
    let mark = mark_of_set c.requires.right.sound 1 start c.mark.result is c.mark.ensures in
    record {
      search = search;
      within = positive _ (λ none. false≢true (c.if-is_empty.ensures ∙ eq-eqb (length c.args.asked.now.line.now) 0 none));
      accepting = rw search at (mark.inside.0 yes);
      yes = refl;
    }

pub returns-clause-no : goal.returns-clause-no
returns-clause-no c = λ start is no some search accepts.
    let e = expression_in c.args.asked.now in
    let mark = mark_of_set c.requires.right.sound 1 start c.mark.result is c.mark.ensures in
    false≢true (sym no ∙ mark.inside.1 (rw search accepts))
