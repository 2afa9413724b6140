use Rattle.gaxtrel.proofs.{Prelude.{◌≡◌, ◌∙◌, ◌*◌, ◌+◌, ◌<◌, ◌≤◌, inl, inr, length, min, ap, arith, refl, rules, subst, sym, length-map, expressions_of, Allows, Kept, terms_of}, KeptLemmas.{past_limit, some_of, within_limit}}
use Rattle.gaxtrel.proofs.patterns.Patterns.most_of.Goals as goal

pub returns-then-self-eq0-clause-within : goal.returns-then-self-eq0-clause-within
returns-then-self-eq0-clause-within c = subst (λ (k : Kept). Allows (terms_of k) c.args.bytes) c.self.view_is (inl c.if-self-eq0.true)

pub returns-then-matchers-eq0-clause-within : goal.returns-then-matchers-eq0-clause-within
returns-then-matchers-eq0-clause-within c =
    let len : length c.self.inside.matchers.items ≡ c.len-matchers.result = search rules in
    let none : length (expressions_of c.self.inside.matchers.items) ≡ 0 = length-map _ _ ∙ len ∙ c.if-matchers-eq0.true in
    let low : 0 * (c.args.bytes + 1) ≤ c.self.inside.limit = omega arith in
    subst (λ (k : Kept). Allows (terms_of k) c.args.bytes) c.self.view_is (inr (inr (subst (λ n. n * (c.args.bytes + 1) ≤ c.self.inside.limit) (sym none) low)))

pub returns-clause-within : goal.returns-clause-within
returns-clause-within c =
    let len : length c.self.inside.matchers.items ≡ c.len-matchers.result = search rules in
    subst (λ (k : Kept). Allows (terms_of k) c.min.result) c.self.view_is
    (within_limit (record { apart = c.self.inside.apart; matchers = length (expressions_of c.self.inside.matchers.items); limit = c.self.inside.limit }) c.len-matchers.result c.min.result c.args.bytes (length-map _ _ ∙ len) _ refl (c.min.ensures ∙ ap (min c.args.bytes) c.saturating_sub.ensures))

pub returns-clause-most : goal.returns-clause-most
returns-clause-most c =
    let len : length c.self.inside.matchers.items ≡ c.len-matchers.result = search rules in
    subst (λ (k : Kept). c.min.result < c.args.bytes → Allows (terms_of k) (c.min.result + 1) → ⊥) c.self.view_is
    (past_limit (record { apart = c.self.inside.apart; matchers = length (expressions_of c.self.inside.matchers.items); limit = c.self.inside.limit }) c.len-matchers.result c.min.result c.args.bytes (length-map _ _ ∙ len) _ refl (c.min.ensures ∙ ap (min c.args.bytes) c.saturating_sub.ensures) (some_of _ c.if-matchers-eq0.false) c.if-self-eq0.false)
