-- Folding folds each part of a sequence or a choice. A tree whose parts are folded is the folded
-- tree.
use Rattle.re_trees.proofs.{Prelude.{◌≡◌, ℕ, List, [], ◌∷◌, map, Option, Vec, Box, Global, refl, sym, ap, ◌∙◌, Expression, cat, alt, repeat, expression_of, folded, Tree, Cat, Alt, Repeat}, lemmas.ExpressionLaws.{expression-Cat, expression-Alt, expression-Repeat}}

-- a sequence
pub folded-cat : (es : List Expression) → folded (cat es) ≡ cat (map folded es)
folded-cat [] = refl
folded-cat (e ∷ es) = rw (folded-cat es)

-- a choice
pub folded-alt : (es : List Expression) → folded (alt es) ≡ alt (map folded es)
folded-alt [] = refl
folded-alt (e ∷ es) = rw (folded-alt es)

-- a tree of a sequence
pub folded-Cat : (new old : Vec Tree Global) → map expression_of new.items ≡ map folded (map expression_of old.items) → expression_of (Cat new) ≡ folded (expression_of (Cat old))
folded-Cat new old e = expression-Cat new ∙ ap cat e ∙ sym (cc (expression-Cat old, folded-cat _))

-- a tree of a choice
pub folded-Alt : (new old : Vec Tree Global) → map expression_of new.items ≡ map folded (map expression_of old.items) → expression_of (Alt new) ≡ folded (expression_of (Alt old))
folded-Alt new old e = expression-Alt new ∙ ap alt e ∙ sym (cc (expression-Alt old, folded-alt _))

-- a tree of a repetition
pub folded-Repeat : (new old : Box Tree Global) (least : ℕ) (most : Option ℕ) → expression_of new.value ≡ folded (expression_of old.value) →
    expression_of (Repeat new least most) ≡ folded (expression_of (Repeat old least most))
folded-Repeat new old least most e = expression-Repeat new least most ∙ ap (λ x. repeat x least most) e ∙ sym (rw (expression-Repeat old least most))
