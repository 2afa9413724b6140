-- The laws of the definitions: one output, one list of messages, one status, and one meaning of the
-- patterns.
use Rattle.{grep_core.proofs.{Prelude.{◌≡◌, Bool, [], ◌∷◌, refl, sym, ap, ◌∙◌, if◌then◌else◌, Syntax, Text, Expression, folded, IsMeant, Options, Out, Messages, StatusOf, IsOne, HasOneAnswer, MeansOne}, lemmas.{Determined.{Out-determined, Messages-determined, StatusOf-determined}, Exist.{Out-exist, Messages-exist, StatusOf-exist}}}, re_syntax.proofs.lemmas.SpelledUnique.spells_one}

-- a value for which P holds is the one, if P holds for no two
is_one : {A : Type 0} (P : A → Type 0) → (x : A) × P x → ((x y : A) → P x → P y → x ≡ y) → IsOne P
is_one P found once = (found.0, found.1, λ y p. once y found.0 p found.1)

-- there is one output, one list of messages and one status
pub has_one_answer : (options : Options) → HasOneAnswer options
has_one_answer options = record {
  one_output = (λ es files. is_one (Out es options files) (Out-exist es options files) (Out-determined es options files));
  one_list_of_messages = (λ es files. is_one (Messages es options files) (Messages-exist es options files) (Messages-determined es options files));
  one_status = (λ es files. is_one (StatusOf es options files) (StatusOf-exist es options files) (StatusOf-determined es options files));
}

-- a pattern means at most one expression
pub IsMeant-determined : (syntax : Syntax) (fold : Bool) (text : Text) (d e : Expression) → IsMeant syntax fold text d → IsMeant syntax fold text e → d ≡ e
IsMeant-determined syntax fold text d e p q =
    let same = spells_one text syntax p.0 q.0 p.1 q.1 in
    p.2 ∙ ap (λ s. if fold then folded s else s) same ∙ sym q.2

-- patterns mean at most one list of expressions
pub means_one : (syntax : Syntax) (options : Options) → MeansOne syntax options
means_one _ _ [] [] [] p q = refl
means_one _ _ [] [] (e ∷ es) p q = absurd q
means_one _ _ [] (d ∷ ds) _ p q = absurd p
means_one _ _ (text ∷ texts) [] _ p q = absurd p
means_one _ _ (text ∷ texts) (d ∷ ds) [] p q = absurd q
means_one syntax options (text ∷ texts) (d ∷ ds) (e ∷ es) p q =
    let first = IsMeant-determined syntax options.ignore_case text d e p.0 q.0 in
    let rest = means_one syntax options texts ds es p.1 q.1 in
    λ i. first i ∷ rest i
