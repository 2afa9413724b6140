-- Lines with a newline between each two, one line more at a time.
use Rattle.script_commands.proofs.Prelude.{Text, joined, newline, List, [], ap, append_assoc, arith, eqb-true, false, get_or, if◌then◌else◌, length, length-take, nat_eq, refl, sym, take, ℕ, ◌++◌, ◌+◌, ◌<◌, ◌∙◌, ◌∷◌, ◌≡◌, false_from_ne_true, take_more}

joined-push : (t : Text) (ts : List Text) (u : Text) → joined ((t ∷ ts) ++ u ∷ []) ≡ joined (t ∷ ts) ++ newline ∷ u
joined-push t [] u = refl
joined-push t (v ∷ ts) u = ap (λ l. t ++ newline ∷ l) (joined-push v ts u) ∙ sym (append_assoc t (newline ∷ joined (v ∷ ts)) (newline ∷ u))

pub joined-next : (ts : List Text) (u text new : Text) → text ≡ joined ts → new ≡ text ++ (if nat_eq (length ts) 0 then u else newline ∷ u) → new ≡ joined (ts ++ u ∷ [])
joined-next [] u text new is more = more ∙ ap (λ l. l ++ u) is
joined-next (t ∷ ts) u text new is more =
    let some : nat_eq (length (t ∷ ts)) 0 ≡ false = false_from_ne_true _ (λ e. let none = eqb-true (length (t ∷ ts)) 0 e in absurd (omega (arith, none))) in
    more ∙ ap (λ b. text ++ (if b then u else newline ∷ u)) some ∙ ap (λ l. l ++ newline ∷ u) is ∙ sym (joined-push t ts u)

pub joined-next-at : (ts : List Text) (i : ℕ) (u text new : Text) → i < length ts → get_or ts i [] ≡ u → text ≡ joined (take i ts) → new ≡ text ++ (if nat_eq i 0 then u else newline ∷ u)
    → new ≡ joined (take (i + 1) ts)
joined-next-at ts i u text new h is so_far more =
    let long : length (take i ts) ≡ i = take-length ts i h in
    joined-next (take i ts) u text new so_far (more ∙ ap (λ n. text ++ (if nat_eq n 0 then u else newline ∷ u)) (sym long)) ∙ ap joined (ap (λ l. take i ts ++ l ∷ []) (sym is) ∙ sym (take_more ts i [] h))
  where
    take-length : (xs : List Text) (n : ℕ) → n < length xs → length (take n xs) ≡ n
    take-length xs n below = omega (arith, below, length-take n xs)
