-- What a limited read does to the known bytes.
use Rattle.grep_io.proofs.Prelude.{◌≡◌, ℕ, zero, suc, ◌+◌, ◌-◌, ◌<◌, ◌≤◌, [], ◌∷◌, ◌++◌, Option, None, Some, length, take, refl, ap, arith, Consumes, IsAtEnd, Text, limited}

-- the first of some bytes and of what follows them
take_front : (bs ys : Text) (left m : ℕ) → length bs + m ≡ left → take left (bs ++ ys) ≡ bs ++ take m ys
take_front [] ys left m h = ap (λ k. take k ys) (omega arith)
take_front (b ∷ bs) ys zero m h = absurd (omega arith)
take_front (b ∷ bs) ys (suc left) m h = rw (take_front bs ys left m (omega arith))

-- nothing is taken of nothing
take_none : (n : ℕ) → take {A = ℕ} n [] ≡ []
take_none zero = refl
take_none (suc n) = refl

-- after a read of n bytes, n fewer may still be read
pub limited-Consumes : {n : ℕ} (step left : ℕ) (old new : Option Text) (bs : Text) → length bs ≡ n → n ≤ left → n ≤ step → Consumes old new bs → Consumes (limited step left old) (limited step (left - n) new) bs
limited-Consumes zero left old new [] e l s p = refl
limited-Consumes zero left old new (b ∷ bs) e l s p = absurd (omega arith)
limited-Consumes (suc step) left None new bs e l s p = tt
limited-Consumes (suc step) left (Some xs) None bs e l s p = absurd p
limited-Consumes {n} (suc step) left (Some xs) (Some ys) bs e l s p = cc (take_front bs ys left (left - n) (omega arith))

-- at the end of the reader beneath nothing is left
pub limited-end : (step left : ℕ) (new : Option Text) → (0 < step → IsAtEnd new) → IsAtEnd (limited step left new)
limited-end zero left new h = refl
limited-end (suc step) left None h = tt
limited-end (suc step) left (Some ys) h = cc (h (omega arith), take_none left)
