-- Items that are written over an array, one more at a time.
use Rattle.gaxtrel.proofs.Prelude.{◌≡◌, ◌∙◌, ℕ, ◌+◌, ◌≤◌, List, [], ◌∷◌, ◌++◌, length, set, refl, sym, ap, arith, append-nil, append_assoc, length_push, put_over}

-- one more is written over the next element, if there is one
put_next : {A : Type 0} (done : List A) (item : A) (old : List A) → put_over (done ++ item ∷ []) old ≡ set (put_over done old) (length done) item
put_next [] item [] = refl
put_next [] item (x ∷ old) = refl
put_next (d ∷ done) item [] = refl
put_next (d ∷ done) item (x ∷ old) = ap (λ l. d ∷ l) (put_next done item old)

-- past the end nothing is written
pub put_full : {A : Type 0} (done more old : List A) → length old ≤ length done → put_over (done ++ more) old ≡ put_over done old
put_full [] [] old full = refl
put_full [] (m ∷ more) [] full = refl
put_full [] (m ∷ more) (x ∷ old) full = absurd (omega arith)
put_full (d ∷ done) more [] full = refl
put_full (d ∷ done) more (x ∷ old) full = ap (λ l. d ∷ l) (put_full done more old (omega arith))

-- `count` of all items were found and written over an array, and the others are those that are left
pub record PutSoFar {A : Type 0} (All Left : List A → Type 0) (count : ℕ) (old now : List A) : Type 0 where
  pub done : List A
  pub counted : count ≡ length done
  pub written : now ≡ put_over done old
  pub goes_on : (more : List A) → Left more → All (done ++ more)

module _ {A : Type 0} {All : List A → Type 0} where
  pub none_put : {old : List A} → PutSoFar All All 0 old old
  none_put = record { done = []; counted = refl; written = refl; goes_on = λ more are. are }

  -- one item more
  pub one_put : {Left Next : List A → Type 0} {item : A} {count : ℕ} {old mid now : List A} → PutSoFar All Left count old mid → ((more : List A) → Next more → Left (item ∷ more)) → now ≡ set mid count item → PutSoFar All Next (count + 1) old now
  one_put {item = item} {old = old} s found put = record {
    done = s.done ++ item ∷ [];
    counted = cc (s.counted, length_push s.done item);
    written = put ∙ (λ i. set (s.written i) (s.counted i) item) ∙ sym (put_next s.done item old);
    goes_on = λ more are. rw (append_assoc s.done (item ∷ []) more) (s.goes_on (item ∷ more) (found more are));
  }

  -- what is left is less
  pub less_left : {Left Next : List A → Type 0} {count : ℕ} {old now : List A} → PutSoFar All Left count old now → ((more : List A) → Next more → Left more) → PutSoFar All Next count old now
  less_left s less = record { done = s.done; counted = s.counted; written = s.written; goes_on = λ more are. s.goes_on more (less more are) }

  -- none is left
  pub all_put : {Left : List A → Type 0} {count : ℕ} {old now : List A} → PutSoFar All Left count old now → Left [] → (all : List A) × All all × (count ≡ length all) × (now ≡ put_over all old)
  all_put s none = (s.done, rw (append-nil s.done) at (s.goes_on [] none), s.counted, s.written)
