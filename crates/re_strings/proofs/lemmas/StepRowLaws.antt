-- Rows of steps for many fixed strings: cells by classes of bytes.
use Rattle.re_strings.{proofs.{Prelude.{◌≡◌, ℕ, zero, suc, ◌+◌, ◌*◌, ◌/◌, ◌%◌, ◌<◌, ◌≤◌, ◌∙◌, inl, inr, List, [], ◌∷◌, ◌++◌, ap, sym, subst, refl, arith, cases_lt, cell_of, get_or, div-mul-add, mod-mul-add, get_or_append_left, get_or_push, length, length-append, take, drop, take-append-drop, take-append_seam, take-suc, drop-append-le, drop_of_length-le, slice_index, Text, IsFront, IsTrie, IsTrieOf, Labels, StepsOn}, lemmas.{SetSearch.row_read, SetSteps.front_shorter}}, specs.{Working.FixedSets.{AreClasses}, declared.step_rows.StepRows.{StepRows}}}

module _ (all : Labels) {first bytes : List ℕ} (trie : IsTrie first bytes) (t : IsTrieOf all first bytes) where
  -- what a string begins with is a node
  front_node : (x : Text) → IsFront all.strings x → (k : ℕ) → k ≤ length x → (n : ℕ) × (n < length bytes) × (all.label n ≡ take k x)
  front_node x front zero le = (0, trie.some, t.root)
  front_node x front (suc k) le =
      let (n, lt, is) = front_node x front k (omega arith) in
      let more : take (suc k) x ≡ take k x ++ slice_index x k ∷ [] = take-suc x k 0 (omega arith) in
      let begun : IsFront all.strings (take (suc k) x) = front_shorter all.strings (take (suc k) x) (drop (suc k) x) (rw (take-append-drop (suc k) x) front) in
      let goes : IsFront all.strings (all.label n ++ slice_index x k ∷ []) = rw is (rw more at begun) in
      let (m, (low, high), byte) = t.complete n (slice_index x k) lt goes in
      let within = trie.within n lt in
      (m, omega arith, t.child n m lt (low, high) ∙ (rw (byte, is) (sym more)))

  -- no string has a byte that no node has
  no_front : (b : ℕ) → ((m : ℕ) → 0 < m → m < length bytes → ¬ (slice_index bytes m ≡ b)) → (x : Text) → IsFront all.strings (x ++ b ∷ []) → ⊥
  no_front b none x front =
      let (n, lt, is) = front_node (x ++ b ∷ []) front (length x) (omega (arith, length-append x (b ∷ []))) in
      let here : IsFront all.strings (all.label n ++ b ∷ []) = rw is (rw (take-append_seam x (b ∷ [])) front) in
      let (m, (low, high), byte) = t.complete n b lt here in
      let within = trie.within n lt in
      let beyond = trie.beyond n lt in
      none m (omega arith) (omega arith) byte

  -- such a byte leads to the root
  pub other_byte : (b : ℕ) → ((m : ℕ) → 0 < m → m < length bytes → ¬ (slice_index bytes m ≡ b)) → (n : ℕ) → StepsOn all n b 0
  other_byte b none n w from s =
      rw t.root (record {
        start = length w + 1;
        low = let h = s.high in let l = s.low in omega arith;
        high = omega (arith, length-append w (b ∷ []));
        is = sym (drop_of_length-le (w ++ b ∷ []) (omega (arith, length-append w (b ∷ []))));
        none = λ j low lt front. no_front b none (drop j w) (rw (drop-append-le j w (b ∷ []) (omega arith)) at front);
      })

-- what holds of all cells so far, and of one more
pub with_more : (P : ℕ → ℕ → ℕ → Type 0) (w : ℕ) (class : ℕ → ℕ) (old new : List ℕ) (m : ℕ) → new ≡ old ++ m ∷ [] → ((b : ℕ) → b < 256 → class b < w)
    → ((n b : ℕ) → b < 256 → n * w + class b < length old → P n b (slice_index old (n * w + class b)))
    → ((b : ℕ) → b < 256 → class b ≡ length old % w → P (length old / w) b m)
    → (n b : ℕ) → b < 256 → n * w + class b < length new → P n b (slice_index new (n * w + class b))
with_more P w class old new m is fits had last n b lt within =
    elim (cases_lt (n * w + class b) (length old)) [
      | inl early ↦ rw (ap (λ l. slice_index l (n * w + class b)) is ∙ get_or_append_left old (m ∷ []) 0 (n * w + class b) early) (had n b lt early)
      | inr late ↦
          let at : length old ≡ n * w + class b = omega (arith, ap length is, length-append old (m ∷ [])) in
          let node : length old / w ≡ n = ap (λ k. k / w) at ∙ div-mul-add n w (class b) (fits b lt) in
          let byte : class b ≡ length old % w = sym (ap (λ k. k % w) at ∙ mod-mul-add n w (class b) (fits b lt)) in
          rw (ap (λ l. slice_index l (n * w + class b)) is ∙ get_or_push old m 0 (n * w + class b) at)
          (rw node at (last b lt byte))
    ]

-- the same where there is no row but the root's
pub root_alone : (P : ℕ → ℕ → ℕ → Type 0) (w : ℕ) (class : ℕ → ℕ) (cells : List ℕ) → length cells ≤ w
    → ((b : ℕ) → b < 256 → class b < length cells → P 0 b (slice_index cells (class b)))
    → (n b : ℕ) → b < 256 → n * w + class b < length cells → P n b (slice_index cells (n * w + class b))
root_alone P w class cells few root zero b lt within = let at : zero * w + class b ≡ class b = omega arith in rw at (root b lt (rw at at within))
root_alone P w class cells few root (suc n) b lt within = absurd (grind arith)

-- what holds of all elements, and of one more
pub all_more : (P : ℕ → ℕ → Type 0) (old new : List ℕ) (m : ℕ) → new ≡ old ++ m ∷ [] → ((k : ℕ) → k < length old → P k (slice_index old k)) → P (length old) m
    → (k : ℕ) → k < length new → P k (slice_index new k)
all_more P old new m is had last k within =
    elim (cases_lt k (length old)) [
      | inl early ↦ rw (ap (λ l. slice_index l k) is ∙ get_or_append_left old (m ∷ []) 0 k early) (had k early)
      | inr late ↦
          let at : length old ≡ k = omega (arith, ap length is, length-append old (m ∷ [])) in
          rw (ap (λ l. slice_index l k) is ∙ get_or_push old m 0 k at) (subst (λ n. P n m) at last)
    ]

module _ {nodes : List ℕ} (old new : StepRows) (are : AreClasses nodes old) where
  -- the next byte is one that no node has
  pub no_class : new.classes.items ≡ old.classes.items ++ 0 ∷ [] → new.bytes.items ≡ old.bytes.items
      → ((m : ℕ) → 0 < m → m < length nodes → ¬ (slice_index nodes m ≡ length old.classes.items)) → AreClasses nodes new
  no_class is same none = record {
    some = rw same are.some;
    few = let few = are.few in omega (arith, ap length is, length-append old.classes.items (0 ∷ []), ap length same);
    within = all_more (λ b c. c < length new.bytes.items) old.classes.items new.classes.items 0 is (λ b lt. rw same (are.within b lt)) (rw same are.some);
    own = all_more (λ b c. 0 < c → slice_index new.bytes.items c ≡ b) old.classes.items new.classes.items 0 is (λ b lt some. rw same (are.own b lt some)) (λ some. absurd (omega (arith, some)));
    others = all_more (λ b c. c ≡ 0 → (m : ℕ) → 0 < m → m < length nodes → ¬ (slice_index nodes m ≡ b)) old.classes.items new.classes.items 0 is are.others (λ _. none);
  }

  -- the next byte is a class
  pub own_class : new.classes.items ≡ old.classes.items ++ length old.bytes.items ∷ [] → new.bytes.items ≡ old.bytes.items ++ length old.classes.items ∷ [] → AreClasses nodes new
  own_class is more =
      let longer : length new.bytes.items ≡ length old.bytes.items + 1 = ap length more ∙ length-append old.bytes.items (length old.classes.items ∷ []) in
      record {
        some = omega arith;
        few = let few = are.few in omega (arith, ap length is, length-append old.classes.items (length old.bytes.items ∷ []));
        within = all_more (λ b c. c < length new.bytes.items) old.classes.items new.classes.items _ is (λ b lt. let low = are.within b lt in omega arith) (omega arith);
        own = all_more (λ b c. 0 < c → slice_index new.bytes.items c ≡ b) old.classes.items new.classes.items _ is
            (λ b lt some. ap (λ l. slice_index l (slice_index old.classes.items b)) more ∙ get_or_append_left old.bytes.items (length old.classes.items ∷ []) 0 (slice_index old.classes.items b) (are.within b lt) ∙ are.own b lt some)
            (λ _. ap (λ l. slice_index l (length old.bytes.items)) more ∙ get_or_push old.bytes.items (length old.classes.items) 0 (length old.bytes.items) refl);
        others = all_more (λ b c. c ≡ 0 → (m : ℕ) → 0 < m → m < length nodes → ¬ (slice_index nodes m ≡ b)) old.classes.items new.classes.items _ is are.others
            (λ none. absurd (let some = are.some in omega (arith, none)));
      }

-- more cells change no class
pub same_classes : {nodes : List ℕ} (old new : StepRows) → AreClasses nodes old → new.classes ≡ old.classes → new.bytes ≡ old.bytes → AreClasses nodes new
same_classes old new are classes bytes = rw (classes, bytes) (record { some = are.some; few = are.few; within = are.within; own = are.own; others = are.others })

-- at the root each byte has its cell
pub not_root : (n w c count : ℕ) → count ≤ n * w + c → c < count → 0 < n
not_root zero w c count past within = absurd (omega arith)
not_root (suc n) w c count past within = omega arith

-- the cell that is read is that of the node and the byte
pub cell_read : (steps : StepRows) (n b width count : ℕ) {class got : ℕ} → length steps.classes.items ≡ 256 → b < 256 → class ≡ get_or steps.classes.items b class
    → width ≡ length steps.bytes.items → count ≡ length steps.cells.items → n * width + class < count → got ≡ get_or steps.cells.items (n * width + class) got
    → (cell_of steps n b < length steps.cells.items) × (got ≡ slice_index steps.cells.items (cell_of steps n b))
cell_read steps n b width count {class} {got} all lt is wide many within read =
    let named : slice_index steps.classes.items b ≡ class = row_read steps.classes.items b (omega (arith, all)) is in
    let at : cell_of steps n b ≡ n * width + class = rw (named, wide) refl in
    let low : n * width + class < length steps.cells.items = rw many at within in
    (rw at low, rw at (sym (row_read steps.cells.items (n * width + class) low read)))
