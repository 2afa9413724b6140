use Rattle.{grep_utility.proofs.Prelude.{◌≡◌, ℕ, List, Option, Some, None, inl, inr, length, sym, ◌∙◌, nat_lt, option_map, is_some, slice_get, lt-ltb, le-ltb, slice_get_within, slice_get_cases, nth_from_yields_List, YieldsList-from_first}, re_syntax.specs.Lines.lines_of}
use Rattle.grep_utility.proofs.searchers.has_more_than.Goals as goal

-- something is at a place where the list reaches it, and only there
reaches : {A B : Type 0} (v : A → B) (r : Option A) (xs : List B) (n : ℕ) → option_map v r ≡ slice_get xs n → is_some r ≡ nat_lt n (length xs)
reaches v (Some x) xs n e = sym (lt-ltb n (length xs) (slice_get_within xs n (v x) (sym e)))
reaches v None xs n e = elim (slice_get_cases xs n).1 [ inl h ↦ absurd (cc h.2) | inr h ↦ sym (le-ltb n (length xs) h.0) ]

pub returns : goal.returns
returns c =
    let texts = lines_of c.args.texts.now in
    let all = YieldsList-from_first (λ x. x.now) (λ texts. texts) texts c.split_file.ensures in
    c.is_some.ensures ∙ reaches (λ x. x.now) _ texts c.args.most (nth_from_yields_List _ _ c.args.most c.nth.ensures.ran all)
