-- Matchers that are the same as before: where none was asked, over two calls, and where one of them was asked.
use Rattle.re_search.proofs.{Prelude.{◌≡◌, ℕ, List, get_or, refl, ◌∙◌, set, Matcher, matched_expression, wants_whole, room_of, IsSame, AreSame, Bool, sought_of, All, AreAlike, expressions_of, ap, length, length-map, subst, sym}, lemmas.OneMatcherMore.same_after}

-- a list has the same matchers as itself
pub none_asked : {ms : List Matcher} → AreSame ms ms
none_asked = record { same_expressions = refl; same_wholes = refl; same_rooms = refl }

-- what is the same after each of two calls is so after both
pub same_over : {old middle new : List Matcher} → AreSame middle new → AreSame old middle → AreSame old new
same_over later first = record { same_expressions = later.same_expressions ∙ first.same_expressions; same_wholes = later.same_wholes ∙ first.same_wholes; same_rooms = later.same_rooms ∙ first.same_rooms }

-- they are so still where the matcher at place i is replaced by one that is the same
pub one_kept : {old now : List Matcher} → AreSame old now → (i : ℕ) (d n : Matcher) → IsSame (get_or now i d) n → AreSame old (set now i n)
one_kept same i d n kept = record { same_expressions = same_after matched_expression _ _ same.same_expressions i d n kept.same_expression; same_wholes = same_after wants_whole _ _ same.same_wholes i d n kept.same_whole; same_rooms = same_after room_of _ _ same.same_rooms i d n kept.same_room }

-- they search for the same
pub same_sought : {whole : Bool} {old new : List Matcher} → AreSame old new → sought_of whole new ≡ sought_of whole old
same_sought {whole} same = λ i. record { expressions = same.same_expressions i; whole = whole }

-- they are as many, and agree as before on whether the whole line has to be matched
pub as_many : {old new : List Matcher} → AreSame old new → length new ≡ length (expressions_of old)
as_many {old} {new} same = sym (length-map new matched_expression) ∙ ap length same.same_expressions

pub still_alike : {whole : Bool} {old new : List Matcher} → AreSame old new → AreAlike whole old → AreAlike whole new
still_alike {whole} same alike = subst (All (λ w. w ≡ whole)) (sym same.same_wholes) alike
