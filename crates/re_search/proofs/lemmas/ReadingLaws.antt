-- What the text of a pattern is read as and means, and why it is refused.
use Rattle.{re_search.proofs.Prelude.{◌≡◌, ℕ, ◌+◌, ◌*◌, ◌<◌, ◌^◌, List, [], ◌∷◌, ◌++◌, length, IsTrue, Bool, true, false, true≢false, inl, inr, map, refl, sym, ap, ◌∙◌, ◌≤◌, arith, if◌then◌else◌, PatternFault, Syntax, Fixed, Text, HasPositions, TooLarge, Expression, empty, one_of, none_of, begin, end, cat_none, cat_more, alt_none, alt_more, repeat, byte, cat, alt, sequence, folded, copies, positions, most_positions, up_to_word, IsMeant, IsSpelled, expression_of, has_limit, IsSmallFor, IsReadable, IsRefusedFor, Pattern, String, Tree, pattern_expression, meaning, meant_by, IsPattern}, std.specs.Borrow.Bor, re_syntax.proofs.lemmas.{SpelledUnique.{spells_one, fault_spells_none}, FixedTokens.fixed_spelled}}
use Rattle.re_trees.specs.declared.tree.Tree.{Tree as SyntaxTree}

-- a text means one expression
pub means_one : (syntax : Syntax) (fold : Bool) (text : Text) (d e : Expression) → IsMeant syntax fold text d → IsMeant syntax fold text e → d ≡ e
means_one syntax fold text d e m n = m.2 ∙ ap (λ s. if fold then folded s else s) (spells_one text syntax m.0 n.0 m.1 n.1) ∙ sym n.2

-- folding does not change the number of positions
folded_positions : (e : Expression) → positions (folded e) ≡ positions e
folded_positions empty = refl
folded_positions (one_of s) = refl
folded_positions (none_of s) = refl
folded_positions begin = refl
folded_positions end = refl
folded_positions cat_none = refl
folded_positions (cat_more e rest) = omega (arith, folded_positions e, folded_positions rest)
folded_positions alt_none = refl
folded_positions (alt_more e rest) = omega (arith, folded_positions e, folded_positions rest)
folded_positions (repeat e least most) = ap (λ n. copies least most * n) (folded_positions e)

-- what a text means has the same number as what it spells
pub meant_positions : (fold : Bool) (s : Expression) → positions (meaning fold s) ≡ positions s
meant_positions true s = folded_positions s
meant_positions false s = refl

-- a text with too many positions is refused for that
pub too_many : (syntax : Syntax) (fold : Bool) (text : Text) (count : ℕ) (fault : PatternFault) → IsTrue (has_limit syntax fold) → HasPositions syntax text count →
    most_positions < count → ◌≡◌ {A = PatternFault} fault (record { kind = TooLarge; at = 0 }) → IsRefusedFor syntax fold text fault
too_many syntax fold text count fault limited has many e =
    inr (record {
      reported = e;
      limited = limited;
      meaning = meaning fold has.expression;
      meant = (has.expression, has.spelled, refl);
      large = omega (arith, many, has.counted, meant_positions fold has.expression);
    })

-- ---- of a choice

pub choice_positions : (es : List Expression) (e : Expression) → positions (alt (es ++ e ∷ [])) ≡ positions (alt es) + positions e
choice_positions [] e = omega arith
choice_positions (d ∷ es) e = omega (arith, choice_positions es e)

-- the positions of a fixed string are its bytes
positions_bytes : (t : Text) → positions (cat (map byte t)) ≡ length t
positions_bytes [] = refl
positions_bytes (b ∷ t) = omega (arith, positions_bytes t)

pub positions_string : (t : Text) → positions (sequence (map byte t)) ≡ length t
positions_string [] = refl
positions_string (b ∷ []) = refl
positions_string (b ∷ c ∷ t) = positions_bytes (b ∷ c ∷ t)

pub fixed_positions : (t : Text) (count : ℕ) → count ≡ length t → count < 2 ^ 64 → HasPositions Fixed t count
fixed_positions t count e small = record { expression = sequence (map byte t); spelled = fixed_spelled t; counted = omega (arith, e, small, positions_string t) }

-- ---- of a pattern

-- a fixed string is read as it is
pub fixed_read : (fold : Bool) (text : Bor (List ℕ)) → (IsTrue fold → length text.now ≤ most_positions) → IsPattern Fixed fold text.now (String text)
fixed_read fold text few = record {
  spelled = fixed_spelled text.now;
  small = λ limited. omega (arith, few limited, positions_string text.now);
  counted = few;
  kind = λ free. refl;
}

-- a tree that has to be small is read
pub tree_read : (syntax : Syntax) (fold : Bool) (text : Text) (tree : SyntaxTree) (count : ℕ) → IsTrue (has_limit syntax fold) → IsSpelled syntax text (expression_of tree) → count ≡ up_to_word (positions (expression_of tree)) → count ≤ most_positions → IsPattern syntax fold text (Tree tree count)
tree_read syntax fold text tree count limited spelled counted few =
    record { spelled = spelled; small = λ h. omega (arith, counted, few); counted = (omega (arith, counted, few), few); kind = λ free. absurd (true≢false (sym limited ∙ free)) }

-- what it means is what the text means
pub read_meant : (syntax : Syntax) (fold : Bool) (text : Text) (pattern : Pattern) (e : Expression) → IsPattern syntax fold text pattern → e ≡ meant_by fold pattern → IsMeant syntax fold text e × IsSmallFor syntax fold e
read_meant syntax fold text pattern e r is =
    ((pattern_expression pattern, r.spelled, is), λ limited. omega (arith, r.small limited, ap positions is, meant_positions fold (pattern_expression pattern)))

-- a text that is refused is not readable
pub refused_unreadable : (syntax : Syntax) (fold : Bool) (text : Text) (fault : PatternFault) → IsRefusedFor syntax fold text fault → IsReadable syntax fold text → ⊥
refused_unreadable syntax fold text fault (inl none) readable = fault_spells_none none.is_fault readable.1.0 readable.1.1
refused_unreadable syntax fold text fault (inr large) readable =
    let same : readable.0 ≡ large.meaning = means_one syntax fold text readable.0 large.meaning readable.1 large.meant in
    let few : positions readable.0 ≤ most_positions = readable.2 large.limited in
    omega (arith, large.large, few, ap positions same)
