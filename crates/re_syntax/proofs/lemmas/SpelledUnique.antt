-- The laws of the definitions: one cut, one expression, one split, one list of parts.
use Rattle.{re_syntax.{proofs.{Prelude.{ap, FaultKind, Text, Expression, choice, Syntax, Basic, Extended, Fixed, IsSpelled, SpellsOne, HasOneSplit, HasOnePartList}, lemmas.{BasicTokensUnique.basic_exact, Built.{branches-unique, cut_branches}, CutsUnique.{IsExact, cuts-unique, faults-unique, fault-no_cut}, ExtendedTokensUnique.extended_exact, FixedTokens.fixed_exact, PartsExist.AreParts-exist, PartsLaws.ArePartsFrom-unique}}, specs.{FirstFaults.{start, FirstFault}, Laws.HasOneCut, Spelled.by_tokens}}, re_trees.proofs.lemmas.{LinesLaws.{AreLines-lines_of, lines_of-unique, AreListed-list_of, list_of-unique}, EndedLinesLaws.{AreEndedLines-ended_lines_of, ended_lines_of-unique}}}

exact : (syntax : Syntax) → IsExact syntax
exact Basic = basic_exact
exact Extended = extended_exact
exact Fixed = fixed_exact

-- the law on cuts
pub has_one_cut : (text : Text) (syntax : Syntax) → HasOneCut syntax text
has_one_cut _ syntax = record {
  cuts = λ ks ls x y. cuts-unique (exact _) x y;
  faults = λ f g x y. faults-unique (exact _) x y;
  never_both = λ f ks x y. fault-no_cut (exact _) x.is_fault y;
  each = λ ks x. (_, by_tokens x (cut_branches x));
}

-- the law on what a text spells
pub spells_one : (text : Text) → SpellsOne text
spells_one _ _ _ _ (by_tokens x r) (by_tokens y q) = ap choice (branches-unique (rw (cuts-unique (exact _) x y) at r) q)

-- a text that has a first fault spells nothing
pub fault_spells_none : {syntax : Syntax} {text from : Text} {kind : FaultKind} → FirstFault syntax start text kind from → (e : Expression) → ¬ IsSpelled syntax text e
fault_spells_none f e (by_tokens x r) = fault-no_cut (exact _) f x

-- the law on lines and patterns
pub has_one_split : {text : Text} → HasOneSplit text
has_one_split {text} = record {
  lines = AreLines-lines_of text;
  no_other_lines = lines_of-unique text;
  ended_lines = AreEndedLines-ended_lines_of text;
  no_other_ended_lines = ended_lines_of-unique text;
  listed = AreListed-list_of text;
  not_listed_otherwise = list_of-unique text;
}

-- the law on parts
pub has_one_part_list : (line : Text) → HasOnePartList line
has_one_part_list line es whole =
    let parts = AreParts-exist es line whole in
    (parts.0, parts.1, λ qs are. ArePartsFrom-unique es line whole qs parts.0 0 are parts.1)
