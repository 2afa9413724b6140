-- Lines, and blocks of lines, that lack what an expression needs, or have all that it is.
use Rattle.{re_needle.proofs.{Prelude.{ℕ, ◌+◌, ◌≤◌, Bool, false, List, length, map, get_or, arith, Text, Expression, Matches, Lacks, PassesAll, PassesUnmatched, IsNeeded, RunIsNeeded, Runs, LacksRun, byte, sequence, StandsIn, Option, Span, FindsMatched, FindsNext}, lemmas.{NeededLaws.sequence_needed, NeedleLaws.{lacks_run, matched_part}}}, re_trees.proofs.lemmas.FixedStrings.stands-matches, re_runs.proofs.lemmas.{Occurrences.occurs-stands, NextLines.finds_same}}

-- a line without a text that the expression needs is not matched
pub unmatched : (e : Expression) (text line : Text) (whole : Bool) → IsNeeded text e → Lacks text line → ¬ Matches e line whole
unmatched e text line whole needed lacks m =
    let (i, j, within, h) = matched_part e line whole m in let there = needed line i j within h in lacks there.0 there.3

-- lines without the text that an expression needs are passed unmatched
pub passes_unmatched : (e : Expression) (text : Text) (whole : Bool) → IsNeeded text e → (block : Text) (count : ℕ) → PassesAll (Lacks text) block count → PassesUnmatched e whole block count
passes_unmatched e text whole needed block count (lines, rest, free, lack, is, counted) = (lines, rest, free, λ i d below. unmatched e text _ whole needed (lack i d below), is, counted)

-- lines without the run that an expression needs are passed unmatched
pub passes_unmatched_run : (e : Expression) (run : Runs) (whole : Bool) → RunIsNeeded run e → (block : Text) (count : ℕ) → PassesAll (LacksRun run) block count → PassesUnmatched e whole block count
passes_unmatched_run e run whole needed block count (lines, rest, free, lack, is, counted) = (lines, rest, free, λ i d below. lacks_run e run _ whole needed (lack i d below), is, counted)

-- a string matches the lines that have it
pub stands_literal : (text line : Text) → StandsIn text line → Matches (sequence (map byte text)) line false
stands_literal text line (k, o) = stands-matches line text k _ (omega arith) (occurs-stands line text k o)

pub literal_stands : (text line : Text) → Matches (sequence (map byte text)) line false → StandsIn text line
literal_stands text line (i, j, within, holds) = let there = sequence_needed text line i j within holds in (there.0, there.3)

-- the lines that have a string are those that it matches
pub finds_literal : (text : Text) (lines : List Text) (found : Option Span) → FindsNext (StandsIn text) lines found → FindsMatched (sequence (map byte text)) false lines found
finds_literal text lines found h = finds_same (StandsIn text) (λ line. Matches (sequence (map byte text)) line false) (stands_literal text) (literal_stands text) lines found h
