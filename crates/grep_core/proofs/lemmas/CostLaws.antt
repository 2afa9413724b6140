-- Costs that are added up.
use Rattle.{grep_core.proofs.Prelude.{◌≡◌, ℕ, ◌+◌, ◌*◌, ◌≤◌, List, [], ◌∷◌, ◌++◌, length, map, sym, ap, ◌∙◌, arith, length-append, mul-le-mul_right, length-map, sum_by-append, sum_by-cons, sum_by_push, AddsAtMost, Text, Expression, newline, terminated, Options, File, parts, form, search_cost, parts_cost, line_cost, lines_cost, files_cost, SearchesLines, SearchesFiles}, re_meter.{specs.Meters.Steps, proofs.lemmas.Adding.{adds_none, adds_within, adds_both}}, re_syntax.proofs.lemmas.LinesLaws.terminated-append}

-- what is at most a cost is at most a greater one
pub cost_within : (few most : ℕ) {old new : Steps} → few ≤ most → AddsAtMost few old new → AddsAtMost most old new
cost_within few most {old} {new} h a = adds_within few most few most old new h h a

-- a cost, and then another
pub cost_after : (first next : ℕ) {old mid new : Steps} → AddsAtMost first old mid → AddsAtMost next mid new → AddsAtMost (first + next) old new
cost_after first next {old} {mid} {new} a b = adds_both first next first next old mid new a b

-- the same cost once more
pub adds_once_more : (times cost : ℕ) (old mid new : Steps) → AddsAtMost (times * cost) old mid → AddsAtMost cost mid new → AddsAtMost ((times + 1) * cost) old new
adds_once_more times cost old mid new a b =
    let all : times * cost + cost ≤ (times + 1) * cost = omega arith in
    cost_within _ _ all (cost_after _ _ a b)

-- the same cost more often
pub adds_for_more : (few most cost : ℕ) (old new : Steps) → few ≤ most → AddsAtMost (few * cost) old new → AddsAtMost (most * cost) old new
adds_for_more _ _ cost _ _ h a = cost_within _ _ (mul-le-mul_right cost h) a

-- lists that are mapped to the same have the same length
pub same_length : {A B : Type 0} (f : A → B) (xs ys : List A) → map f xs ≡ map f ys → length xs ≡ length ys
same_length f xs ys e = sym (length-map xs f) ∙ ap length e ∙ length-map ys f

module _ (options : Options) (matchers : ℕ) where
  -- a line of which no part was looked for
  pub searched_once : (line : Text) {old new : Steps} → AddsAtMost (search_cost matchers line) old new → AddsAtMost (line_cost options matchers line) old new
  searched_once line a = cost_within _ _ (omega arith) a

  -- where parts are written, they cost one search
  pub parts_searched : (line : Text) {old new : Steps} → parts ≡ form options → AddsAtMost (search_cost matchers line) old new → AddsAtMost (parts_cost options matchers line) old new
  parts_searched line asked a =
      cost_within _ _ (rw (← asked) (omega arith)) a

  -- a line was searched, and for its parts besides
  line_and_parts : (line : Text) {old mid new : Steps} → AddsAtMost (search_cost matchers line) old mid → AddsAtMost (parts_cost options matchers line) mid new → AddsAtMost (line_cost options matchers line) old new
  line_and_parts line a b =
      cost_within _ _ (omega arith) (cost_after _ _ a b)

  -- ---- lines

  -- lines that were not reached
  pub unsearched_lines : (text : List Text) (steps : Steps) → SearchesLines options matchers text steps steps
  unsearched_lines text steps = adds_none (lines_cost options matchers text) (lines_cost options matchers text) steps

  -- more lines were searched
  pub searched_more_lines : (text more : List Text) {old mid new : Steps} → SearchesLines options matchers text old mid → SearchesLines options matchers more mid new → SearchesLines options matchers (text ++ more) old new
  searched_more_lines text more a b = rw (sum_by-append (line_cost options matchers) text more) (cost_after _ _ a b)

  -- one more line was searched
  pub searched_one_line : (text : List Text) (line : Text) {old mid new : Steps} → SearchesLines options matchers text old mid → AddsAtMost (line_cost options matchers line) mid new → SearchesLines options matchers (text ++ line ∷ []) old new
  searched_one_line text line a b = rw (sum_by_push (line_cost options matchers) text line) (cost_after _ _ a b)

  -- there are more lines than those that were searched
  pub searched_first_lines : (text more : List Text) {old new : Steps} → SearchesLines options matchers text old new → SearchesLines options matchers (text ++ more) old new
  searched_first_lines text more {new = new} a = searched_more_lines text more a (unsearched_lines more new)

  -- a step of each matcher for each byte of the lines, newlines among them, is within their cost
  bytes_within : (ls : List Text) → matchers * length (terminated ls) ≤ lines_cost options matchers ls
  bytes_within [] = omega arith
  bytes_within (line ∷ ls) =
      let long : length (terminated (line ∷ ls)) ≡ length line + 1 + length (terminated ls) = omega (arith, length-append line (newline ∷ terminated ls)) in
      let bytes = ap (λ n. matchers * n) long ∙ spread (length line + 1) (length (terminated ls)) in
      omega (arith, bytes, bytes_within ls, sum_by-cons (line_cost options matchers) line ls)
    where
      spread : (a b : ℕ) → matchers * (a + b) ≡ matchers * a + matchers * b
      spread a b = omega arith

  -- so they were searched at that cost
  pub searched_bytes : (text : List Text) {old new : Steps} → AddsAtMost (matchers * length (terminated text)) old new → SearchesLines options matchers text old new
  searched_bytes text a = cost_within _ _ (bytes_within text) a

  -- the same, and the parts of the last line were looked for besides
  pub searched_bytes_and_parts : (text : List Text) (line : Text) {old mid new : Steps} → AddsAtMost (matchers * length (terminated (text ++ line ∷ []))) old mid → AddsAtMost (parts_cost options matchers line) mid new → SearchesLines options matchers (text ++ line ∷ []) old new
  searched_bytes_and_parts text line a asked =
      let width = ap length (terminated-append text (line ∷ [])) ∙ length-append (terminated text) (line ++ newline ∷ []) ∙ ap (λ n. length (terminated text) + n) (length-append line (newline ∷ [])) in
      let bytes : matchers * length (terminated (text ++ line ∷ [])) ≡ matchers * length (terminated text) + search_cost matchers line = ap (λ n. matchers * n) width ∙ (omega arith) in
      let own = parts_cost options matchers line in
      cost_within _ _ (omega (arith, bytes, bytes_within text, sum_by_push (line_cost options matchers) text line)) (cost_after _ _ a asked)

  -- ---- files

  -- one more file was searched, and there may be others after it
  pub searched_up_to : (files : List File) (file : File) (others : List File) {old mid new : Steps} → SearchesFiles options matchers files old mid → SearchesLines options matchers file.lines mid new → SearchesFiles options matchers (files ++ file ∷ others) old new
  searched_up_to files file others a b =
      let cost : File → ℕ = λ f. lines_cost options matchers f.lines in
      let all : files_cost options matchers files + lines_cost options matchers file.lines ≤ files_cost options matchers (files ++ file ∷ others) = omega (arith, sum_by-append cost files (file ∷ others), sum_by-cons cost file others) in
      cost_within _ _ all (cost_after _ _ a b)

-- a line was searched, and then for its parts, by matchers of the same expressions
pub line_asked : {es ds : List Expression} (options : Options) (line : Text) {first mid last : Steps} → ds ≡ es
    → AddsAtMost (search_cost (length es) line) first mid → AddsAtMost (parts_cost options (length ds) line) mid last → AddsAtMost (line_cost options (length es) line) first last
line_asked options line e once asked = line_and_parts options _ _ once (rw e at asked)
