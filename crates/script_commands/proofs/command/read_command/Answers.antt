use Rattle.script_commands.proofs.{Prelude.{◌≡◌, true, false, codes, bytes_eq, [], option_map, IfOk, IfErr, rules, sym, ap, ◌∙◌, subst, command_of, line_command, file_command, missing_command, unnamed_command, AsksForMemory, meant}, lemmas.ScriptCommands.{command_none, command_file, command_missing, command_unnamed}}
use Rattle.script_commands.proofs.command.read_command.Goals as goal

pub returns-in_default-clause-read : goal.returns-in_default-clause-read
returns-in_default-clause-read c = sym (ap command_of (sym c.words_of-words.ensures ∙ c.in_default.ensures.steps.0) ∙ command_none)

pub returns-then-eq-clause-read : goal.returns-then-eq-clause-read
returns-then-eq-clause-read c =
    let test : bytes_eq c.in-Some.word.now (codes "file") ≡ true = search rules in
    let is : line_command c.args.line.now ≡ file_command c.next.new.self = ap command_of (sym c.words_of-words.ensures ∙ c.in-Some.ensures.steps) ∙ command_file c.in-Some.word.now c.next.new.self test in
    subst (λ command. IfOk c.read_file.result (λ given. option_map meant given ≡ command)) (sym is) c.read_file.ensures.read

pub returns-then-eq-clause-short : goal.returns-then-eq-clause-short
returns-then-eq-clause-short c =
    let test : bytes_eq c.in-Some.word.now (codes "file") ≡ true = search rules in
    let is : line_command c.args.line.now ≡ file_command c.next.new.self = ap command_of (sym c.words_of-words.ensures ∙ c.in-Some.ensures.steps) ∙ command_file c.in-Some.word.now c.next.new.self test in
    subst (λ command. IfErr c.read_file.result (λ _. AsksForMemory command [])) (sym is) c.read_file.ensures.short

pub returns-then-eq-2-clause-read : goal.returns-then-eq-2-clause-read
returns-then-eq-2-clause-read c =
    let other : bytes_eq c.in-Some.word.now (codes "file") ≡ false = search rules in
    let test : bytes_eq c.in-Some.word.now (codes "missing") ≡ true = search rules in
    let is : line_command c.args.line.now ≡ missing_command c.next.new.self = ap command_of (sym c.words_of-words.ensures ∙ c.in-Some.ensures.steps) ∙ command_missing c.in-Some.word.now c.next.new.self other test in
    subst (λ command. IfOk c.read_missing.result (λ given. option_map meant given ≡ command)) (sym is) c.read_missing.ensures.read

pub returns-then-eq-2-clause-short : goal.returns-then-eq-2-clause-short
returns-then-eq-2-clause-short c =
    let other : bytes_eq c.in-Some.word.now (codes "file") ≡ false = search rules in
    let test : bytes_eq c.in-Some.word.now (codes "missing") ≡ true = search rules in
    let is : line_command c.args.line.now ≡ missing_command c.next.new.self = ap command_of (sym c.words_of-words.ensures ∙ c.in-Some.ensures.steps) ∙ command_missing c.in-Some.word.now c.next.new.self other test in
    subst (λ command. IfErr c.read_missing.result (λ _. AsksForMemory command [])) (sym is) c.read_missing.ensures.short

pub returns-clause-read : goal.returns-clause-read
returns-clause-read c =
    let other : bytes_eq c.in-Some.word.now (codes "file") ≡ false = search rules in
    let another : bytes_eq c.in-Some.word.now (codes "missing") ≡ false = search rules in
    let is : line_command c.args.line.now ≡ unnamed_command c.in-Some.word.now c.next.new.self = ap command_of (sym c.words_of-words.ensures ∙ c.in-Some.ensures.steps) ∙ command_unnamed c.in-Some.word.now c.next.new.self other another in
    c.read_unnamed.ensures ∙ sym is
