use Rattle.script_commands.proofs.{Prelude.{◌≡◌, [], ◌∷◌, Some, None, rules, sym, ap, ◌∙◌, number_of, splice_command, four_words}, lemmas.ScriptCommands.{four_words-some, splice_some, splice_none}}
use Rattle.script_commands.proofs.command.read_splice.Goals as goal

pub returns-in_err-read_number : goal.returns-in_err-read_number
returns-in_err-read_number c =
    let w = c.in_ok-file in
    let four : four_words c.args.words ≡ Some (w.file.now ∷ w.start.now ∷ w.removed.now ∷ w.count.now ∷ []) = search rules in
    let none : number_of w.file.now ≡ None = search rules in
    let refused : splice_command c.args.words ≡ None = ap splice_command (four_words-some c.args.words w.file.now w.start.now w.removed.now w.count.now four) ∙ splice_none w.file.now w.start.now w.removed.now w.count.now none in
    rw refused (search rules)

pub returns : goal.returns
returns c =
    let w = c.in_ok-file in
    let four : four_words c.args.words ≡ Some (w.file.now ∷ w.start.now ∷ w.removed.now ∷ w.count.now ∷ []) = search rules in
    let file : number_of w.file.now ≡ Some c.in_ok-read_number.field-0 = search rules in
    let start : number_of w.start.now ≡ Some c.in_ok-read_number-2.field-0 = search rules in
    let removed : number_of w.removed.now ≡ Some c.in_ok-read_number-3.field-0 = search rules in
    let count : number_of w.count.now ≡ Some c.in_ok-count.count = search rules in
    sym (ap splice_command (four_words-some c.args.words w.file.now w.start.now w.removed.now w.count.now four)
    ∙ splice_some w.file.now w.start.now w.removed.now w.count.now c.in_ok-read_number.field-0 c.in_ok-read_number-2.field-0 c.in_ok-read_number-3.field-0 c.in_ok-count.count file start removed count)
