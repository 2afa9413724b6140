use Rattle.grep_session.proofs.{Prelude.{◌∙◌, sym, ap, all_of, option_map}, lemmas.LookingLemmas.{has_no_line, line_there, line_kept, line_listed, line_unlisted}}
use Rattle.grep_session.proofs.kept.KeptFile.hit.Goals as goal

pub returns-in_default : goal.returns-in_default
returns-in_default c = λ es kept selected. has_no_line c.args.self.now c.args.place c.requires (rw c.in_default.is)

pub is_selected-requires : goal.is_selected-requires
is_selected-requires c = (line_there c.args.self.now c.args.place c.requires (all_of c.in-Some.lines) (rw c.in-Some.is)).0

pub returns-then-not-is_selected : goal.returns-then-not-is_selected
returns-then-not-is_selected c =
    let lines = all_of c.in-Some.lines in
    let is = ap (option_map all_of) c.in-Some.is in
    λ es kept. line_unlisted _ _ _ (line_kept c.args.self.now c.args.place c.requires es c.args.options.now lines is kept) (sym c.is_selected.ensures ∙ c.if-not-is_selected.true) (line_there c.args.self.now c.args.place c.requires lines is).1

pub returns : goal.returns
returns c =
    let lines = all_of c.in-Some.lines in
    let is = ap (option_map all_of) c.in-Some.is in
    λ es kept. line_listed _ _ _ (line_kept c.args.self.now c.args.place c.requires es c.args.options.now lines is kept) (sym c.is_selected.ensures ∙ c.if-not-is_selected.false) (line_there c.args.self.now c.args.place c.requires lines is).1 c.line.ensures.line c.listed_parts.ensures
