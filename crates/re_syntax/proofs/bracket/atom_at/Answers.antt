use Rattle.re_syntax.proofs.{Prelude.{ap, ◌∙◌, err_from_is_err_and}, lemmas.{BracketFaultsReading.exact_at, BracketWhole.{next_byte, left_at, up_to}}}
use Rattle.re_syntax.proofs.bracket.atom_at.Goals as goal

pub read_next_bracket-requires : goal.read_next_bracket-requires
read_next_bracket-requires c = (_, next_byte 91 c.requires c.new-cursor.ensures)

pub returns-in_err-atom-clause-refused : goal.returns-in_err-atom-clause-refused
returns-in_err-atom-clause-refused c =
    let p = err_from_is_err_and c.from_residual.result c.from_residual.ensures.1 in
    rw (p.1, p.2) (exact_at c.args.from c.new-cursor.result c.new-cursor.ensures.text_is (left_at c.new-cursor.ensures) c.in_err-atom.ensures.refused)

pub returns-clause-read : goal.returns-clause-read
returns-clause-read c =
    let text = ap (λ t. t.now) c.in_ok-atom.ensures.same_text ∙ c.new-cursor.ensures.text_is in
    up_to c.read_next_bracket.new.cursor text c.place.ensures
    (rw (left_at c.new-cursor.ensures) at c.in_ok-atom.ensures.read)
