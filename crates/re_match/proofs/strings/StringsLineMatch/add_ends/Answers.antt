use Rattle.re_match.proofs.{Prelude.look_expression, lemmas.{StretchLaws.look_shift, WindowLaws.{border_within, ends_of_window, found_within}}}
use Rattle.re_match.proofs.strings.StringsLineMatch.add_ends.Goals as goal

pub returns-clause-added : goal.returns-clause-added
returns-clause-added c =
    let window = rw (← c.self.view_is) at c.requires.window in let e = look_expression c.self.inside.look in
    let end = c.args.window.end in
    rw (← c.self.view_is) (ends_of_window _ e _ _ _ window _ _ c.requires.ends (found_within e c.args.line.now c.args.window.start end window.0 window.1 (λ i j lt high. look_shift c.args.line.now c.args.window.start end i j (border_within e c.args.line.now end window.1) lt high c.self.inside.look)) c.put_ends.ensures.added)
