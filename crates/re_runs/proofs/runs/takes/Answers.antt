use Rattle.{re_runs.proofs.Prelude.{sym, ap, ◌∙◌, Bytes, nothing, members}, std.proofs.lemmas.List.get_or-map}
use Rattle.re_runs.proofs.runs.takes.Goals as goal

pub returns : goal.returns
returns c = c.has.ensures ∙ ap (λ (s : Bytes). s c.args.byte) (sym (get_or-map members c.args.run.now c.args.j _ nothing c.requires))
