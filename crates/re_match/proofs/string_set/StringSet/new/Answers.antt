use Rattle.{re_match.proofs.Prelude.{map, sym, ap, ◌∙◌, lines_of, keys}, re_strings.proofs.lemmas.KeyLaws.{lines_lowered, lines_plain}}
use Rattle.re_match.proofs.string_set.StringSet.new.Goals as goal

pub by_keys-requires : goal.by_keys-requires
by_keys-requires c =
    lines_lowered c.args.texts.now c.deref.result.now (c.deref.ensures.value ∙ c.in_ok-lowered.ensures.ok) ∙ ap (λ f. map (keys f) (lines_of c.args.texts.now)) (sym c.if-fold.true)

pub by_keys-requires-2 : goal.by_keys-requires-2
by_keys-requires-2 c = cc (lines_plain c.args.texts.now, c.if-fold.false)
