use Rattle.{grep_utility.proofs.Prelude.{◌∷◌, ap, ◌∙◌, sym, chars_past_char}, std.specs.Str.chars}
use Rattle.grep_utility.proofs.words.tokens.split_first_char.Goals as goal

pub returns : goal.returns
returns c =
    chars_past_char c.args.text.now c.next.new.self.rest.now c.in_ok-first.first c.utf8.text (sym c.chars-characters.ensures.rest ∙ c.in_ok-first.ensures.steps.0)
    ∙ ap (λ t. c.in_ok-first.first ∷ chars t) (sym c.as_str.ensures)
