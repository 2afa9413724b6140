use Rattle.re_match.proofs.Prelude.{rules, false, ◌≡◌}
use Rattle.re_match.proofs.strings.StringsLineMatch.next_matched.Goals as goal

pub returns-clause-reported : goal.returns-clause-reported
returns-clause-reported c =
    let part : c.args.self.now.whole ≡ false = search rules in
    rw (part, ← c.self.view_is) c.next_line-found.ensures.reported
