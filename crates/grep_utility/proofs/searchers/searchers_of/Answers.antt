use Rattle.{grep_utility.proofs.{Prelude.{arith, IsPattern}, lemmas.{GroupLemmas.groups_serve, ServingLemmas.{patterns_meant, joined_grouped}}}, re_syntax.specs.Lines.lines_of, std.proofs.lemmas.Slice.Zip.AllZip-long}
use Rattle.grep_utility.proofs.searchers.searchers_of.Goals as goal

pub returns-in-Some-clause-ok : goal.returns-in-Some-clause-ok
returns-in-Some-clause-ok c =
    let options = c.args.options.now in
    let texts = lines_of c.args.texts.now in
    let (patterns, are, read) = c.in-Some.ensures.read in
    groups_serve _ options _ patterns _ are
    (joined_grouped options patterns (lines_of c.in-Some.strings.items) c.in-Ok.matchers.items read (omega (arith, c.in-Some.ensures.some, AllZip-long (IsPattern c.args.syntax options.ignore_case) texts patterns are)) (rw c.deref.ensures.value at c.in-Ok.ensures))

pub joined_matchers-requires : goal.joined_matchers-requires
joined_matchers-requires c = (patterns_meant c.args.syntax c.args.options.now.ignore_case (lines_of c.args.texts.now) c.in_ok-patterns.patterns.items c.in_ok-patterns.ensures.ok).2

pub returns-clause-ok : goal.returns-clause-ok
returns-clause-ok c =
    groups_serve _ _ _ c.in_ok-patterns.patterns.items _ c.in_ok-patterns.ensures.ok c.in-Ok-joined_matchers.ensures
