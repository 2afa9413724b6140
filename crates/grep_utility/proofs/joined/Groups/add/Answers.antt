use Rattle.{grep_utility.proofs.{Prelude.{[], map, IfOk-weaker, meant_by}, lemmas.GroupLemmas.{pattern_joins, pattern_alone}}, re_syntax.specs.Working.Trees.expression_of}
use Rattle.grep_utility.proofs.joined.Groups.add.Goals as goal

pub returns-then-joins : goal.returns-then-joins
returns-then-joins c es g =
    IfOk-weaker c.add.result _ _ (λ x grown. pattern_joins c.args.options.now.line_regexp es c.args.self.now.matchers.items (map expression_of c.args.self.now.choice) g (meant_by c.args.options.now.ignore_case c.args.pattern) (map expression_of c.add.new.self) grown) c.add.ensures

pub returns-then-joins-2 : goal.returns-then-joins-2
returns-then-joins-2 c es g =
    let e = meant_by c.args.options.now.ignore_case c.args.pattern in
    IfOk-weaker c.add-then-joins-2.result _ _ (λ x grown. pattern_joins c.args.options.now.line_regexp es c.close.new.self.matchers.items [] (c.in_ok-close.ensures.closed es g) e (map expression_of c.add-then-joins-2.new.self) (cc c.in_ok-close.ensures.empty)) c.add-then-joins-2.ensures

pub returns : goal.returns
returns c es g =
    rw c.in_ok-close.ensures.empty
    (pattern_alone _ es _ (c.in_ok-close.ensures.closed es g) _ c.in_ok-matcher.matcher _ c.in_ok-push.ensures.items c.in_ok-matcher.ensures.expression c.in_ok-matcher.ensures.whole c.in_ok-matcher.ensures.room)
