use Rattle.script_commands.proofs.{Prelude.{◌≡◌, ◌<◌, [], ◌∷◌, ◌++◌, map, length, get_or, nat_eq, if◌then◌else◌, rules, arith, ◌∙◌, length-map, get_or-map, newline}, lemmas.JoinedLines.joined-next-at}
use Rattle.script_commands.proofs.pattern_list.join_lines.Goals as goal

pub loop-at-preserved : goal.loop-at-preserved
loop-at-preserved c =
    let ts = map (λ t. t.items) c.args.lines.now in
    let below : c.loop-at.at < length c.args.lines.now = search rules in
    let within : c.loop-at.at < length ts = omega (arith, below, length-map c.args.lines.now (λ t. t.items)) in
    let here : (get_or c.args.lines.now c.loop-at.at c.index-lines-at.result).items ≡ c.deref.result.now = search rules in
    let is : get_or ts c.loop-at.at [] ≡ c.deref.result.now = get_or-map (λ t. t.items) c.args.lines.now c.loop-at.at c.index-lines-at.result [] below ∙ here in
    let more : c.add_line.new.text.items ≡ c.loop-at.text.items ++ (if nat_eq c.loop-at.at 0 then c.deref.result.now else newline ∷ c.deref.result.now) = search rules in
    joined-next-at ts c.loop-at.at c.deref.result.now c.loop-at.text.items c.add_line.new.text.items within is c.loop-at.invariant more
