use Rattle.line_chunks.proofs.{Prelude.{arith, ◌∙◌, ◌-◌, ◌++◌, sym, take, drop, map, length-map, seen, bare}, lemmas.{SeenLaws.{as_many, part_added, size_added, seen_same}, EndedLemmas.{ended_part, bare_part, undone}}}
use Rattle.line_chunks.proofs.chunk.Chunk.add_part.Goals as goal

pub add_part-requires-clause-within : goal.add_part-requires-clause-within
add_part-requires-clause-within c = omega (arith, as_many _ _ c.other.view_is)

pub add_part-requires-2-clause-within : goal.add_part-requires-2-clause-within
add_part-requires-2-clause-within c = omega (arith, as_many _ _ c.other.view_is)

pub returns-clause-ok : goal.returns-clause-ok
returns-clause-ok c = part_added (map bare c.self.inside.lines) (map bare c.other.inside.lines) c.self.inside.found c.add_part-2.new.self c.other.inside.found c.args.from c.args.to (c.self.invariant.1 ∙ sym (length-map c.self.inside.lines bare)) (omega (arith, as_many _ _ c.other.view_is, length-map c.other.inside.lines bare)) c.requires.in_order (bare_part _ _ c.args.from (c.args.to - c.args.from) c.in_ok-add_part.ensures.ok) c.in_default.ensures.old c.in_default.ensures.new ∙ (λ j. c.self.view_is j ++ take (c.args.to - c.args.from) (drop c.args.from (c.other.view_is j)))

pub returns-in-Err-clause-err : goal.returns-in-Err-clause-err
returns-in-Err-clause-err c =
    let same = undone _ _ _ c.len-before.ensures c.in_ok-add_part.ensures.ok c.len.ensures
    c.remove.ensures in
    (λ j. seen (map bare (same j)) c.add_part-2.new.self) ∙ seen_same (map bare c.self.inside.lines) c.self.inside.found c.add_part-2.new.self (c.self.invariant.1 ∙ sym (length-map c.self.inside.lines bare)) c.in-Err.ensures.old ∙ c.self.view_is

pub invariant_of-self-in_default : goal.invariant_of-self-in_default
invariant_of-self-in_default c = (ended_part _ _ c.args.from (c.args.to - c.args.from) c.in_ok-add_part.ensures.ok c.self.invariant.0 c.other.invariant.0, size_added _ _ c.self.inside.found c.add_part-2.new.self c.args.from c.args.to c.self.invariant.1 (omega (arith, as_many _ _ c.other.view_is)) c.requires.in_order c.in_ok-add_part.ensures.ok c.in_default.ensures.size)
