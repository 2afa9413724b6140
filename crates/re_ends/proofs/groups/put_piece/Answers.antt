use Rattle.{re_ends.proofs.{Prelude.{arith, ◌≡◌, ◌++◌, ◌∷◌, []}, groups.put_piece.Goals.After-push}, std.specs.Prelude.vec_capacity}
use Rattle.re_ends.proofs.lemmas.ClosingLaws as laws
use Rattle.re_ends.proofs.groups.put_piece.Goals as goal

put : (c : After-push) → c.push.new.self.items ≡ c.args.row.now.items ++ c.args.piece ∷ []
put c =
    let room = laws.has_room c.args.piece c.args.row.now.items c.requires.made c.requires.fresh (laws.some_member c.args.piece c.if-piece-eq0.false) (vec_capacity c.args.row.now) c.requires.small c.requires.below in
    rw (c.push.ensures.succeeds (omega (arith, room, c.args.row.now.ok))) at c.push.ensures.items

pub returns-clause-added : goal.returns-clause-added
returns-clause-added c = λ j q. rw (put _) (laws.in_pushed c.args.piece c.args.row.now.items j q)

pub returns-clause-made : goal.returns-clause-made
returns-clause-made c =
    rw (put _)
    (laws.pushed c.args.piece c.args.row.now.items c.requires.made c.requires.fresh (laws.some_member c.args.piece c.if-piece-eq0.false))
