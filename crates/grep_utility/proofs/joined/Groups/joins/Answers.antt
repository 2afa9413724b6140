use Rattle.grep_utility.proofs.joined.Groups.joins.Goals as goal

pub returns : goal.returns
returns c h fold counted = (c.has_room.ensures fold counted).0 h
