use Rattle.line_marks.proofs.touched.touched_at.Goals as goal

pub all_touched-requires-clause-reached : goal.all_touched-requires-clause-reached
all_touched-requires-clause-reached c = rw c.rest_of-rest.ensures c.requires.reached

pub all_touched-requires-clause-counted : goal.all_touched-requires-clause-counted
all_touched-requires-clause-counted c = rw c.rest_of-rest.ensures c.requires.counted

pub returns : goal.returns
returns c = rw c.rest_of-rest.ensures at c.all_touched.ensures
