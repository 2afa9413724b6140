use Rattle.{grep_core.proofs.{Prelude.{◌∷◌, ◌++◌, [], length, take, refl, sym, ap, ◌∙◌, arith, append_assoc, length-append, All-nil, lines_of, terminated, HasNoNewline, sought_of, IsSought}, lemmas.SearchedBlockLemmas.{lines_within, first_bytes, before_bytes, line_bytes, end_bytes, free_up_to, free_before}}, re_search.proofs.lemmas.NextLines.{block_lines, free_lines}, grep_io.proofs.lemmas.PassedLemmas.{count_block, count_lines}}
use Rattle.grep_core.proofs.search.held.next_held.Goals as goal

pub returns-then-not-may_number-clause-divided : goal.returns-then-not-may_number-clause-divided
returns-then-not-may_number-clause-divided g c =
    let s = sought_of c.args.whole c.args.matchers.now in (
      [],
      [],
      record { free = All-nil HasNoNewline; bytes = refl; many = refl; width = refl; counted = refl; none = All-nil (λ line. ¬ IsSought s line); next = refl },
      record { rest = c.args.lines.now.lines.ahead; ahead = refl; few = omega (arith, c.may_number.ensures.numbered); open_still = c.ready-block.ensures.none_at_end },
    )

pub returns-in_default-clause-divided : goal.returns-in_default-clause-divided
returns-in_default-clause-divided g c =
    let block = c.ready-block.result.now in
    let whole = c.ready-block.ensures.block in
    let all = lines_of block in
    let (rest, ahead) = c.ready-block.ensures.ahead in
    let bytes = block_lines block whole in
    let many = c.count_newlines-count.ensures ∙ count_block block whole in
    let room = c.if-not-may_number.ensures.room refl in (
      all,
      all,
      record { free = free_lines block whole; bytes = bytes; many = many; width = ap length bytes; counted = many; none = c.in_default.ensures.reported; next = refl },
      record { rest = rest; ahead = ahead ∙ ap (λ b. b ++ rest) bytes; few = omega (arith, room, ap length bytes, lines_within all); open_still = c.ready-block.ensures.none_at_end },
    )

pub overflow_add-result-2 : goal.overflow_add-result-2
overflow_add-result-2 g c =
    let s = sought_of c.args.whole c.args.matchers.now in
    let block = c.ready-block.result.now in
    let whole = c.ready-block.ensures.block in
    let at = c.in-Some.at in
    let n = c.in-Some.ensures.reported in
    let free = free_before n.before (n.line ∷ []) (free_up_to (IsSought s) block at whole n) in
    let many = c.count_newlines-before_count.ensures ∙ count_lines (take at.start block) n.before free (before_bytes (IsSought s) block at whole n) in
    let room = c.if-not-may_number.ensures.room refl in
    let within = c.in-Some.ensures.within in
    omega (arith, many, lines_within n.before, n.starts, within.0, within.1, room)

pub returns-clause-divided : goal.returns-clause-divided
returns-clause-divided g c =
    let s = sought_of c.args.whole c.args.matchers.now in
    let block = c.ready-block.result.now in
    let whole = c.ready-block.ensures.block in
    let at = c.in-Some.at in
    let n = c.in-Some.ensures.reported in
    let all = n.before ++ n.line ∷ [] in
    let free = free_up_to (IsSought s) block at whole n in
    let many = c.count_newlines-before_count.ensures ∙ count_lines (take at.start block) n.before (free_before n.before (n.line ∷ []) free) (before_bytes (IsSought s) block at whole n) in
    let line = line_bytes (IsSought s) block at whole n in
    let (rest, ahead) = c.ready-block.ensures.ahead in
    let width = end_bytes (IsSought s) block at whole n in
    let room = c.if-not-may_number.ensures.room refl in (
      n.before,
      all,
      record {
        free = free;
        bytes = before_bytes (IsSought s) block at whole n;
        many = many;
        width = width;
        counted = omega (arith, many, length-append n.before (n.line ∷ []));
        none = n.passed;
        next = (rw line n.holds, ap (λ l. n.before ++ l ∷ []) (sym line));
      },
      record {
        rest = terminated n.after ++ rest;
        ahead = ahead ∙ ap (λ b. b ++ rest) (first_bytes (IsSought s) block at whole n) ∙ append_assoc (terminated all) (terminated n.after) rest;
        few = omega (arith, room, width, lines_within all, c.in-Some.ensures.within.1);
        open_still = c.ready-block.ensures.none_at_end;
      },
    )
