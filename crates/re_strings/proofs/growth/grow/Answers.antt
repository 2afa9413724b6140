use Rattle.re_strings.proofs.{Prelude.{rules, ◌≡◌, ◌<◌, ◌++◌, ◌∷◌, [], length, map, sym, ap, ◌∙◌, arith, length-map}, lemmas.SetBranches.{rows_at_first, rows_more}}
use Rattle.re_strings.proofs.growth.grow.Goals as goal

pub nodes-init : goal.nodes-init
nodes-init c =
    let texts = map (λ s. s.now) c.args.strings.now in
    let one =
    c.in_ok-add_branch.ensures ∙ ap (λ xs. xs ++ record { byte = 0; depth = 0; low = 0; high = length c.args.strings.now } ∷ []) c.in_ok-branches.ensures.items
    ∙ ap (λ n. record { byte = 0; depth = 0; low = 0; high = n } ∷ []) (sym (length-map c.args.strings.now (λ s. s.now))) in
    let entry : c.add_entry.new.first.items ≡ 1 ∷ [] = cc (c.in_ok-add_entry.ensures.added, c.in_ok-first.ensures.items) in
    rw (one, entry) (record { rows = rows_at_first _; few = omega arith })

pub nodes-preserved : goal.nodes-preserved
nodes-preserved c =
    let texts = map (λ s. s.now) c.args.strings.now in
    let (more, grown) = c.in_ok-expand.ensures.grown in
    let within : c.nodes.node < length c.nodes.branches.items = search rules in
    let added : c.add_entry-in-nodes.new.first.items ≡ c.nodes.first.items ++ length c.expand.new.branches.items ∷ [] = search rules in
    let few : length c.expand.new.branches.items < 4294967296 = search rules in
    record {
      rows = rows_more _ _ _ _ _ _ _
          c.nodes.invariant.rows within grown c.in_ok-expand.ensures.are c.in_ok-expand.ensures.row added;
      few = few;
    }

pub returns : goal.returns
returns c =
    let end : c.nodes.node ≡ length c.nodes.branches.items = omega (arith, c.nodes.invariant.rows.few, c.nodes-test.false, c.len.ensures) in
    record {
      rows = rw end at c.nodes.invariant.rows;
      few = c.nodes.invariant.few;
    }
