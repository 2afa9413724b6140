use Rattle.re_strings.proofs.{Prelude.{rules, ◌≡◌, ◌∙◌, ap, refl, sym, arith, length, slice_index}, lemmas.{SetTries.not_between, StepRowLaws.{no_class, own_class}}}
use Rattle.re_strings.proofs.step_rows.add_class.Goals as goal

pub returns-in_default-clause-classes : goal.returns-in_default-clause-classes
returns-in_default-clause-classes c =
    let nodes = c.deref.result.now in
    let same : length nodes ≡ length c.args.trie.now.bytes.items = ap length c.deref.ensures.value in
    let byte : c.len-byte.result ≡ length c.args.steps.now.classes.items = search rules in
    no_class c.args.steps.now _ c.requires.classes c.in_ok-push_number.ensures refl
    (λ m low lt is. not_between nodes 1 (length nodes) (let some = c.requires.trie.some in omega (arith, same)) (omega arith) c.in_default.ensures
    m low (omega (arith, same)) (ap (λ xs. slice_index xs m) c.deref.ensures.value ∙ is ∙ sym byte))

pub returns-clause-classes : goal.returns-clause-classes
returns-clause-classes c = own_class c.args.steps.now _ c.requires.classes (cc (c.in_ok-push_number-2.ensures, c.len-class.ensures)) (cc (c.in_ok-push.ensures.items, c.len-byte.ensures))
