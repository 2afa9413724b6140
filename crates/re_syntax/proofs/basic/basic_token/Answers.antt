use Rattle.re_syntax.{proofs.{Prelude.{◌≡◌, ◌≢◌, err_from_is_err_and, get_or, drop, refl, codes, rules, arith, Begins, HasNoTail, HasNoTimes}, lemmas.{BasicTokenReading.{dup_length, single}, BracketFaultsReading.fault_as, Places.{byte_here, front_here}, TokenReading.{bytes_stand, byte_stands, bracket_stands, times_stand}}}, specs.{declared.tokens.ItemPlace.TheVariants.First, BasicTokens.{leads, trails, repeats, bracket, in_bracket}}}
use Rattle.re_syntax.proofs.basic.basic_token.Goals as goal

pub returns-in-Some-clause-read : goal.returns-in-Some-clause-read
returns-in-Some-clause-read c =
    let found = rw c.in-Some.is at c.in_ok-counts.ensures.read in
    times_stand found.1 (dup_length found.1.duplication) (repeats found.0 found.1.duplication)

pub returns-in-Some-after_tail-clause-read : goal.returns-in-Some-after_tail-clause-read
returns-in-Some-after_tail-clause-read c = let t = c.in-Some-after_tail.ensures in bytes_stand _ (omega arith) t.stands (trails t.last)

pub returns-in-Some-after_lead-clause-read : goal.returns-in-Some-after_lead-clause-read
returns-in-Some-after_lead-clause-read c = let l = c.in-Some-after_lead.ensures in bytes_stand _ (omega arith) l.1 (leads l.0)

pub atom_at-requires : goal.atom_at-requires
atom_at-requires c = byte_here _ _ c.requires c.in-91.is

pub returns-in_err-atom-in-91-clause-refused : goal.returns-in_err-atom-in-91-clause-refused
returns-in_err-atom-in-91-clause-refused c =
    let q = err_from_is_err_and c.from_residual-in_err-atom-in-91.result c.from_residual-in_err-atom-in-91.ensures.1 in
    rw (q.1, q.2) (fault_as c.in_err-atom-in-91.ensures.refused (λ kind from f. in_bracket f))

pub returns-in_ok-atom-in-91-clause-read : goal.returns-in_ok-atom-in-91-clause-read
returns-in_ok-atom-in-91-clause-read c = bracket_stands _ c.in_ok-atom-in-91.ensures.read (bracket c.in_ok-atom-in-91.ensures.read.stands)

pub returns-in_default-text-clause-read : goal.returns-in_default-text-clause-read
returns-in_default-text-clause-read c =
    let b = get_or c.args.text.now c.args.at 0 in
    let none : HasNoTimes c.args.place (drop c.args.at c.args.text.now) = search rules in
    let no_tail : HasNoTail (drop c.args.at c.args.text.now) = search rules in
    let no_lead : c.args.place ≡ First → ¬ Begins (codes "^") (drop c.args.at c.args.text.now) = search rules in
    let not_bracket : b ≢ 91 = search rules in
    let not_backslash : b ≢ 92 = search rules in
    let front = front_here c.args.text.now c.args.at c.requires refl in
    byte_stands c.requires refl
    (rw c.meant_by.ensures (single b (rw front at none) (rw front at no_tail) (λ q. rw front at (no_lead q)) not_bracket not_backslash))
