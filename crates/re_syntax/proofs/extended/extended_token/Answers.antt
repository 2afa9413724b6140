use Rattle.re_syntax.{proofs.{Prelude.{err_from_is_err_and, ◌≢◌, get_or, drop, refl, rules, OpensDuplication}, lemmas.{BracketFaultsReading.fault_as, ExtendedTokenReading.{dup_length, single}, Places.{byte_here, front_here}, TokenReading.{byte_stands, bracket_stands, times_stand}}}, specs.ExtendedTokens.{in_bracket, opens, parts, leads, repeats, bracket, dollar}}
use Rattle.re_syntax.proofs.extended.extended_token.Goals as goal

pub returns-in-Some-clause-read : goal.returns-in-Some-clause-read
returns-in-Some-clause-read c =
    let found = rw c.in-Some.is at c.in_ok-counts.ensures.read in
    times_stand found.1 (dup_length found.1.duplication) (repeats found.0 found.1.duplication)

pub atom_at-requires : goal.atom_at-requires
atom_at-requires c = byte_here _ _ c.requires c.in-91.is

pub returns-in_err-atom-in-91-clause-refused : goal.returns-in_err-atom-in-91-clause-refused
returns-in_err-atom-in-91-clause-refused c =
    let q = err_from_is_err_and c.from_residual-in_err-atom-in-91.result c.from_residual-in_err-atom-in-91.ensures.1 in
    rw (q.1, q.2) (fault_as c.in_err-atom-in-91.ensures.refused (λ kind from f. in_bracket f))

pub returns-in_ok-atom-in-91-clause-read : goal.returns-in_ok-atom-in-91-clause-read
returns-in_ok-atom-in-91-clause-read c = bracket_stands _ c.in_ok-atom-in-91.ensures.read (bracket c.in_ok-atom-in-91.ensures.read.stands)

pub returns-in-40-clause-read : goal.returns-in-40-clause-read
returns-in-40-clause-read c = byte_stands c.requires c.in-40.is opens

pub returns-in-124-clause-read : goal.returns-in-124-clause-read
returns-in-124-clause-read c = byte_stands c.requires c.in-124.is parts

pub returns-in-94-clause-read : goal.returns-in-94-clause-read
returns-in-94-clause-read c = byte_stands c.requires c.in-94.is leads

pub returns-in-36-clause-read : goal.returns-in-36-clause-read
returns-in-36-clause-read c = byte_stands c.requires c.in-36.is dollar

pub returns-in_default-text-clause-read : goal.returns-in_default-text-clause-read
returns-in_default-text-clause-read c =
    let b = get_or c.args.text.now c.args.at 0 in
    let none : ¬ OpensDuplication (drop c.args.at c.args.text.now) = search rules in
    let not_bracket : b ≢ 91 = search rules in
    let not_backslash : b ≢ 92 = search rules in
    let not_group : b ≢ 40 = search rules in
    let not_dollar : b ≢ 36 = search rules in
    let not_bar : b ≢ 124 = search rules in
    let not_caret : b ≢ 94 = search rules in
    byte_stands c.requires refl
    (rw c.single_token.ensures
    (single b (rw (front_here _ _ c.requires refl) at none) not_bracket not_backslash not_group not_dollar not_bar not_caret))
