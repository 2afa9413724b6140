-- Groups of lines that are written one after the other.
use Rattle.{grep_session.proofs.{Prelude.{◌≡◌, ℕ, Bool, List, [], ◌++◌, Option, Result, Ok, Err, IfOk, IsErr, sym, ap, ◌∙◌, append_assoc, append-nil, false≢true, Text, Expression, Options, Form, rows_after, WritesGroups, subst, written, GoesOut}, lemmas.Writing.{writes_after, stops_before}}, grep_core.proofs.lemmas.{GroupLaws.{after_nothing, after_longer}, RowLemmas.goes_nowhere}}

-- what a report is of, and where it is written
pub record Reporting (W : Type 0) : Type 0 where
  pub contents : W → Option Text
  pub failures : W → ℕ
  pub margin : Text
  pub es : List Expression
  pub options : Options
  pub many : Bool

-- with any rows for which Left holds after them, All holds of these rows
pub record Leads (Left All : List Text → Type 0) (rows : List Text) : Type 0 where
  pub with_rest : (rest : List Text) → Left rest → All (rows ++ rest)

-- and also with more rows
pub leads_on : {Left Next All : List Text → Type 0} {us vs : List Text} → Leads Left All us → Leads Next Left vs → Leads Next All (us ++ vs)
leads_on {All = All} {us = us} {vs = vs} f g = record { with_rest = λ rest h. rw (append_assoc us vs rest) (f.with_rest (vs ++ rest) (g.with_rest rest h)) }

-- with none
pub leads_to : {Left All : List Text → Type 0} {us : List Text} → Leads Left All us → Left [] → All us
leads_to {All = All} {us = us} f h = rw (append-nil us) at (f.with_rest [] h)

module _ {W : Type 0} {contents : W → Option Text} {failures : W → ℕ} {shape : Form} {margin : Text} {some : Bool} where
  -- nothing was written
  pub groups_none : {E : Type 0} {P : List Text → Type 0} {a : W} → P [] → WritesGroups {E = E} contents failures P shape margin some a a (Ok some)
  groups_none {a = a} due = record {
    groups = [];
    are_due = due;
    wrote = subst (λ rows. GoesOut contents failures a a (written margin rows)) (sym (after_nothing shape some)) (goes_nowhere contents failures a);
    goes_on = λ more. ap (λ rows. rows ++ rows_after shape some more) (sym (after_nothing shape some));
  }

  -- some were written, and more of them as the last call returned
  pub groups_more : {E F : Type 0} {P Q R : List Text → Type 0} {mid : Bool} {a b c : W} {r : Result Bool E} → WritesGroups {E = F} contents failures P shape margin some a b (Ok mid) → WritesGroups contents failures Q shape margin mid b c r
      → ((us vs : List Text) → P us → Q vs → R (us ++ vs)) → WritesGroups contents failures R shape margin some a c r
  groups_more {E} {mid = mid} {a = a} {b = b} {c = c} {r = r} g h join = record {
    groups = g.groups ++ h.groups;
    are_due = join g.groups h.groups g.are_due h.are_due;
    wrote = rw (g.goes_on h.groups) (writes_after contents failures margin a b c (rows_after shape some g.groups) (rows_after shape mid h.groups) r g.wrote h.wrote);
    goes_on = onward r h.goes_on;
  }
    where
      onward : (r : Result Bool E) → IfOk r (λ now. (more : List Text) → rows_after shape mid (h.groups ++ more) ≡ rows_after shape mid h.groups ++ rows_after shape now more)
          → IfOk r (λ now. (more : List Text) → rows_after shape some ((g.groups ++ h.groups) ++ more) ≡ rows_after shape some (g.groups ++ h.groups) ++ rows_after shape now more)
      onward (Err e) on = tt
      onward (Ok now) on = λ more.
          ap (rows_after shape some) (append_assoc g.groups h.groups more) ∙ g.goes_on (h.groups ++ more) ∙ ap (λ rows. rows_after shape some g.groups ++ rows) (on more)
          ∙ sym (append_assoc (rows_after shape some g.groups) (rows_after shape mid h.groups) (rows_after shape now more)) ∙ ap (λ rows. rows ++ rows_after shape now more) (sym (g.goes_on h.groups))

  -- what was written before a failure is a beginning of more
  pub groups_front : {E F : Type 0} {P R : List Text → Type 0} {a b : W} {r : Result Bool E} {s : Result Bool F} → IsErr r → IsErr s → WritesGroups contents failures P shape margin some a b r
      → ((us : List Text) → P us → (vs : List Text) × R (us ++ vs)) → WritesGroups contents failures R shape margin some a b s
  groups_front {r = Ok v} is too g more = absurd (false≢true is)
  groups_front {r = Err e} {s = Ok v} is too g more = absurd (false≢true too)
  groups_front {a = a} {b = b} {r = Err e} {s = Err f} is too g more =
      let rest = more g.groups g.are_due in
      let longer = after_longer shape some g.groups rest.0 in
      record {
        groups = g.groups ++ rest.0;
        are_due = rest.1;
        wrote = rw longer.1 (stops_before contents failures margin a b (rows_after shape some g.groups) longer.0 g.wrote);
        goes_on = tt;
      }

  -- what is due is due by other words
  pub groups_are : {E F : Type 0} {P R : List Text → Type 0} {a b : W} {now : Bool} → WritesGroups {E = E} contents failures P shape margin some a b (Ok now) → ((us : List Text) → P us → R us) → WritesGroups {E = F} contents failures R shape margin some a b (Ok now)
  groups_are g to = record { groups = g.groups; are_due = to g.groups g.are_due; wrote = g.wrote; goes_on = g.goes_on }
