-- Runs of the branches of a choice, one of which each of its matches contains.
use Rattle.{re_needle.proofs.{Prelude.{◌≡◌, ℕ, ◌+◌, inl, inr, Bool, ◌&&◌, IsTrue, List, [], ◌∷◌, ◌++◌, Any, AllZip, length, drop, refl, sym, ap, subst, ◌∙◌, arith, Bytes, Text, Expression, alt, RunIsAt, get_or, Holds, RunIsNeeded, RunBegins, RunSuffices, IsJustRun, IsNeedleOf, IsRunOf, Needle, runs_of, front_of, most_sets, take-append-drop, take_all, length-take, RunStandsAt, one_run}, lemmas.NeedleLaws.{front_needed, one_between}}, re_trees.proofs.lemmas.{Decisions.{Any-first, Any-later, Any-cases, Any-none}, SomeOfJoined.Any-single}, re_runs.proofs.lemmas.RunLaws.{one_stands, one_is, front_stands}, std.proofs.lemmas.{Bool.and_parts, List.get_or_default}}

module _ (first all enough : Bool) (line : Text) where
  -- a branch holds where the choice does, and has a run
  branch_there : (choice : List (List Bytes)) (es : List Expression) (i j : ℕ) → AllZip (IsRunOf first all enough) choice es → Holds line (alt es) i j
      → Any (λ run. (e : Expression) × IsRunOf first all enough run e × Holds line e i j) choice
  branch_there [] [] i j each h = absurd h
  branch_there [] (e ∷ es) i j each h = absurd each
  branch_there (run ∷ choice) [] i j each h = absurd each
  branch_there (run ∷ choice) (e ∷ es) i j (is, each) (inl here) = Any-first (λ run. (e : Expression) × IsRunOf first all enough run e × Holds line e i j) run choice (e, is, here)
  branch_there (run ∷ choice) (e ∷ es) i j (is, each) (inr later) = Any-later (λ run. (e : Expression) × IsRunOf first all enough run e × Holds line e i j) run choice (branch_there choice es i j each later)

  -- the choice holds where the branch of a run does
  branch_holds : (P : List Bytes → Type 0) (choice : List (List Bytes)) (es : List Expression) → AllZip (IsRunOf first all enough) choice es → Any P choice
      → (run : List Bytes) × (e : Expression) × P run × IsRunOf first all enough run e × ((i j : ℕ) → Holds line e i j → Holds line (alt es) i j)
  branch_holds P [] es each some = absurd (Any-none P some)
  branch_holds P (run ∷ choice) [] each some = absurd each
  branch_holds P (run ∷ choice) (e ∷ es) (is, each) some = elim (Any-cases P run choice some) [
    | inl here ↦ (run, e, here, is, λ i j h. inl h)
    | inr later ↦
        let (other, f, has, of, holds) = branch_holds P choice es each later in
        (other, f, has, of, λ i j h. inr (holds i j h))
  ]

module _ (first all enough : Bool) (choice : List (List Bytes)) (es : List Expression) (each : AllZip (IsRunOf first all enough) choice es) where
  pub runs_needed : RunIsNeeded choice (alt es)
  runs_needed line i j within h =
      let (n, run, lt, at, (e, is, holds)) = branch_there first all enough line choice es i j each h in
      let (k, low, some) = is.needed line i j within holds in (k, low, (n, run, lt, at, one_between _ _ j k some))

  pub runs_begin : IsTrue first → RunBegins choice (alt es)
  runs_begin reported line i j within h =
      let (n, run, lt, at, (e, is, holds)) = branch_there first all enough line choice es i j each h in
      (n, run, lt, at, one_is run line i (is.begins reported line i j within holds))

  -- where a run is the choice holds, since its branch does
  its_branch : ((run : List Bytes) (e : Expression) → IsRunOf first all enough run e → RunSuffices (one_run run) e) → RunSuffices choice (alt es)
  its_branch each_one line k n d lt there =
      let own = get_or choice n d in let at = get_or_default choice n own d lt in
      let (run, e, same, is, holds) = branch_holds first all enough line (λ r. r ≡ own) choice es each (n, own, lt, at, refl) in
      holds k (k + length own) (rw same at (each_one run e is line k 0 run (omega arith) (rw same there)))

  pub runs_just : IsTrue all → IsJustRun choice (alt es)
  runs_just reported = record {
    stands = λ line i j within h.
        let (n, run, lt, at, (e, is, holds)) = branch_there first all enough line choice es i j each h in
        (n, run, lt, at, Any-single (λ r. RunIsAt line i r × (j ≡ i + length r)) run ((is.just reported).stands line i j within holds));
    holds = its_branch (λ run e is. (is.just reported).holds);
  }

  pub runs_suffice : IsTrue enough → RunSuffices choice (alt es)
  runs_suffice reported = its_branch (λ run e is. is.suffices reported)

-- ---- a branch more

-- the runs of the branches before, and the first sets of the needle of the next
pub branch_more : {f g h : Bool} (first all enough : Bool) (choice : List (List Bytes)) (es : List Expression) {run : List Bytes} {e : Expression}
    → AllZip (IsRunOf first all enough) choice es → IsRunOf f g h run e → AllZip (IsRunOf (first && f) (all && g) (enough && h)) (choice ++ run ∷ []) (es ++ e ∷ [])
branch_more {f} {g} {h} first all enough [] [] each is = (record { needed = is.needed; begins = λ r. is.begins (and_parts first f r).1; just = λ r. is.just (and_parts all g r).1; suffices = λ r. is.suffices (and_parts enough h r).1 }, tt)
branch_more first all enough [] (d ∷ es) each is = absurd each
branch_more first all enough (r ∷ choice) [] each is = absurd each
branch_more {f} {g} {h} first all enough (r ∷ choice) (d ∷ es) {run} {e} (here, each) is = (record { needed = here.needed; begins = λ r. here.begins (and_parts first f r).0; just = λ r. here.just (and_parts all g r).0; suffices = λ r. here.suffices (and_parts enough h r).0 }, branch_more first all enough choice es each is)

-- of a needle for one run the first sets are a run of the branch
pub front_of_branch : (e : Expression) {needle : Needle} (run front : List Bytes) (all enough : Bool) → IsNeedleOf e needle → runs_of needle.finder ≡ one_run run → front ≡ front_of run
    → (IsTrue all → IsTrue needle.is_all × (length front ≡ length run)) → (IsTrue enough → IsTrue needle.suffices × (length front ≡ length run)) → IsRunOf needle.is_first all enough front e
front_of_branch e run front all enough of one is whole own = record {
  needed = front_needed _ _ e is (rw one at of.needed);
  begins = λ reported line i j within h.
      let rest = drop most_sets run in let cut : run ≡ front ++ rest = cc (take-append-drop most_sets run) in
      one_stands front line i (front_stands line front rest i (one_is (front ++ rest) line i (subst (λ r. RunStandsAt line (one_run r) i) cut (subst (λ r. RunStandsAt line r i) one (of.first reported line i j within h)))));
  just = λ reported. let (its_all, long) = whole reported in subst (λ r. IsJustRun (one_run r) e) (sym (same long)) (rw one at (of.all its_all));
  suffices = λ reported. let (its_own, long) = own reported in subst (λ r. RunSuffices (one_run r) e) (sym (same long)) (rw one at (of.enough its_own));
}
  where
    same : length front ≡ length run → front ≡ run
    same long = is ∙ take_all most_sets run (omega (arith, ap length is, length-take most_sets run, long))
