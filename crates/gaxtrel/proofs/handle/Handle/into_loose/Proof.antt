-- `into_loose` gives the pointer of a loose box back.
use Rattle.{gaxtrel.{proofs.{Machine.{◌≡◌, List, [], ◌∷◌, ◌++◌, refl, sym, ap, ◌∙◌, subst, Option, Some, bare, Val, vptr, SProp, ent, emp, id⊢, never, fst∗, ftrue, WpFn, sem, agg, sub, whole, fact, fact_i, tables, yes, lone, owns, types_at, plain, Ptr, block_ptr, null_ptr, ptr_val, in_a_block, nothing, heard, Stays, stay_dropped, walk_of, Goes-blank, proved_at, leaves, Held, held_owns}, Values.{both, loose_good, loose_in}, HandleValues.{R, Z, L, g, Handle, handle_out}, handle.Handle.into_loose.Statement.statement}, specs.contracts.handle.Handle.into_loose.{ended, clauses}}, std.specs.{contracts.impls.GlobalAllocator.TheImpl.ghosts, Box.Ownership.box_owns}}
use types.Kit.{‵, raw, ◌⊛◌, ◌$◌, ◌∵◌, !, qed, by, move, keep, drop, split, fsplit, fjoin, suffices, use0, rewrite}
use types.Run.{stop, fld, of_opd, no_more, and_then, returns, enter}
use types.ByLocal.{alloc_all, pass_all, free_all, look_at, get, get_in, sets}
use Rattle.gaxtrel.specs.contracts.handle.Handle.into_loose.Key.{name as #self}
use Rattle.gaxtrel.proofs.handle.Handle.into_loose.Code as code

pub into_loose_spec : {M : Type 1} → statement M
into_loose_spec 𝓤 𝓛 𝓜 𝓡 wired =
    let H = 𝓛.H in let 𝓣 = tables 𝓤 H 𝓜 𝓡 𝓡.env in let c = clauses 𝓛 𝓜.mem 𝓡.returns in let fn = code.function in
    let hs : Stays ended.signature.params ended.kept = (stay_dropped (plain (λ _. Handle)) yes, tt) in
    proved_at 𝓛 ended hs c 𝓜 𝓡 (Goes-blank 𝓛 0 (plain (λ _. Handle)) yes (λ κs x f. tt), tt) #self fn (code.unfolded 𝓤 H 𝓜 𝓡 wired) (λ z are.
    let κs = z.0.0 in let v = z.0.3.0 in let a = v.alloc in let Has : Type 0 = (m : Held) × (v.held ≡ Some m) in let Post : Val → SProp 𝓤 = (walk_of 𝓛 ended hs c).post z in let Run : List Val → SProp 𝓤 = λ ws. WpFn 𝓤 H 𝓣.C 𝓣.Λ fn ws Post in
    qed 𝓛 ((‵ ftrue ⊛ ‵ (owns (types_at ended.signature.params κs) z.0.3 z.0.4)) ∷ raw (fact 𝓤 Has) ∷ []) ∵ move ! (1 ∷ []) $ heard ! Has (λ has. let x : Held = has.0 in let eh = has.1 in
    split ! $ drop ! $ fsplit ! $ handle_out ! v z.0.4.0 (λ h ws fits. rewrite ! 0 (λ (y : Option Held). ‵ (held_owns R v.alloc v.at y)) eh refl $
    in_a_block ! v.at (λ p. box_owns (ghosts.dealloc_token a) R p x) (fst∗ 𝓤 (never 𝓤) (sem 𝓛 (ghosts.dealloc_token a (bare (lone R.mir)) null_ptr))) (λ b o e.
    let w : Val = both (vptr b o) h in let typed = loose_good R Z L g b o h fits in let is : z.0.4.0 ≡ w ∷ [] = ws ∙ ap (λ (p : Ptr). both (ptr_val p) h ∷ []) e in
    suffices ! (Run (w ∷ [])) (subst (λ (us : List Val). ent 𝓤 (Run (w ∷ [])) (Run us)) (sym (λ i. is i ++ [])) (id⊢ 𝓤 (Run (w ∷ [])))) $
    enter ! 𝓣.C 𝓣.Λ fn (w ∷ []) Post $ alloc_all ! (λ l. pass_all ! refl (typed, tt) $
    sets ! (of_opd ! (get_in ! (fld ! refl (stop !)) (sub ! 0 refl (whole !)))) refl (tt, tt) $ sets ! (of_opd ! (get_in ! (fld ! refl (stop !)) (sub ! 1 refl (whole !)))) refl fits $
    sets ! (of_opd ! (get ! refl)) refl (tt, tt) $ sets ! (agg ! (and_then ! (get ! refl) (and_then ! (get ! refl) (no_more !)))) refl typed $
    loose_in R Z L g ! b o h a x $
    use0 𝓛 (raw (fact 𝓤 (v.held ≡ Some x))) (fact_i 𝓤 (v.held ≡ Some x) (emp 𝓤) eh) $ nothing ! $ nothing ! $ fjoin ! $ nothing ! $
    returns ! (look_at ! 0 refl) $ free_all ! refl $ keep ! (0 ∷ 1 ∷ 3 ∷ 2 ∷ []) $ by ! (leaves 𝓛 ended hs c z w (record { at = block_ptr b o; alloc = a; value = x }) (tt, tt) (tt, tt)))))))
