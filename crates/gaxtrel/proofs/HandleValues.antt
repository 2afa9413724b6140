-- The machine values of a `Handle`, and what they own. Assumes `Logic`.
use Rattle.gaxtrel.proofs.Machine.{◌≡◌, List, [], ◌∷◌, refl, Option, Ura, impl, tnil, dnil, Val, vnull, has_ty, WT, and_tt, Logic, RattleType, Valss, RawPtr, Ptr, ptr_val, nothing, layout, Laws, within, shape, Ghosts, Al, handle_tells, Good, Held, held_owns}
use mathlib.Core.Bool.{true, ◌&&◌}
use lib.Dec.{T, lit<}
use types.Kit.{Item, Goal, Seq, Step, step, ‵, ◌$◌, move, drop, fsplit, fjoin, fpick, fpack, feq_i, feq_l}
use Rattle.std.specs.contracts.alloc.Global as global
use Rattle.std.specs.contracts.impls.GlobalAllocator.TheImpl as heap
use Rattle.std.proofs.alloc.Global.TheLaws as global_laws
use Rattle.gaxtrel.specs.contracts.held.Held as kind
use Rattle.gaxtrel.specs.contracts.handle.Handle as handle
use Rattle.gaxtrel.proofs.Values as loose

abbrev pub R : RattleType
R = kind.the_row

abbrev pub Z : RattleType
Z = global.the_row

abbrev pub L : Laws Z
L = global_laws.the_row_laws

abbrev pub g : Ghosts Z.Denot
g = heap.ghosts

abbrev pub Loose : RattleType
Loose = loose.Loose R Z L g

abbrev pub Handle : RattleType
Handle = handle.the_row

abbrev pub al : Al
al = record { row = Z; laws = L; g = g; d = impl [] tnil dnil; drops = impl [] tnil dnil }

pub handle_good : (h : Val) → Good (layout Z) h → T (has_ty (layout Z) h && true) × WT (loose.both vnull h)
handle_good h fits = (and_tt (has_ty (layout Z) h) fits.0, (record { fits = lit< tt }, (fits.1, tt)))

module _ {M : Type 1} {𝓤 : Ura M} {𝓛 : Logic 𝓤} {K : Type 0} {Γ : List (Item 𝓤)} {G : Goal 𝓤 𝓛.H} where
  pub handle_in : K → (p : Ptr) (h : Val) (a : Z.Denot) (x : Option Held)
      → Step K 𝓛 (‵ (Handle.own_val (record { at = p; alloc = a; held = x }) (loose.both (ptr_val p) h ∷ [])) ∷ Γ) G (‵ (held_owns R a p x) ∷ ‵ (Z.own_val a (h ∷ [])) ∷ Γ) G
  handle_in t p h a x = step (λ s. let v = loose.both (ptr_val p) h in
      nothing t $ move t (2 ∷ 0 ∷ []) $ fjoin t $ feq_i t (List Val) (ptr_val p ∷ []) (ptr_val p ∷ []) refl $ fjoin t $ feq_i t (List Val) (v ∷ []) (v ∷ []) refl $ fjoin t $
      fpack t (Valss (RawPtr ∷ (global.the_field).row ∷ [])) (within (shape handle.the_type) (p, ((global.the_field).into a, tt)) (v ∷ [])) (ptr_val p ∷ [], (h ∷ [], tt)) $ fjoin t $ s)

  pub handle_out : K → (d : Handle.Denot) (vs : List Val)
      → ((h : Val) → vs ≡ loose.both (ptr_val d.at) h ∷ [] → Good (layout Z) h → Seq K 𝓛 (‵ (held_owns R d.alloc d.at d.held) ∷ ‵ (Z.own_val d.alloc (h ∷ [])) ∷ Γ) G)
      → Seq K 𝓛 (‵ (Handle.own_val d vs) ∷ Γ) G
  handle_out t d vs k =
      fsplit t $ fpick t (λ vss. fsplit t $ feq_l t (λ ev. fsplit t $ feq_l t (λ ep. fsplit t $ handle_tells al t d.alloc vss.1.0 (λ h ea fits. move t (1 ∷ []) $ drop t $ move t (1 ∷ []) $ k h
      (rw ea at (rw ep at ev)) fits))))
