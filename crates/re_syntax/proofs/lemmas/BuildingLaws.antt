-- Levels of trees that are built of tokens.
use Rattle.re_syntax.{proofs.{Prelude.{◌≡◌, ℕ, List, [], ◌∷◌, ◌++◌, map, Option, refl, sym, ap, ◌∙◌, Syntax, IsSpelled, Text, Expression, choice, repeat, Tree, expression_of}, lemmas.{Built.{repeat-snoc, build-append, build-one, cut_branches}, Mirrored.{partner, none_mirrors}}}, specs.{declared.building.{TreeFrame.TreeFrame, Building.Building}, Tokens.{Token, closing}, FirstFaults.IsCut, Working.Builds.{Frame, repeat_last, branches_of, with_item, build_all, nothing_built, FrameMeans, Builds, BuildsOn}, Spelled.by_tokens}}

-- a group is left
pub left_means : {old new : Building} (last : TreeFrame) (tree : Tree) → old.outer.items ≡ new.outer.items ++ last ∷ [] → ((l : Frame) → FrameMeans old.level l → expression_of tree ≡ choice (branches_of l)) →
    ((l : Frame) → FrameMeans last l → FrameMeans new.level (with_item (expression_of tree) l)) → BuildsOn closing old new
left_means last tree e h k = record {
  on = λ b m.
      let around = partner m.outer e in
      let level = rw (h b.level m.level) at (k around.first around.is) in
      rw around.are (record { level = level; outer = around.mirrors });
}

-- no group is left where none is open
pub left_none : (building : Building) → building.outer.items ≡ [] → BuildsOn closing building building
left_none building e = record {
  on = λ b m.
      let none = none_mirrors m.outer e in
      rw none (record { level = m.level; outer = rw none at m.outer });
}

map-snoc : (ts : List Tree) (t : Tree) → map expression_of (ts ++ t ∷ []) ≡ map expression_of ts ++ expression_of t ∷ []
map-snoc [] t = refl
map-snoc (x ∷ ts) t = rw (map-snoc ts t)

-- the last item was repeated
pub repeated_trees : {old : List Tree} (rest new : List Tree) (last : Tree) {x : Expression} (least : ℕ) (most : Option ℕ) → old ≡ rest ++ last ∷ [] → x ≡ repeat (expression_of last) least most →
    map expression_of new ≡ map expression_of rest ++ x ∷ [] → map expression_of new ≡ repeat_last least most (map expression_of old)
repeated_trees rest new last least most e f h =
    h ∙ ap (λ y. map expression_of rest ++ y ∷ []) f ∙ sym (repeat-snoc _ _ _ _) ∙ ap (repeat_last least most) (cc (map-snoc _ _))

-- one token more was built
pub builds_more : (done : List Token) {k : Token} {old new : Building} → Builds old (build_all done nothing_built) → BuildsOn k old new → Builds new (build_all (done ++ k ∷ []) nothing_built)
builds_more done {k} m on =
    rw (build-append _ _ _ ∙ build-one k (build_all done nothing_built)) (on.on (build_all done nothing_built) m)

-- the text spells what was built of its cut
pub built_spelled : {syntax : Syntax} {text : Text} {done : List Token} → IsCut syntax text done → IsSpelled syntax text (choice (branches_of (build_all done nothing_built).level))
built_spelled cut = by_tokens cut (cut_branches cut)
