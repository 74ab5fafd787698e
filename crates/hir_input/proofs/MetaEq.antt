-- `==` at metas decides whether their plain data are one.
use Rattle.std.proofs.Common.{◌≡◌, Bool, false, List, [], ◌∷◌, map, refl, ap, ◌∙◌, Decides}
use Rattle.hir_input.proofs.Common.{option_eq, pointwise, Decides-and, Decides-like, Meta, roll-Meta, out-Meta, out-roll-Meta, roll-out-Meta, ind-Meta, map-Meta, fold-roll-Meta, DecidesEq, DecidesEqOf, MetaView, path_meta, key_value_meta, token_tree_meta, cfg_meta, cfg_attr_meta, unsafe_meta, meta_and, metas_from, meta_step, meta_view}
use lib.Pointwise.{bytes_decides}
use Rattle.hir_input.specs.declared.attr.Meta.TheOpen.{Meta-F}
use Rattle.hir_input.specs.contracts.ast.PathNodePartialEq.TheImpl as nodes
use Rattle.hir_input.specs.contracts.attr.MetaPartialEq.TheImpl as metas
use Rattle.hir_input.specs.contracts.attr.MetaPartialEq.TheImpl.Laws as meta_laws
use Rattle.hir_input.proofs.AttrEq.{option_decides, context_decides, edition_decides, literal_decides, input_decides, attr_decides, path_node_decides}
use Rattle.hir_input.proofs.CfgEq.{atom_decides, cfg_decides, options_decide}
use Rattle.hir_input.proofs.Layers.{rolled_decide, of_rolled}
use Rattle.hir_input.proofs.PathEq.{path_decides}

-- `==` at the two metas decides whether their plain data are one
abbrev IsDecided : Meta → Meta → Type 0
IsDecided a b = Decides (metas.ghosts.eq a b) (meta_view a ≡ meta_view b)

-- from a test that decides it of the layers
of_layers : (x z : Meta-F Meta) (t : Bool) → Decides t (meta_step (map-Meta Meta MetaView meta_view x) ≡ meta_step (map-Meta Meta MetaView meta_view z)) → meta_laws.unfolded (roll-Meta x) (roll-Meta z) ≡ t → IsDecided (roll-Meta x) (roll-Meta z)
of_layers x z t d e = rolled_decide roll-Meta meta_view (fold-roll-Meta MetaView meta_step) x z _ t (meta_laws.is _ _ ∙ e) d

paths_decide : DecidesEq (option_eq nodes.ghosts.eq)
paths_decide = option_decides _ path_node_decides

module _ {S : Type 0} (meta_of : S → Meta) (decided : (s : S) (b : Meta) → IsDecided (meta_of s) b) where
  inner_decide : (ss : List S) (bs : List Meta) → Decides (pointwise metas.ghosts.eq (map meta_of ss) bs) (metas_from (map meta_view (map meta_of ss)) ≡ metas_from (map meta_view bs))
  inner_decide [] [] = (λ h. refl, λ e. refl)
  inner_decide (s ∷ ss) (b ∷ bs) = Decides-like _ (λ e i. meta_and (e.0 i) (e.1 i)) (λ e. (cc, cc)) (Decides-and _ _ (decided s b) (inner_decide ss bs))
  inner_decide _ _ = (λ h. cc, λ e. cc)

  layers_decide : (y : Meta-F S) (z : Meta-F Meta) → IsDecided (roll-Meta (map-Meta S Meta meta_of y)) (roll-Meta z)
  layers_decide (Meta-F.Path p x) (Meta-F.Path q y) =
      of_layers _ _ _ (Decides-like _ (λ e i. path_meta (e.0 i) (e.1 i)) (λ e. (cc, cc)) (Decides-and _ _ (paths_decide p q) (context_decides x y))) (simp out-roll-Meta)
  layers_decide (Meta-F.KeyValue p v x) (Meta-F.KeyValue q w y) =
      of_layers _ _ _
      (Decides-like _ (λ e i. key_value_meta (e.0 i) (e.1.0 i) (e.1.1 i)) (λ e. (cc, (cc, cc)))
      (Decides-and _ _ (paths_decide p q) (Decides-and _ _ (option_decides _ literal_decides v w) (context_decides x y))))
      (simp out-roll-Meta)
  layers_decide (Meta-F.TokenTree p t x) (Meta-F.TokenTree q u y) =
      of_layers _ _ _
      (Decides-like _ (λ e i. token_tree_meta (e.0 i) (e.1.0 i) (e.1.1 i)) (λ e. (cc, (cc, cc)))
      (Decides-and _ _ (paths_decide p q) (Decides-and _ _ (bytes_decides t u) (context_decides x y))))
      (simp out-roll-Meta)
  layers_decide (Meta-F.Cfg c) (Meta-F.Cfg d) = of_layers _ _ _ (Decides-like _ (ap cfg_meta) (λ e. cc) (cfg_decides c d)) (simp out-roll-Meta)
  layers_decide (Meta-F.CfgAttr c ms) (Meta-F.CfgAttr d ns) =
      of_layers _ _ _ (Decides-like _ (λ e i. cfg_attr_meta (e.0 i) (e.1 i)) (λ e. (cc, cc)) (Decides-and _ _ (cfg_decides c d) (inner_decide ms.items ns.items))) (simp out-roll-Meta)
  layers_decide (Meta-F.Unsafe m) (Meta-F.Unsafe n) = of_layers _ _ _ (Decides-like _ (ap unsafe_meta) (λ e. cc) (decided m.value n.value)) (simp out-roll-Meta)
  layers_decide y z = of_layers _ _ false (λ h. cc, λ e. cc) (simp out-roll-Meta)

pub meta_decides : DecidesEqOf meta_view metas.ghosts.eq
meta_decides = ind-Meta (λ a. (b : Meta) → IsDecided a b) (λ x y e. of_rolled IsDecided roll-Meta out-Meta roll-out-Meta e (layers_decide (λ s. s.0) (λ s. s.1) y))

-- what `==` decides at each type that owns memory
pub ruleset equalities = (edition_decides, path_decides, path_node_decides, atom_decides, cfg_decides, options_decide, literal_decides, input_decides, attr_decides, meta_decides)
