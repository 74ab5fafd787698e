-- The texts of use trees, case by case.
use Rattle.std.proofs.Common.{◌≡◌, ◌<◌, ◌+◌, ℕ, List, [], ◌∷◌, ◌++◌, length, map, take, get_or, codes, Option, Vec, Global, ap, sym, ◌∙◌, refl, append_assoc, append-nil, arith}
use Rattle.item_tree.proofs.Common.{take_more, map-append, length-map, length-take, by_commas, Path, shown_path, ImportAlias, UseTree, UseTreeKind, Prefixed, Single, Glob, tree_of, tree_of_kind, trees_of, shown_rename, shown_prefix, shown_tree, shown_trees}
use Rattle.hir_input.proofs.CfgLemmas.{by_commas-push}
use Rattle.item_tree.proofs.TreeLemmas.{tree_of-single, tree_of-glob, tree_of-prefixed, tree_of-kind}

shown_trees-of : (r : List (List ℕ)) (ts : List UseTree) → shown_trees r (trees_of ts) ≡ map (λ t. shown_tree r (tree_of t)) ts
unfolding shown_tree shown_trees
shown_trees-of r [] = refl
shown_trees-of r (t ∷ ts) = ap (λ texts. shown_tree r (tree_of t) ∷ texts) (shown_trees-of r ts)

pub shown_tree-single : (r : List (List ℕ)) (p : Path) (a : Option ImportAlias) → shown_tree r (tree_of_kind (Single p a)) ≡ shown_path r p ++ shown_rename r a
unfolding shown_tree shown_trees
shown_tree-single r p a = ap (shown_tree r) (tree_of-single p a)

pub shown_tree-glob : (r : List (List ℕ)) (p : Option Path) → shown_tree r (tree_of_kind (Glob p)) ≡ shown_prefix r p ++ codes "*"
unfolding shown_tree shown_trees
shown_tree-glob r p = ap (shown_tree r) (tree_of-glob p)

pub shown_tree-prefixed : (r : List (List ℕ)) (p : Option Path) (list : Vec UseTree Global) → shown_tree r (tree_of_kind (Prefixed p list)) ≡ shown_prefix r p ++ codes "{" ++ by_commas (map (λ t. shown_tree r (tree_of t)) list.items) ++ codes "}"
unfolding shown_tree shown_trees
shown_tree-prefixed r p list =
    ap (shown_tree r) (tree_of-prefixed p list) ∙ ap (λ texts. shown_prefix r p ++ codes "{" ++ by_commas texts ++ codes "}") (shown_trees-of r list.items)

-- a case with a list, as the code finds it and writes it
pub shown_tree-found : (r : List (List ℕ)) (k : UseTreeKind) (p : Option Path) (list : Vec UseTree Global) (ts : List UseTree) → k ≡ Prefixed p list → ts ≡ list.items →
    shown_prefix r p ++ (codes "{" ++ (by_commas (map (λ t. shown_tree r (tree_of t)) ts) ++ codes "}")) ≡ shown_tree r (tree_of_kind k)
shown_tree-found r k p list ts e f =
    rw (e, f, shown_tree-prefixed r p list) (simp append_assoc)

-- a list, as the code writes it: the first of it, and one more behind others
module _ (r : List (List ℕ)) where
  abbrev text_of : UseTree → List ℕ
  text_of t = shown_tree r (tree_of t)

  text_of-kind : (t : UseTree) → shown_tree r (tree_of_kind t.kind) ≡ text_of t
  text_of-kind t = ap (shown_tree r) (sym (tree_of-kind t))

  one_more : (ts : List UseTree) (i : ℕ) (d : UseTree) → i < length ts → map text_of (take (i + 1) ts) ≡ map text_of (take i ts) ++ text_of (get_or ts i d) ∷ []
  one_more ts i d h = ap (map text_of) (take_more ts i d h) ∙ map-append text_of (take i ts) (get_or ts i d ∷ [])

  pub first_shown : (ts : List UseTree) (d : UseTree) → 0 < length ts → shown_tree r (tree_of_kind (get_or ts 0 d).kind) ≡ by_commas (map text_of (take 1 ts))
  first_shown ts d h = text_of-kind (get_or ts 0 d) ∙ sym (append-nil (text_of (get_or ts 0 d))) ∙ sym (ap by_commas (one_more ts 0 d h))

  pub next_shown : (ts : List UseTree) (i : ℕ) (d : UseTree) → 0 < i → i < length ts → by_commas (map text_of (take i ts)) ++ (codes ", " ++ shown_tree r (tree_of_kind (get_or ts i d).kind)) ≡ by_commas (map text_of (take (i + 1) ts))
  next_shown ts i d p h =
      let some : 0 < length (map text_of (take i ts)) = omega (arith, length-map (take i ts) text_of, length-take i ts) in
      ap (λ z. by_commas (map text_of (take i ts)) ++ (codes ", " ++ z)) (text_of-kind (get_or ts i d)) ∙ sym (by_commas-push (map text_of (take i ts)) (text_of (get_or ts i d)) some) ∙ sym (ap by_commas (one_more ts i d h))

pub ruleset tree_texts = (shown_tree-single, shown_tree-glob, shown_tree-prefixed, tree_of-kind, by_commas-push)
