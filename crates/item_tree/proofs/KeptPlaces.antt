-- At the places of the kept nodes stand the written nodes that they are kept from.
use Rattle.std.proofs.Common.{◌≡◌, ◌≤◌, ℕ, suc, ◌+◌, Bool, true, false, List, [], ◌∷◌, ◌++◌, length, map, Option, Some, None, refl, sym, ap, ◌∙◌, arith, length-append, slice_get, option_map, option_and_then}
use Rattle.item_tree.proofs.Common.{option_to_list, option_map_or, map-append, Path, UseTreeView, UseTreeViews, bare_tree, listed_tree, no_trees, tree_and, written_nodes, all_written_nodes, written_count, Tree, prefixed, branches_from, tree_nodes, branch_nodes, tree_count, kept_count, kept_bare, kept_prefix, with_kept, kept_tree, kept_trees, if_kept, kept_places, all_kept_places, ArePlacesOf}
use Rattle.hir_input.specs.declared.ast.PathNode.{PathNode}
use Rattle.hir_input.specs.declared.ast.PathNode.TheVariants.{Readable, Unreadable}
use Rattle.hir_input.specs.declared.ast.Rename.{Rename}
use Rattle.item_tree.proofs.Pieces.{HasFrom, HasFrom-left, HasFrom-right, HasFrom-all}

abbrev kept_nodes : Option Tree → List Tree
kept_nodes None = []
kept_nodes (Some t) = tree_nodes t

kept_nodes-bare : (path : Option PathNode) (star : Bool) (rename : Option Rename) → kept_nodes (kept_bare path star rename) ≡ option_to_list (kept_bare path star rename)
kept_nodes-bare (Some Unreadable) star rename = refl
kept_nodes-bare None true (Some r) = refl
kept_nodes-bare None true None = refl
kept_nodes-bare None false rename = refl
kept_nodes-bare (Some (Readable p)) true (Some r) = refl
kept_nodes-bare (Some (Readable p)) true None = refl
kept_nodes-bare (Some (Readable p)) false rename = refl

kept_nodes-with : (t : Option Tree) (ts : List Tree) → branch_nodes (branches_from (with_kept t ts)) ≡ kept_nodes t ++ branch_nodes (branches_from ts)
kept_nodes-with None ts = refl
kept_nodes-with (Some t) ts = refl

-- what is kept of the node at a place
abbrev kept_at : List UseTreeView → ℕ → Option Tree
kept_at ws place = option_and_then kept_tree (slice_get ws place)

at_bare : (ws : List UseTreeView) (k : ℕ) (t : Option Tree) → kept_at ws k ≡ t → map (kept_at ws) (if_kept t (k ∷ [])) ≡ map Some (option_to_list t)
at_bare ws k None e = refl
at_bare ws k (Some t) e = ap (λ o. o ∷ []) e

at_listed : (ws : List UseTreeView) (k : ℕ) (prefix : Option (Option Path)) (places : List ℕ) (ts : List Tree) → kept_at ws k ≡ option_map (λ p. prefixed p (branches_from ts)) prefix → map (kept_at ws) places ≡ map Some (branch_nodes (branches_from ts)) → map (kept_at ws) (if_kept prefix (k ∷ places)) ≡ map Some (kept_nodes (option_map (λ p. prefixed p (branches_from ts)) prefix))
at_listed ws k None places ts e below = refl
at_listed ws k (Some p) places ts e below = ap (λ o. o ∷ map (kept_at ws) places) e ∙ ap (λ os. Some (prefixed p (branches_from ts)) ∷ os) below

mutual
  at_places : (ws : List UseTreeView) (k : ℕ) (w : UseTreeView) → HasFrom ws k (written_nodes w) → map (kept_at ws) (kept_places k w) ≡ map Some (kept_nodes (kept_tree w))
  at_places ws k (bare_tree n) h = at_bare ws k (kept_bare n.path n.star n.rename) (ap (option_and_then kept_tree) h.0) ∙ ap (map Some) (sym (kept_nodes-bare n.path n.star n.rename))
  at_places ws k (listed_tree n us) h = at_listed ws k (kept_prefix n.path) (all_kept_places (k + 1) us) (kept_trees us) (ap (option_and_then kept_tree) h.0) (at_all_places ws (k + 1) us h.1)

  at_all_places : (ws : List UseTreeView) (k : ℕ) (us : UseTreeViews) → HasFrom ws k (all_written_nodes us) → map (kept_at ws) (all_kept_places k us) ≡ map Some (branch_nodes (branches_from (kept_trees us)))
  at_all_places ws k no_trees h = refl
  at_all_places ws k (tree_and u us) h =
      let first = at_places ws k u (HasFrom-left ws k (written_nodes u) (all_written_nodes us) h) in
      let rest = at_all_places ws (k + written_count u) us (HasFrom-right ws k (written_nodes u) (all_written_nodes us) h) in
      rw (map-append, first, rest, kept_nodes-with (kept_tree u) (kept_trees us), map-append) refl

pub places_stand : (w : UseTreeView) (places : List ℕ) (t : Tree) → places ≡ kept_places 0 w → kept_tree w ≡ Some t → ArePlacesOf w places t
places_stand w places t e kept =
    ap (map (kept_at (written_nodes w))) e
    ∙ at_places (written_nodes w) 0 w (HasFrom-all (written_nodes w))
    ∙ ap (λ o. map Some (kept_nodes o)) kept

-- ---- one place for each kept node

length-bare : (k : ℕ) (t : Option Tree) → kept_nodes t ≡ option_to_list t → length (if_kept t (k ∷ [])) ≡ option_map_or tree_count t 0
length-bare k None e = refl
length-bare k (Some t) e = sym (ap length e)

length-listed : (k : ℕ) (prefix : Option (Option Path)) (places : List ℕ) (ts : List Tree) → length places ≡ length (branch_nodes (branches_from ts))
    → length (if_kept prefix (k ∷ places)) ≡ option_map_or tree_count (option_map (λ p. prefixed p (branches_from ts)) prefix) 0
length-listed k None places ts h = refl
length-listed k (Some p) places ts h = ap suc h

length-kept_nodes : (t : Option Tree) → length (kept_nodes t) ≡ option_map_or tree_count t 0
length-kept_nodes None = refl
length-kept_nodes (Some t) = refl

mutual
  pub length-kept_places : (k : ℕ) (w : UseTreeView) → length (kept_places k w) ≡ kept_count w
  length-kept_places k (bare_tree n) = length-bare k (kept_bare n.path n.star n.rename) (kept_nodes-bare n.path n.star n.rename)
  length-kept_places k (listed_tree n us) = length-listed k (kept_prefix n.path) (all_kept_places (k + 1) us) (kept_trees us) (length-all_kept_places (k + 1) us)

  length-all_kept_places : (k : ℕ) (us : UseTreeViews) → length (all_kept_places k us) ≡ length (branch_nodes (branches_from (kept_trees us)))
  length-all_kept_places k no_trees = refl
  length-all_kept_places k (tree_and u us) =
      let next = k + written_count u in
      rw (kept_nodes-with (kept_tree u) (kept_trees us))
      (omega (
        arith,
        length-append (kept_places k u) (all_kept_places next us),
        length-append (kept_nodes (kept_tree u)) (branch_nodes (branches_from (kept_trees us))),
        length-kept_places k u,
        length-kept_nodes (kept_tree u),
        length-all_kept_places next us,
      ))

-- ---- no more nodes are kept than written

one_at_most : (t : Option Tree) → length (option_to_list t) ≤ 1
one_at_most None = omega arith
one_at_most (Some t) = omega arith

listed_at_most : (prefix : Option (Option Path)) (ts : List Tree) (n : ℕ) → length (branch_nodes (branches_from ts)) ≤ n → length (kept_nodes (option_map (λ p. prefixed p (branches_from ts)) prefix)) ≤ suc n
listed_at_most None ts n h = omega arith
listed_at_most (Some p) ts n h = omega arith

mutual
  kept_at_most : (w : UseTreeView) → length (kept_nodes (kept_tree w)) ≤ written_count w
  kept_at_most (bare_tree n) = rw (kept_nodes-bare n.path n.star n.rename) (one_at_most (kept_bare n.path n.star n.rename))
  kept_at_most (listed_tree n us) = listed_at_most (kept_prefix n.path) (kept_trees us) (length (all_written_nodes us)) (all_kept_at_most us)

  all_kept_at_most : (us : UseTreeViews) → length (branch_nodes (branches_from (kept_trees us))) ≤ length (all_written_nodes us)
  all_kept_at_most no_trees = omega arith
  all_kept_at_most (tree_and u us) =
      let first = kept_at_most u in
      let rest = all_kept_at_most us in
      rw (kept_nodes-with (kept_tree u) (kept_trees us))
      (omega (arith, length-append (kept_nodes (kept_tree u)) (branch_nodes (branches_from (kept_trees us))), length-append (written_nodes u) (all_written_nodes us)))

pub kept_no_more : (w : UseTreeView) (t : Tree) → kept_tree w ≡ Some t → tree_count t ≤ written_count w
kept_no_more w t e = let h = kept_at_most w in rw e at h
