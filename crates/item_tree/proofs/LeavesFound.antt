-- The imports of a kept use tree are those of the leaves that are written.
use Rattle.std.proofs.Common.{◌≡◌, ℕ, ◌+◌, List, [], ◌∷◌, ◌++◌, Option, Some, None, refl, sym, ap, ◌∙◌, subst, add-zero, append-nil, slice_get, option_map, All, flat_map}
use Rattle.item_tree.proofs.Common.{option_map_or, All-nil, All-cons, All-append, All-weaker, Path, UseNode, UseTreeView, UseTreeViews, bare_tree, listed_tree, no_trees, tree_and, written_nodes, all_written_nodes, written_count, Tree, prefixed, branches_from, tree_count, kept_prefix, kept_tree, kept_trees, with_kept, if_kept, kept_places, all_kept_places, all_imports_from, imports, WrittenLeaf, imports_of, leaf_imports, with_prefix, kept_count, leaves_from, all_leaves_from, leaves, AreWritten}
use Rattle.std.proofs.lemmas.List.Concat.{flat_map-append}
use Rattle.item_tree.proofs.KeptPlaces.{length-kept_places}
use Rattle.item_tree.proofs.Pieces.{HasFrom, HasFrom-left, HasFrom-right, HasFrom-all}

-- ---- the imports are those of the leaves

-- of several trees, the first of which may not be kept
imports_of-with : (prefixes : List Path) (index : ℕ) (t : Option Tree) (ts : List Tree)
    → all_imports_from prefixes index (branches_from (with_kept t ts)) ≡ imports_of prefixes index t ++ all_imports_from prefixes (index + option_map_or tree_count t 0) (branches_from ts)
imports_of-with prefixes index None ts = rw add-zero refl
imports_of-with prefixes index (Some t) ts = refl

imports_of-bare : (prefixes : List Path) (place index : ℕ) (n : UseNode) (t : Option Tree) → kept_tree (bare_tree n) ≡ t
    → imports_of prefixes index t ≡ flat_map leaf_imports (if_kept t (record { prefixes = prefixes; place = place; index = index; node = n } ∷ []))
imports_of-bare prefixes place index n None e = refl
imports_of-bare prefixes place index n (Some t) e = ap (imports_of prefixes index) (sym e) ∙ sym (append-nil (imports_of prefixes index (kept_tree (bare_tree n))))

imports_of-listed : (prefixes : List Path) (index : ℕ) (prefix : Option (Option Path)) (ts : List Tree) (below : Option Path → List WrittenLeaf)
    → ((p : Option Path) → all_imports_from (with_prefix prefixes p) (index + 1) (branches_from ts) ≡ flat_map leaf_imports (below p))
    → imports_of prefixes index (option_map (λ p. prefixed p (branches_from ts)) prefix) ≡ flat_map leaf_imports (option_map_or below prefix [])
imports_of-listed prefixes index None ts below h = refl
imports_of-listed prefixes index (Some None) ts below h = h None
imports_of-listed prefixes index (Some (Some p)) ts below h = h (Some p)

mutual
  imported : (prefixes : List Path) (place index : ℕ) (w : UseTreeView) → imports_of prefixes index (kept_tree w) ≡ flat_map leaf_imports (leaves_from prefixes place index w)
  imported prefixes place index (bare_tree n) = imports_of-bare prefixes place index n (kept_tree (bare_tree n)) refl
  imported prefixes place index (listed_tree n ts) =
      imports_of-listed prefixes index (kept_prefix n.path) (kept_trees ts) (λ p. all_leaves_from (with_prefix prefixes p) (place + 1) (index + 1) ts) (λ p. all_imported (with_prefix prefixes p) (place + 1) (index + 1) ts)

  all_imported : (prefixes : List Path) (place index : ℕ) (ws : UseTreeViews) → all_imports_from prefixes index (branches_from (kept_trees ws)) ≡ flat_map leaf_imports (all_leaves_from prefixes place index ws)
  all_imported prefixes place index no_trees = refl
  all_imported prefixes place index (tree_and w ws) =
      imports_of-with prefixes index (kept_tree w) (kept_trees ws)
      ∙ (λ i. imported prefixes place index w i ++ all_imported prefixes (place + written_count w) (index + kept_count w) ws i)
      ∙ sym (flat_map-append leaf_imports (leaves_from prefixes place index w) (all_leaves_from prefixes (place + written_count w) (index + kept_count w) ws))

-- ---- where the leaves stand, among these written nodes and in this list of places
module _ (ws : List UseTreeView) (places : List ℕ) where
  record IsFound (l : WrittenLeaf) : Type 0 where
    listed : slice_get places l.index ≡ Some l.place
    written : slice_get ws l.place ≡ Some (bare_tree l.node)

  found-bare : (prefixes : List Path) (place index : ℕ) (n : UseNode) (t : Option Tree) → slice_get ws place ≡ Some (bare_tree n) → HasFrom places index (if_kept t (place ∷ []))
      → All IsFound (if_kept t (record { prefixes = prefixes; place = place; index = index; node = n } ∷ []))
  found-bare prefixes place index n None e h = All-nil IsFound
  found-bare prefixes place index n (Some t) e h = All-cons IsFound _ [] (record { listed = h.0; written = e }) (All-nil IsFound)

  found-listed : (place index : ℕ) (prefix : Option (Option Path)) (inner : List ℕ) (below : Option Path → List WrittenLeaf) → HasFrom places index (if_kept prefix (place ∷ inner))
      → (HasFrom places (index + 1) inner → (p : Option Path) → All IsFound (below p)) → All IsFound (option_map_or below prefix [])
  found-listed place index None inner below h f = All-nil IsFound
  found-listed place index (Some p) inner below h f = f h.1 p

  mutual
    found : (prefixes : List Path) (place index : ℕ) (w : UseTreeView) → HasFrom ws place (written_nodes w) → HasFrom places index (kept_places place w) → All IsFound (leaves_from prefixes place index w)
    found prefixes place index (bare_tree n) g h = found-bare prefixes place index n (kept_tree (bare_tree n)) g.0 h
    found prefixes place index (listed_tree n us) g h =
        found-listed place index (kept_prefix n.path) (all_kept_places (place + 1) us) (λ p. all_leaves_from (with_prefix prefixes p) (place + 1) (index + 1) us) h
        (λ inner p. all_found (with_prefix prefixes p) (place + 1) (index + 1) us g.1 inner)

    all_found : (prefixes : List Path) (place index : ℕ) (us : UseTreeViews) → HasFrom ws place (all_written_nodes us) → HasFrom places index (all_kept_places place us) → All IsFound (all_leaves_from prefixes place index us)
    all_found prefixes place index no_trees g h = All-nil IsFound
    all_found prefixes place index (tree_and u us) g h =
        let next = place + written_count u in
        let rest = HasFrom-right places index (kept_places place u) (all_kept_places next us) h in
        All-append IsFound (leaves_from prefixes place index u) (all_leaves_from prefixes next (index + kept_count u) us)
        (found prefixes place index u (HasFrom-left ws place (written_nodes u) (all_written_nodes us) g) (HasFrom-left places index (kept_places place u) (all_kept_places next us) h))
        (all_found prefixes next (index + kept_count u) us (HasFrom-right ws place (written_nodes u) (all_written_nodes us) g)
        (subst (λ k. HasFrom places (index + k) (all_kept_places next us)) (length-kept_places place u) rest))

pub leaves_written : (w : UseTreeView) (places : List ℕ) (t : Tree) → places ≡ kept_places 0 w → kept_tree w ≡ Some t → AreWritten w places (imports t)
leaves_written w places t e kept =
    let all = found (written_nodes w) places [] 0 0 w (HasFrom-all (written_nodes w)) (subst (HasFrom places 0) e (HasFrom-all places)) in
    record {
      imported = ap (imports_of [] 0) (sym kept) ∙ imported [] 0 0 w;
      listed = All-weaker (IsFound (written_nodes w) places) (λ l. slice_get places l.index ≡ Some l.place) (λ l f. f.listed) (leaves w) all;
      written = All-weaker (IsFound (written_nodes w) places) (λ l. slice_get (written_nodes w) l.place ≡ Some (bare_tree l.node)) (λ l f. f.written) (leaves w) all;
    }
