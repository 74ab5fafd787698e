-- A rename and a use tree that are written are read again.
use Rattle.std.proofs.Common.{◌≡◌, ℕ, List, Bool, true, false, bytes_eq, IfSome, Option, Some, None, if◌then◌else◌, codes, refl, ap, subst, ◌∙◌}
use Rattle.serde_json.specs.Data.{Data, null, array}
use Rattle.serde_json.specs.Written.{has_float}
use Rattle.hir_input_json.proofs.Writing.Common.{Rename, UseNode, UseTreeView, UseTreeViews, bare_tree, listed_tree, no_trees, tree_and, tree_from, trees_from, right, reading_map, field, list_of, maybe, unless_null, path_node_form, rename_form, use_tree_form, Holds, MayHold, maybe_data, name_data, path_data, rename_data, renamed_data, use_node_data, use_tree_data, use_trees_data}
use Rattle.hir_input_json.proofs.UseTrees.{use_tree_reads_itself}
use Rattle.hir_input_json.proofs.Writing.WrittenParts.{HoldAll, bind, held_of, maybe_law, named_law, none_of}
use Rattle.hir_input_json.proofs.Writing.PathLaws.{path_law}

other_by : (b : Bool) (n : List ℕ) (Q : Data → Type 0) (o : Option Data) → (b ≡ false → IfSome o Q) → IfSome (if b then None else o) Q
other_by true n Q o k = tt
other_by false n Q o k = k refl

renamed_law : (n : Option (List ℕ)) → IfSome (renamed_data n) (Holds rename_form (record { name = n }))
renamed_law None = record { there = refl; reads = refl; exact = refl }
renamed_law (Some n) =
    other_by (bytes_eq n (codes "_")) n (Holds rename_form (record { name = Some n })) (name_data n) (λ e.
    named_law n (Holds rename_form (record { name = Some n })) (λ k. record { there = refl; reads = rw (e, k) refl; exact = refl }))

pub rename_law : (r : Rename) → IfSome (rename_data r) (Holds rename_form r)
rename_law r = renamed_law r.name

-- over the reading of the list that is written
node_law : (node : UseNode) (list : Data) (ts : Option (List UseTreeView)) → maybe (list_of use_tree_form) (unless_null list) ≡ right ts → has_float list ≡ false
    → IfSome (use_node_data node list) (Holds use_tree_form (tree_from node ts))
unfolding field
node_law node list ts is exact =
    bind (maybe_data path_data node.path) _ (MayHold path_node_form node.path) (Holds use_tree_form (tree_from node ts)) (maybe_law path_data path_node_form path_law node.path) (λ d h.
    bind (maybe_data rename_data node.rename) _ (MayHold rename_form node.rename) (Holds use_tree_form (tree_from node ts)) (maybe_law rename_data rename_form rename_law node.rename) (λ e k.
    record { there = refl; reads = use_tree_reads_itself _ ∙ rw (h.reads, k.reads, is) refl; exact = rw (exact, h.exact, k.exact) refl }))

mutual
  pub use_tree_law : (t : UseTreeView) → IfSome (use_tree_data t) (Holds use_tree_form t)
  use_tree_law (bare_tree node) = node_law node null None refl refl
  use_tree_law (listed_tree node ts) =
      bind (use_trees_data ts) _ (HoldAll use_tree_form trees_from ts) (Holds use_tree_form (listed_tree node ts)) (use_trees_law ts) (λ ds h.
      subst (λ us. IfSome (use_node_data node (array ds)) (Holds use_tree_form (listed_tree node us))) h.made (node_law node (array ds) (Some h.list) (ap (reading_map Some) (h.each.reads 0)) h.each.exact))

  pub use_trees_law : (ts : UseTreeViews) → IfSome (use_trees_data ts) (HoldAll use_tree_form trees_from ts)
  use_trees_law no_trees = none_of use_tree_form trees_from
  use_trees_law (tree_and t ts) =
      held_of use_tree_form trees_from tree_and t ts (use_tree_data t) (use_trees_data ts) (λ all. refl) (use_tree_law t) (use_trees_law ts)
