-- What a use tree is seen as, for the functions that write one.
use Rattle.hir_input_json.proofs.Writing.Common.{use_tree_view-bare, use_tree_view-listed}
use Rattle.hir_input_json.proofs.Writing.Nulls.{view-Null}

pub ruleset use_tree_views = (use_tree_view-bare, use_tree_view-listed, view-Null)
