-- A use tree's form reads itself, and what a made use tree is seen as.
use Rattle.std.proofs.Common.{◌≡◌, Bool, Option, Some, None, option_map, map, codes, refl, rules, Vec, Global}
use Rattle.hir_input.specs.declared.ast.PathNode.{PathNode}
use Rattle.hir_input.specs.declared.ast.Rename.{Rename}
use Rattle.hir_input.specs.declared.ast.UseTree.{UseTree, the_lemmas}
use Rattle.hir_input.specs.declared.ast.UseTree.TheViews.{roll-UseTree}
use Rattle.hir_input_json.proofs.Common.{use_tree_view, tree_from, field, list_of, use_tree_with}
use Rattle.hir_input_json.proofs.Laws.{LooksInside, ReadsItself}
use Rattle.hir_input_json.proofs.NestedForms.{maybe_same, list_in, reads_itself}

use_tree_inside : LooksInside use_tree_with
use_tree_inside f g d same = rw (maybe_same (list_of f) (list_of g) (field (codes "list") d) (list_in f g (codes "list") d same)) refl

pub use_tree_reads_itself : ReadsItself use_tree_with
use_tree_reads_itself = reads_itself use_tree_with use_tree_inside

pub use_tree_view_made : (path : Option PathNode) (star : Bool) (rename : Option Rename) (list : Option (Vec UseTree Global))
    → use_tree_view (roll-UseTree (record { path = path; star = star; rename = rename; list = list }))
    ≡ tree_from (record { path = path; star = star; rename = rename }) (option_map (λ v. map use_tree_view v.items) list)
use_tree_view_made path star rename None = search (rules, the_lemmas)
use_tree_view_made path star rename (Some v) = search (rules, the_lemmas)
