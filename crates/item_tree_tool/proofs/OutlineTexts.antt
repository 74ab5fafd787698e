-- Two tables that the same edits lead to have the same outlines.
use Rattle.std.proofs.Common.{◌≡◌, ◌<◌, List, [], ◌++◌, length, ap, ◌∙◌}
use Rattle.item_tree_db.specs.State.{State}
use Rattle.item_tree_db.specs.Edits.{EditView}
use Rattle.item_tree_db.specs.History.{IsAfter}
use Rattle.item_tree_request.specs.declared.request.show.Show.TheVariants.{OfTree, Changed}
use Rattle.item_tree_request.specs.declared.request.show.TreeShow.{TreeShow}
use Rattle.item_tree_request.specs.declared.request.show.ShowKind.{ShowKind}
use Rattle.item_tree_request.specs.declared.request.show.ShowKind.TheVariants.{Page, Tree, Imports}
use Rattle.item_tree_request.specs.Outputs.{heading, AreFixed}
use Rattle.item_tree_request.proofs.Outputs.{trees-same, heading-same, changes-same}
use Rattle.tree_walk.specs.Lines.{forest_lines}
use Rattle.item_tree_tool.specs.Outlines.{outline_of, show_text_as, IsOutlined}

module _ (s u v : State) (edits : List EditView) (a : IsAfter s edits u) (b : IsAfter s edits v) where
  outline-same : (show : TreeShow) → show.krate.0 < length s.crates → outline_of u show ≡ outline_of v show
  unfolding outline_of
  outline-same show known = ap (λ t. forest_lines [] t.forest) (trees-same s u v edits a b show.place show.krate.0 known)

  show_text_as-same : (kind : ShowKind) (show : TreeShow) → show.krate.0 < length s.crates → show_text_as kind u show ≡ show_text_as kind v show
  show_text_as-same Page show known = outline-same show known
  show_text_as-same Tree show known =
      ap (λ text. text ++ outline_of u show) (heading-same s u v edits a b show known) ∙ ap (λ text. heading v show ++ text) (outline-same show known)
  show_text_as-same Imports show known = outline-same show known

pub texts_fixed : AreFixed IsOutlined
texts_fixed s u v edits a b reserved (OfTree show) text known is = is ∙ show_text_as-same s u v edits a b show.kind show known
texts_fixed s u v edits a b reserved (Changed since) text known is = changes-same s u v edits a b since text is
