-- Where texts differ in what is typed inside a body, their trees are equal.
use Rattle.std.proofs.Common.{◌≡◌, ℕ, Bool, List, IsTrue, ap, ◌∙◌, sym, ◌↔◌, false}
use Rattle.itemtree_commands.proofs.Common.{EditionYear, SyntaxView, crate_view, kept_syntax, kept_in, CrateData, SourceTree, IsTreeOf}
use Rattle.hir_input.specs.Bodies.{without_bodies}
use Rattle.item_tree.proofs.BodyTexts.{kept_without_bodies}
use Rattle.rust_edits.proofs.Typing.Typing.{typing_inside}
use Rattle.itemtree_commands.specs.Typing.{IsSameInBody}

kept_alike : (krate : CrateData) (skipped : List (List ℕ)) (s t : SyntaxView) → without_bodies s ≡ without_bodies t → kept_in krate false skipped s ≡ kept_in krate false skipped t
kept_alike krate skipped s t e =
    sym (kept_without_bodies false (crate_view krate) skipped s) ∙ ap (kept_syntax false (crate_view krate) skipped) e ∙ kept_without_bodies false (crate_view krate) skipped t

pub same_in_body : (krate : CrateData) (skipped : List (List ℕ)) (edition : EditionYear) (old new : List ℕ) (t u : SourceTree) (same : Bool) → IsTreeOf krate skipped edition old t → IsTreeOf krate skipped edition new u → (IsTrue same ↔ (t.tree ≡ u.tree))
    → IsSameInBody edition old new same
same_in_body krate skipped edition old new t u same l r d q m m' s e e' h =
    d.1 (l.is_tree.tree ∙ kept_alike krate skipped l.file.syntax r.file.syntax (typing_inside edition q m m' s old new l.file r.file e e' h l.is_read r.is_read) ∙ sym r.is_tree.tree)
