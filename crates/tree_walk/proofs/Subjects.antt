-- What a lent item is told by is what its node is told by, and is visible as that is.
use Rattle.std.proofs.Common.{◌≡◌, ℕ, refl, ap, sym, ◌∙◌, Some, None}
use Rattle.item_tree.specs.{Walk.of_id, Layout.leaf_map, Layout.vis_at, Shown.Lent, Shown.lent_leaf, Shown.lent_parent, Shown.IsLent}
use Rattle.item_tree.specs.Node.{Leaf, plain, Unfolding}
use Rattle.item_tree.proofs.Walking.{leaf_of_id, parent_of_id}
use Rattle.tree_walk.specs.declared.subject.Subject as code
use Rattle.tree_walk.specs.declared.subject.Subject.TheVariants.{Nothing, Use, Call}
use Rattle.tree_walk.proofs.LentNames.{visibility_at}
use Rattle.tree_walk.specs.{Declarations.node_visibility, Views.IsVisibleAs, Inner.Rows.HasLentVisibility, Rows.no_subject, Rows.leaf_subject, Rows.node_subject, Inner.Rows.lent_subject, Inner.Rows.subject_at}

subject-leaf : {V W : Type 0} (f : V → W) (l : Leaf V) → leaf_subject (leaf_map f l) ≡ leaf_subject l
subject-leaf f (plain k n v) = refl
subject-leaf f _ = refl

pub subjects_at : (u : Unfolding) (i : ℕ) (x : Lent) → IsLent u i x → subject_at u i ≡ lent_subject x
subjects_at u i (lent_leaf a l) p = leaf_of_id u no_subject node_subject i a l p ∙ sym (subject-leaf Some p.item) ∙ ap leaf_subject (sym p.visible) ∙ subject-leaf (vis_at u.forest) l
subjects_at u i (lent_parent a t is) p = parent_of_id u no_subject node_subject i a t is p

pub visible_as : (u : Unfolding) (i : ℕ) (x : Lent) (s : code.Subject) → IsLent u i x → HasLentVisibility x s → IsVisibleAs u (of_id u None node_visibility i) s
visible_as u i x (Use item) p e = visibility_at u i x item.now.visibility p e
visible_as u i x Nothing p e = tt
visible_as u i x (Call path) p e = tt

pub ruleset lent_subjects = (subjects_at, visible_as)
