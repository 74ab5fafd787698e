-- For the crate's own functions: rows by the ids of items, and what is lent of these.
use Rattle.std.specs.Prelude.{◌≡◌, ℕ, Bool, false, List, [], ◌∷◌, Some}
use Rattle.item_tree.specs.{Node.Unfolding, Shown.Lent, Shown.lent_leaf, Shown.lent_parent, Walk.of_id}
use Rattle.tree_walk.specs.declared.subject.Subject as code
use Rattle.tree_walk.specs.declared.subject.Subject.TheVariants.{Nothing, Use, Call}
use Rattle.tree_walk.specs.Inner.Declared.{lent_visibility}
use Rattle.tree_walk.specs.Rows.{Around, RowView, Subject, no_subject, leaf_subject, node_subject, row, is_enabled}

-- the row of the item of an id, which stands in these
abbrev pub step_row : Unfolding → ℕ × Around → List RowView
step_row u s = of_id u [] (λ n. row s.1 n ∷ []) s.0

abbrev pub enabled_at : Unfolding → ℕ → Bool
enabled_at u i = of_id u false is_enabled i

abbrev pub lent_subject : Lent → Subject
lent_subject (lent_leaf a l) = leaf_subject l
lent_subject (lent_parent a t is) = no_subject

-- the use that it is told by has the visibility that is lent
abbrev pub HasLentVisibility : Lent → code.Subject → Type 0
HasLentVisibility x (Use item) = Some item.now.visibility ≡ lent_visibility x
HasLentVisibility x Nothing = Unit {0}
HasLentVisibility x (Call path) = Unit {0}

abbrev pub subject_at : Unfolding → ℕ → Subject
subject_at u i = of_id u no_subject node_subject i
