-- What the code holds, as plain data.
use Rattle.std.specs.Prelude.{◌≡◌, map, Option, option_copied}
use Rattle.item_tree.specs.{declared.visibility.RawVisibility.RawVisibility, Layout.vis_at, Node.Unfolding}
use Rattle.tree_walk.specs.declared.subject.Subject as code_subject
use Rattle.tree_walk.specs.declared.subject.Subject.TheVariants.{Nothing, Use, Call}
use Rattle.tree_walk.specs.declared.rows.Row as code_row
use Rattle.tree_walk.specs.Rows.{Subject, no_subject, used, called, RowView}

-- the subject of a row as plain data
abbrev pub subject_view : code_subject.Subject → Subject
subject_view Nothing = no_subject
subject_view (Use item) = used item.now.tree
subject_view (Call path) = called path.now

-- the use that an item is told by is visible as the item is
abbrev pub IsVisibleAs : Unfolding → Option RawVisibility → code_subject.Subject → Type 0
IsVisibleAs u visibility (Use item) = vis_at u.forest item.now.visibility ≡ visibility
IsVisibleAs u visibility Nothing = Unit {0}
IsVisibleAs u visibility (Call path) = Unit {0}

-- so it is in a row
abbrev pub HasOwnUse : Unfolding → code_row.Row → Type 0
HasOwnUse u r = IsVisibleAs u (option_copied r.visibility) r.subject

-- a row as plain data
abbrev pub row_view : code_row.Row → RowView
row_view r = record { level = r.level; scope = map (λ name. name.now) r.scope.value.items; id = r.id; name = option_copied r.name; subject = subject_view r.subject; visibility = option_copied r.visibility; is_active = r.is_active }
