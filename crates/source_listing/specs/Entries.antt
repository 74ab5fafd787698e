-- What outlines tell of: items, members and imports.
use Rattle.std.specs.Prelude.{ℕ, Bool, ◌&&◌, List, [], ◌∷◌, codes, Option, Some, None}
use Rattle.hir_input.specs.declared.ids.FileAstId.{FileAstId}
use Rattle.item_tree.specs.declared.visibility.RawVisibility.{RawVisibility}
use Rattle.item_tree.specs.Imports.{Import}
use Rattle.item_tree.specs.Node.{Node, Unfolding, node_ast}
use Rattle.item_tree.specs.Walk.{of_id}
use Rattle.tree_walk.specs.Declarations.{node_name, node_visibility}
use Rattle.tree_walk.specs.Rows.{RowView, Subject, node_subject, is_enabled}
use Rattle.rust_items.specs.declared.member.MemberKind.{MemberKind}
use Rattle.source_rows.specs.Labels.{item_word, member_word}
use Rattle.source_rows.specs.Listed.{Listed}
use Rattle.source_rows.specs.declared.finder.Spot.{Spot}

-- an item, with the header of an impl and what it is told by if it has no name; a member of one; or an import of a use
pub data EntryKind : Type 0 where
  of_item : FileAstId → List ℕ → Subject → EntryKind
  of_member : MemberKind → EntryKind
  of_import : Import → EntryKind

-- what an outline tells of, where it stands, and whether no cfg disables it, nor what it stands in
pub record Entry : Type 0 where
  pub kind : EntryKind
  pub name : Option (List ℕ)
  pub visibility : Option RawVisibility
  pub is_active : Bool
  pub spot : Option Spot

-- the word of a kind
abbrev pub entry_word : EntryKind → List ℕ
entry_word (of_item id _ _) = item_word id.kind
entry_word (of_member kind) = member_word kind
entry_word (of_import i) = codes "use"

-- ---- entries

-- an item of a tree, and whether no cfg disables it, nor an item that it stands in, nor the file
pub record ItemView : Type 0 where
  pub id : FileAstId
  pub name : Option (List ℕ)
  pub subject : Subject
  pub visibility : Option RawVisibility
  pub is_active : Bool

-- the item of a node, in what a cfg disables or none does
abbrev pub item_in : Bool → Node → ItemView
item_in is_active n = record { id = node_ast n; name = node_name n; subject = node_subject n; visibility = node_visibility n; is_active = is_active && is_enabled n }

-- the item of an id, alone in a list
abbrev pub item_at : Unfolding → Bool → ℕ → List ItemView
item_at u is_active i = of_id u [] (λ n. item_in is_active n ∷ []) i

-- the item of a row
abbrev pub item_in_row : RowView → ItemView
item_in_row r = record { id = r.id; name = r.name; subject = r.subject; visibility = r.visibility; is_active = r.is_active }

-- an item with this header, which stands there
abbrev pub item_entry : List ℕ → Option Spot → ItemView → Entry
item_entry header spot i = record { kind = of_item i.id header i.subject; name = i.name; visibility = i.visibility; is_active = i.is_active; spot = spot }

-- a member
abbrev pub member_entry : Spot → Listed → Entry
member_entry spot m = record { kind = of_member m.kind; name = Some m.name; visibility = Some m.visibility; is_active = m.is_active; spot = Some spot }

-- an import of the use of a row
abbrev pub import_entry : Option Spot → RowView → Import → Entry
import_entry spot r i = record { kind = of_import i; name = None; visibility = r.visibility; is_active = r.is_active; spot = spot }
