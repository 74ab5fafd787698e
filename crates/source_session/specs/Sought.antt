-- Paths of names that are looked for.
use Rattle.std.specs.Prelude.{ℕ, Bool, false, ◌==◌, ◌&&◌, ◌||◌, if◌then◌else◌, List, [], ◌∷◌, ◌++◌, codes, map, Option, Some, None, flat_map, unwrap_or}
use Rattle.std.specs.List.{list_any}
use Rattle.serde_json.specs.Data.{Data}
use Rattle.hir_input_json.specs.Reading.{Reading, right, here, ◌>>=◌}
use Rattle.hir_input.specs.Name.{name_in}
use Rattle.hir_input_json.specs.Forms.{required_at, text_form}
use Rattle.item_tree.specs.Node.{Unfolding}
use Rattle.item_tree_db.specs.State.{State, unfolding_at}
use Rattle.tree_walk.specs.Declarations.{Declaration, declared_at}
use Rattle.decl_index.specs.declared.entry.Entry.{Entry}
use Rattle.decl_index.specs.Lookup.{entry_has_name}
use Rattle.source_listing.specs.Paths.{bare_segment, is_sought_path}
use Rattle.source_listing.specs.Patterns as globs
use Rattle.source_listing.specs.Patterns.{Pattern}
use Rattle.source_listing.specs.Sought.{Sought, sought_path}
use Rattle.line_index.specs.declared.Units.{Units}
use Rattle.line_index.specs.declared.Units.TheVariants.{Characters}
use Rattle.source_session.specs.Parts.{parts_between, last_part}
use Rattle.source_session.specs.Units.{units_at}

-- a path that is looked for, its last name, and what columns of what is found count
pub record SoughtItem : Type 0 where
  pub path : Sought
  pub name : List ℕ
  pub units : Units

-- names of which the last may be a glob, whether members are looked for too, and what columns of what is found count
pub record Searched : Type 0 where
  pub pattern : Pattern
  pub has_members : Bool
  pub units : Units

-- a glob of a name has a star or a question mark
abbrev pub holds_mark : List ℕ → Bool
holds_mark name = list_any (λ b. b == 42 || b == 63) name

-- what is looked for is more than the items of one name
abbrev pub is_wide : Searched → Bool
is_wide s = s.has_members || holds_mark s.pattern.name

-- ---- how it is written

-- names as the command takes them
abbrev pub asked_pattern : Data → Reading Pattern
asked_pattern d = do
  s ← text_form d
  here (globs.pattern false s)

-- the last name of a path: what stands behind its last colon
abbrev pub last_name : List ℕ → Reading (List ℕ)
last_name path = here (name_in (last_part (parts_between 58 path)))

-- a path as the command takes it, by columns of characters
abbrev pub asked_path : Data → Reading SoughtItem
asked_path d = do
  s ← text_form d
  path ← here (sought_path s)
  name ← last_name path.path
  right (record { path = path; name = name; units = Characters })

-- the path that is looked for, which is required, by columns of the units that are asked for
abbrev pub asked_path_in : Data → Reading SoughtItem
asked_path_in d = do
  item ← required_at (codes "name") asked_path d
  units ← units_at d
  right (record item { units = units })

-- ---- what it finds

-- the path of a declaration, with the id of its item
abbrev pub own_scope : ℕ × Declaration → ℕ × List (List ℕ)
own_scope d = (d.0, d.1.path)

-- that of the item of this id, if it declares something
abbrev pub found_scope : ℕ → List (ℕ × List (List ℕ)) → Option (List (List ℕ))
found_scope i [] = None
found_scope i (d ∷ ds) = if d.0 == i then Some d.1 else found_scope i ds

abbrev pub scope_by_id : ℕ → List (ℕ × List (List ℕ)) → List (List ℕ)
scope_by_id i ds = unwrap_or (found_scope i ds) []

-- the names of the inline modules around the item of an id
abbrev pub scope_at : Unfolding → ℕ → List (List ℕ)
scope_at u i = scope_by_id i (map own_scope (declared_at u))

-- these names and then this one
abbrev pub path_within : Unfolding → ℕ → List ℕ → List ℕ
path_within u i name = flat_map bare_segment (scope_at u i) ++ bare_segment name

-- the path of an entry's item
abbrev pub entry_path : State → Entry → List ℕ
entry_path s e = path_within (unfolding_at s e.place e.krate.0) e.id e.name

-- whether a path is the one that is looked for, or ends as that may
abbrev pub is_at : Sought → List ℕ → Bool
is_at q path = is_sought_path q.path q.is_anywhere path

-- whether the entry has the last name, and its item has the path
abbrev pub is_sought : State → SoughtItem → Entry → Bool
is_sought s q e = entry_has_name q.name e && is_at q.path (entry_path s e)
