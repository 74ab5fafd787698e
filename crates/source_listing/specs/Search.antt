-- Where a path of names is declared.
use Rattle.std.specs.Prelude.{ℕ, Bool, not, ◌==◌, ◌&&◌, ◌||◌, if◌then◌else◌, List, [], ◌∷◌, ◌++◌, codes, bytes_eq, chars, length, Option, Some, None, option_map, unwrap_or}
use Rattle.std.specs.List.{flat_map, list_any}
use Rattle.std.specs.Option.{option_or}
use Rattle.globs.specs.Globs.{matches}
use Rattle.hir_input.specs.declared.ids.FileAstId.{FileAstId}
use Rattle.line_index.specs.declared.Position.{Position}
use Rattle.line_index.specs.Positions.{position_of}
use Rattle.serde_json.specs.Data.{Data, string, object, no_members, member}
use Rattle.tree_walk.specs.Rows.{RowView}
use Rattle.source_rows.specs.Listed.{Listed, MemberReading, members_of, type_name_of}
use Rattle.rust_paths.specs.declared.names.TextRange.{TextRange}
use Rattle.rust_items.specs.declared.source_file.ItemPlace.{ItemPlace}
use Rattle.source_rows.specs.Labels.{member_word}
use Rattle.list_forms.specs.Colors.{bold_code, colored_text, cyan_code, faint_code}
use Rattle.list_forms.specs.declared.lines.Form.{Form}
use Rattle.list_forms.specs.declared.lines.Form.TheVariants.{Line, Json}
use Rattle.source_listing.specs.Lines.{Source, at_text, listed_name, item_word}
use Rattle.list_forms.specs.Lines.{column_number, value_line, line_number}
use Rattle.source_listing.specs.Paths.{bare_segment, is_sought_path}
use Rattle.source_listing.specs.Patterns.{as_compared}
use Rattle.source_listing.specs.Sought.{text_behind}
use Rattle.source_rows.specs.Places.{place_of, stands_at}

-- what is looked for: names with two colons before each, and a glob of the last name; which of what has such names; and how it is told
pub record Query : Type 0 where
  pub scope : List ℕ
  pub name : List ℕ
  pub is_anywhere : Bool
  pub ignores_case : Bool
  pub kinds : List (List ℕ)
  pub only_active : Bool
  pub form : Form

-- an item or a member with a name: the id of an item, where it stands and its bytes, if they are known, the word of its kind, the names around it, with two colons before each, and its name
pub record Candidate : Type 0 where
  pub id : Option FileAstId
  pub at : Option ℕ
  pub range : Option TextRange
  pub word : List ℕ
  pub scope : List ℕ
  pub name : List ℕ
  pub is_active : Bool

-- ---- what is found

-- no words of kinds stand for all
abbrev pub has_kind : Query → List ℕ → Bool
has_kind q word = length q.kinds == 0 || list_any (λ other. bytes_eq word other) q.kinds

abbrev pub is_sought_name : Query → List ℕ → Bool
is_sought_name q name = matches (chars q.name) (chars (as_compared q.ignores_case name))

abbrev pub is_sought_scope : Query → List ℕ → Bool
is_sought_scope q scope = is_sought_path q.scope q.is_anywhere (as_compared q.ignores_case scope)

abbrev pub is_shown : Query → Bool → Bool
is_shown q is_active = not q.only_active || is_active

-- whether an item or a member is looked for
abbrev pub is_found : Query → Candidate → Bool
is_found q c = is_shown q c.is_active && (has_kind q c.word && (is_sought_name q c.name && is_sought_scope q c.scope))

-- ---- how it is told

-- a place, the word of a kind and a name
abbrev pub found_line : Source → List (List ℕ) → Bool → Candidate → List ℕ
found_line s reserved is_colored c =
    colored_text is_colored faint_code (at_text s c.at) ++ colored_text is_colored cyan_code c.word
    ++ colored_text is_colored bold_code (listed_name reserved (Some c.name)) ++ codes "\n"

-- names with two colons between each two
abbrev pub joined_scope : List ℕ → List ℕ
joined_scope scope = unwrap_or (text_behind (codes "::") scope) scope

-- the object of what stands there in the file of a path
abbrev pub found_object : List ℕ → Option Position → Candidate → Data
found_object path p c =
    object
    (member (codes "column") (column_number p)
    (member (codes "kind") (string c.word)
    (member (codes "line") (line_number p)
    (member (codes "name") (string c.name)
    (member (codes "path") (string path)
    (member (codes "scope") (string (joined_scope c.scope)) no_members))))))

abbrev pub position_at : Source → Option ℕ → Option Position
position_at s at = option_map (position_of s.text) at

abbrev pub found_text : Source → List (List ℕ) → Form → Candidate → List ℕ
found_text s reserved (Line is_colored) c = found_line s reserved is_colored c
found_text s reserved Json c = value_line (found_object s.path (position_at s c.at) c)

-- ---- items and members

abbrev pub own_segment : Option (List ℕ) → List ℕ
own_segment None = []
own_segment (Some name) = bare_segment name

-- the modules that an item stands in, and what its members stand in, or nothing
abbrev pub scope_inside : RowView → Option (List ℕ) → List ℕ
scope_inside r around = flat_map bare_segment r.scope ++ own_segment around

-- what the members of an item stand in: its name, or that of an impl's type
abbrev pub holder : MemberReading → RowView → Option ItemPlace → Option (List ℕ)
holder x r place = option_or r.name (type_name_of x r.id.kind place)

abbrev pub item_candidate : RowView → Option ItemPlace → List ℕ → Candidate
item_candidate r place name =
    record { id = Some r.id; at = option_map stands_at place; range = option_map (λ p. p.range) place; word = item_word r.id.kind; scope = scope_inside r None; name = name; is_active = r.is_active }

abbrev pub member_candidate : List ℕ → Listed → Candidate
member_candidate scope m = record { id = None; at = Some m.at; range = Some m.range; word = member_word m.kind; scope = scope; name = m.name; is_active = m.is_active }

-- a candidate alone in a list, if it is looked for
abbrev pub if_found : Query → Candidate → List Candidate
if_found q c = if is_found q c then c ∷ [] else []

-- an item; what has no name is never found
abbrev pub own_found : Query → RowView → Option ItemPlace → Option (List ℕ) → List Candidate
own_found q r place None = []
own_found q r place (Some name) = if_found q (item_candidate r place name)

-- a member in a scope
abbrev pub member_found : Query → List ℕ → Listed → List Candidate
member_found q scope m = if_found q (member_candidate scope m)

-- an item and its members, where they are looked for
abbrev pub found_at : MemberReading → Query → RowView → Option ItemPlace → List Candidate
found_at x q r place = own_found q r place r.name ++ flat_map (member_found q (scope_inside r (holder x r place))) (members_of x place r.is_active)

-- the same by the item's id
abbrev pub row_found : MemberReading → List ItemPlace → Query → RowView → List Candidate
row_found x places q r = found_at x q r (place_of r.id places)

-- of all rows
abbrev pub found_in_rows : MemberReading → List ItemPlace → Query → List RowView → List Candidate
found_in_rows x places q rs = flat_map (row_found x places q) rs

-- their lines
abbrev pub found_lines : Source → MemberReading → List (List ℕ) → List ItemPlace → Query → List RowView → List ℕ
found_lines s x reserved places q rs = flat_map (found_text s reserved q.form) (found_in_rows x places q rs)
