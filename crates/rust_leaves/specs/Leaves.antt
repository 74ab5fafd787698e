-- What items are made of, but for those that hold items.
use Rattle.std.specs.Prelude.{ℕ, nat_lt, Bool, false, not, ◌==◌, ◌&&◌, ◌||◌, if◌then◌else◌, Option, Some, None, is_some, List, [], codes, bytes_eq}
use Rattle.hir_input.specs.declared.ids.AstIdKind.{AstIdKind}
use Rattle.hir_input.specs.declared.ast.Rename.{Rename}
use Rattle.hir_input.specs.declared.ast.Visibility.{Visibility}
use Rattle.hir_input.specs.Attr.{MetaView}
use Rattle.hir_input.specs.Syntax.{FieldsView, ItemView, record_fields, tuple_fields, no_fields}
use Rattle.rust_cursor.specs.Tokens.{Tokens}
use Rattle.rust_cursor.specs.Reader.{Reader, ◌>>=◌, pure, look, pass, only_if}
use Rattle.rust_cursor.specs.Words.{symbol, word, text, at, eat, eat_word, bumped, is_at_open, is_at_end}
use Rattle.rust_cursor.specs.Elements.{turns, one}
use Rattle.rust_cursor.specs.Extents.{ExcerptRead, tree_body}
use Rattle.rust_cursor.specs.Angles.{behind_angles, behind_field, is_trait_impl}
use Rattle.rust_paths.specs.declared.names.TextRange.{TextRange}
use Rattle.rust_paths.specs.Names.{Placed, placed_name, as_name}
use Rattle.rust_paths.specs.Visibilities.{visibility}
use Rattle.rust_cursor.specs.Grammar.{reads}
use Rattle.rust_metas.specs.Attributes.{outer_attributes, inner_attributes}
use Rattle.rust_leaves.specs.Texts.{bare_name}

-- a name if one is written, the name that is hashed, and the name's place
pub record NameRead : Type 0 where
  pub name : Option (List ℕ)
  pub hashed : List ℕ
  pub range : Option TextRange

-- what stands behind an item's header, whether the item ends as it should, and the braces that it ends with: from their `{` on, and where they stand
pub record RestRead : Type 0 where
  pub body : List ℕ
  pub is_ended : Bool
  pub block : Option Tokens
  pub braces : Option TextRange

-- an item that holds no items: with what its id is made from, the places of its name and of the braces that it ends with, whether it is
-- ended, a use list that is too deep, and where the use trees of a use begin
pub record LeafRead : Type 0 where
  pub item : ItemView
  pub kind : AstIdKind
  pub name : List ℕ
  pub named : Option TextRange
  pub body : Option TextRange
  pub is_ended : Bool
  pub too_deep : Option ℕ
  pub use_trees : List ℕ

-- ---- names

abbrev pub no_name : NameRead
no_name = record { name = None; hashed = []; range = None }

abbrev pub name_read : Option Placed → List ℕ → NameRead
name_read None text = no_name
name_read (Some p) text = record { name = Some p.name; hashed = bare_name text; range = Some (record { start = p.start; end = p.end }) }

-- the name of an item, if it is written
unfoldable pub written_name : Reader NameRead
written_name ts = (name_read (placed_name ts).0 (text ts), (placed_name ts).1)

-- where the next token stands
abbrev pub next_range : Tokens → TextRange
next_range ts = record { start = at ts; end = (bumped ts).past }

-- the same where one keyword is a name too: `self` of a crate, `try` of a macro
unfoldable pub named_or : List ℕ → Reader NameRead
named_or keyword ts =
    if bytes_eq (word ts) keyword
    then (record { name = as_name (Some (word ts)); hashed = word ts; range = Some (next_range ts) }, bumped ts)
    else written_name ts

-- behind `as`: a name, or `_`, which is none
unfoldable pub crate_alias : Reader NameRead
crate_alias ts = if bytes_eq (word ts) (codes "_") then (record { name = None; hashed = []; range = Some (next_range ts) }, bumped ts) else written_name ts

abbrev pub crate_alias_if : Bool → Reader (Option NameRead)
crate_alias_if = only_if crate_alias

-- `as` and what is behind it
unfoldable pub written_rename : Reader (Option NameRead)
written_rename = do
  found ← eat_word (codes "as")
  crate_alias_if found

abbrev pub rename_of : Option NameRead → Option Rename
rename_of None = None
rename_of (Some alias) = Some (record { name = alias.name })

-- ---- ends

-- from the `{` of braces up to this place
abbrev pub range_to : ℕ → Option Tokens → Option TextRange
range_to end None = None
range_to end (Some block) = Some (record { start = at block; end = end })

-- the rest of an item that ends at this place
abbrev pub rest_read : ExcerptRead → ℕ → RestRead
rest_read read end = record { body = read.text; is_ended = read.is_ended; block = read.block; braces = range_to end read.block }

-- no rest but a semicolon, if there is one
abbrev pub bare_end : Bool → RestRead
bare_end is_ended = record { body = []; is_ended = is_ended; block = None; braces = None }

abbrev pub past : Tokens → ℕ
past ts = ts.past

-- the rest of an item, by what is taken of it
unfoldable pub rest_by : Reader ExcerptRead → Reader RestRead
rest_by taken = do
  read ← taken
  end ← look past
  pure (rest_read read end)

abbrev pub semicolon_end : ExcerptRead → Reader RestRead
semicolon_end read = do
  semicolon ← eat 59
  pure (record { body = read.text; is_ended = read.is_ended && semicolon; block = None; braces = None })

-- what a macro is given in its brackets; a semicolon ends those that are no braces
unfoldable pub call_end : Reader RestRead
call_end ts =
    if is_at_open ts
    then (if symbol ts == 123 then (rest_read (tree_body ts).0 (tree_body ts).1.past, (tree_body ts).1)
    else semicolon_end (tree_body ts).0 (tree_body ts).1)
    else (bare_end false, ts)

-- ---- parts

-- the inner attributes at the beginning of the braces that an item ends with
unfoldable pub block_attributes : Option Tokens → List MetaView
block_attributes None = []
block_attributes (Some block) = (inner_attributes (bumped block)).0

-- what is left begins before this place
abbrev pub is_before : ℕ → Tokens → Bool
is_before end ts = nat_lt ts.past end

-- a visibility that ends before this place
abbrev pub visibility_before : ℕ → Reader (Option Visibility)
visibility_before end = do
  v ← reads visibility
  is_in ← look (is_before end)
  pure (if is_in then v else None)

-- TupleField, of a header that ends at this place: its visibility; attributes and the type are passed over
unfoldable pub header_field : ℕ → Reader (Option Visibility)
header_field end = do
  _ ← outer_attributes
  v ← visibility_before end
  _ ← pass behind_field
  _ ← eat 44
  pure v

-- no field begins here
abbrev pub are_over : ℕ → Tokens → Bool
are_over end ts = is_at_end ts || not (is_before end ts)

unfoldable pub fields : ℕ → Reader (List (Option Visibility))
fields end = turns (are_over end) (one (header_field end))

-- the symbol that comes next before this place, or 0
abbrev pub symbol_within : ℕ → Tokens → ℕ
symbol_within end ts = if is_before end ts then symbol ts else 0

-- behind a `where`, the fields are in the braces that the struct ends with
abbrev pub fields_at : Bool → ℕ → Tokens → FieldsView
fields_at has_block end ts =
    if symbol_within end ts == 40 then tuple_fields (fields end (bumped ts)).0
    else (if symbol_within end ts == 123 || has_block then record_fields else no_fields)

-- the header of an item that ends at this place ends there too, or before the braces that the item ends with
abbrev pub header_end : ℕ → Option Tokens → ℕ
header_end end None = end
header_end end (Some block) = block.past

-- StructStruct or TupleStruct: what stands in a struct's header behind its name and generics
unfoldable pub struct_fields : ℕ → Option Tokens → Tokens → FieldsView
struct_fields end block ts = fields_at (is_some block) (header_end end block) (behind_angles ts)

-- behind `impl`, of an impl that ends at this place: the items are those of a trait
unfoldable pub has_trait : ℕ → Tokens → Bool
has_trait end ts = is_trait_impl end (behind_angles ts)
