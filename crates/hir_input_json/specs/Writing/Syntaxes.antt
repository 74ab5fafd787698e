-- The data of a syntax.
use Rattle.std.specs.Prelude.{List, Bool, codes, Option, Some, None, option_map}
use Rattle.serde_json.specs.Data.{Data, null, string, array, object, Items, no_members, member}
use Rattle.hir_input.specs.Attr.{MetaView}
use Rattle.hir_input.specs.Syntax.{ItemViews, StmtView, item_stmt, call_stmt, other_stmt, TailView, no_tail, call_tail, other_tail, SyntaxView, source_file, macro_items, macro_stmts, block_expr, error}
use Rattle.hir_input_json.specs.Writing.Items.{attrs_data, call_data, item_data, items_data}
use Rattle.hir_input_json.specs.Writing.Parts.{each_data, ◌>>=◌}

abbrev pub item_object : Data → Data
item_object d = object (member (codes "item") d no_members)

abbrev pub call_syntax_object : Data → Data
call_syntax_object d = object (member (codes "call") d no_members)

-- a statement
abbrev pub stmt_data : Bool → StmtView → Option Data
stmt_data bodies (item_stmt i) = option_map item_object (item_data bodies i)
stmt_data bodies (call_stmt c) = option_map call_syntax_object (call_data bodies c)
stmt_data bodies other_stmt = Some (string (codes "other"))

-- a tail, null where there is nothing
abbrev pub tail_data : Bool → TailView → Option Data
tail_data bodies no_tail = Some null
tail_data bodies (call_tail c) = option_map call_syntax_object (call_data bodies c)
tail_data bodies other_tail = Some (string (codes "other"))

abbrev pub source_object : Data → Items → Data
source_object attrs items = object (member (codes "attrs") attrs (member (codes "items") (array items) (member (codes "root") (string (codes "source_file")) no_members)))

abbrev pub macro_items_object : Items → Data
macro_items_object items = object (member (codes "items") (array items) (member (codes "root") (string (codes "macro_items")) no_members))

abbrev pub macro_stmts_object : Items → Data → Data
macro_stmts_object stmts tail = object (member (codes "root") (string (codes "macro_stmts")) (member (codes "stmts") (array stmts) (member (codes "tail") tail no_members)))

abbrev pub error_object : Data
error_object = object (member (codes "root") (string (codes "error")) no_members)

abbrev pub source_data : Bool → List MetaView → ItemViews → Option Data
source_data bodies attrs is = do
  ms ← attrs_data attrs
  ds ← items_data bodies is
  Some (source_object ms ds)

abbrev pub macro_items_data : Bool → ItemViews → Option Data
macro_items_data bodies is = option_map macro_items_object (items_data bodies is)

abbrev pub macro_stmts_data : Bool → List StmtView → TailView → Option Data
macro_stmts_data bodies stmts tail = do
  ds ← each_data (stmt_data bodies) stmts
  end ← tail_data bodies tail
  Some (macro_stmts_object ds end)

-- A syntax, with its bodies or without. A block is no syntax of a file, and has none.
abbrev pub syntax_data : Bool → SyntaxView → Option Data
syntax_data bodies (source_file attrs is) = source_data bodies attrs is
syntax_data bodies (macro_items is) = macro_items_data bodies is
syntax_data bodies (macro_stmts stmts tail) = macro_stmts_data bodies stmts tail
syntax_data bodies (block_expr attrs stmts tail) = None
syntax_data bodies error = Some error_object
