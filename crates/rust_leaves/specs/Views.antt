-- What was read, as plain data.
use Rattle.std.specs.Prelude.{map, Option, string_bytes}
use Rattle.hir_input.specs.declared.ast.TupleField.{TupleField}
use Rattle.hir_input.specs.declared.ast.Visibility.{Visibility}
use Rattle.hir_input.specs.Attr.{meta_view}
use Rattle.hir_input.specs.Syntax.{call_view, item_view}
use Rattle.rust_paths.specs.Views.{starts_view}
use Rattle.rust_leaves.specs.declared.named.Named.{Named}
use Rattle.rust_leaves.specs.declared.named.Rest.{Rest}
use Rattle.rust_leaves.specs.declared.leaf.Leaf.{Leaf}
use Rattle.rust_leaves.specs.declared.calls.Callee.{Callee}
use Rattle.rust_leaves.specs.declared.front.Front.{Front}
use Rattle.rust_leaves.specs.declared.statement_calls.Call.{Call}
use Rattle.rust_leaves.specs.Fronts.{FrontRead}
use Rattle.rust_leaves.specs.Leaves.{NameRead, RestRead, LeafRead}
use Rattle.rust_leaves.specs.Kinds.{CalleeRead}
use Rattle.rust_leaves.specs.Statements.{CallRead}

-- the name of an item, as plain data
abbrev pub name_view : Named → NameRead
name_view n = record { name = n.name; hashed = n.hashed.now; range = n.range }

abbrev pub rest_view : Rest → RestRead
rest_view r = record { body = string_bytes r.body; is_ended = r.is_ended; block = r.block; braces = r.braces }

-- an item that was read, as plain data
abbrev pub leaf_view : Leaf → LeafRead
leaf_view l = record { item = item_view l.item; kind = l.kind; name = l.name.now; named = l.named; body = l.body; is_ended = l.is_ended; too_deep = l.too_deep; use_trees = starts_view l.use_trees }

-- what stands before an item's own words, as plain data
abbrev pub front_view : Front → FrontRead
front_view f = record { start = f.start; attrs = map meta_view f.attrs.items; visibility = f.visibility; head = f.head }

-- what a macro is called by, as plain data
abbrev pub callee_view : Callee → CalleeRead
callee_view c = record { path = c.path; name = c.name.now }

-- a macro call that was read, as plain data
abbrev pub call_read_view : Call → CallRead
call_read_view c = record { call = call_view c.node; name = c.name.now; is_braced = c.is_braced; body = c.body }

abbrev pub field_view : TupleField → Option Visibility
field_view f = f.visibility
