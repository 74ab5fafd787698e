-- What was read, as plain data.
use Rattle.std.specs.Prelude.{List, map, option_map}
use Rattle.hir_input.specs.declared.ids.FileAstId.{FileAstId}
use Rattle.hir_input.specs.Attr.{meta_view}
use Rattle.hir_input.specs.Syntax.{item_view, items_view, extern_item_view, source_file, stmt_view, tail_view}
use Rattle.rust_items.specs.declared.blocks.Body.{Body}
use Rattle.rust_items.specs.declared.blocks.Part.{Part}
use Rattle.rust_items.specs.declared.blocks.Part.TheVariants as parts
use Rattle.rust_items.specs.declared.externs.ExternInside.{ExternInside}
use Rattle.rust_items.specs.declared.ids.Supply.{Supply}
use Rattle.rust_items.specs.declared.items.Inside.{Inside}
use Rattle.rust_items.specs.declared.source_file.Reading.{Reading}
use Rattle.rust_items.specs.Blocks.{BodyRead, PartView, no_part, stmt_part, tail_part}
use Rattle.rust_items.specs.Items.{BlockRead}
use Rattle.rust_items.specs.SourceFiles.{FileView}

abbrev pub extern_inside_view : ExternInside → BlockRead
extern_inside_view b = record { attrs = map meta_view b.attrs.items; items = option_map (λ v. map extern_item_view v.items) b.items; is_ended = b.is_ended }

abbrev pub inside_view : Inside → BlockRead
inside_view b = record { attrs = map meta_view b.attrs.items; items = option_map (λ v. map item_view v.items) b.items; is_ended = b.is_ended }

abbrev pub block_part_view : Part → PartView
block_part_view parts.Nothing = no_part
block_part_view (parts.Stmt s) = stmt_part (stmt_view s)
block_part_view (parts.Tail t) = tail_part (tail_view t)

abbrev pub body_view : Body → BodyRead
body_view b = record { stmts = map stmt_view b.stmts.items; tail = tail_view b.tail }

abbrev pub supply_view : Supply → List FileAstId
supply_view s = s.rest.now

abbrev pub reading_file : Reading → FileView
reading_file r = record { syntax = source_file (map meta_view r.attrs.items) (items_view r.items.items); places = r.places.items; use_trees = r.use_trees.items; problems = r.problems.items }
