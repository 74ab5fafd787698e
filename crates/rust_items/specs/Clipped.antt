-- What is read of items, with what is wanted of them.
use Rattle.std.specs.Prelude.{Option, List, map, option_map}
use Rattle.hir_input.specs.Attr.{MetaView}
use Rattle.hir_input.specs.Syntax.{ItemView}
use Rattle.rust_metas.specs.Docs.{kept_metas}
use Rattle.rust_leaves.specs.declared.wanted.Wanted.{Wanted}
use Rattle.rust_leaves.specs.Clipped.{with_value, clipped_item, wanted_item, without_attributes}
use Rattle.rust_leaves.specs.Fronts.{FrontRead}
use Rattle.rust_items.specs.Found.{Finder}
use Rattle.rust_items.specs.Items.{BlockRead}

-- an item if there is one, with what is wanted of it
unfoldable pub clipped_item_if : Wanted → Option ItemView → Option ItemView
clipped_item_if w i = option_map (clipped_item w) i

unfoldable pub clipped_items : Wanted → List ItemView → List ItemView
clipped_items w is = map (clipped_item w) is

-- what stands in an item's braces, with what is wanted of it
unfoldable pub clipped_block : Wanted → BlockRead → BlockRead
clipped_block w b = record { attrs = kept_metas w.metas b.attrs; items = option_map (clipped_items w) b.items; is_ended = b.is_ended }

-- the same of what gives an item or none
abbrev pub clipped_turn : Wanted → Finder (Option ItemView) → Finder (Option ItemView)
clipped_turn w turn f ts = with_value (clipped_item_if w) (turn f ts)

-- an item if there is one, with what is wanted of it, behind these attributes
unfoldable pub wanted_item_if : Wanted → List MetaView → Option ItemView → Option ItemView
wanted_item_if w attrs i = option_map (wanted_item w attrs) i

-- what gives an item or none behind what stands before it: with what is wanted of it, behind the attributes that stand there
unfoldable pub wanted_behind : Wanted → (FrontRead → Finder (Option ItemView)) → FrontRead → Finder (Option ItemView)
wanted_behind w reads h f ts = with_value (wanted_item_if w h.attrs) (reads (without_attributes h) f ts)
