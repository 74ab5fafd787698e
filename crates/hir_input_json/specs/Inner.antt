-- Words that private contracts alone cite: what the crate's own types are seen as.
use Rattle.std.specs.Prelude.{map, string_bytes}
use Rattle.hir_input.specs.Attr.{meta_view}
use Rattle.hir_input.specs.Syntax.{NodeView, NamedView}
use Rattle.hir_input_json.specs.declared.item.node.Named.{Named}
use Rattle.hir_input_json.specs.declared.item.node.Node.{Node}

abbrev pub node_view : Node → NodeView
node_view n = record { hash = n.hash; number = n.number; attrs = map meta_view n.attrs.items; body = string_bytes n.body }

abbrev pub named_parts_view : Named → NamedView
named_parts_view n = record { node = node_view n.node; name = n.name; visibility = n.visibility }
