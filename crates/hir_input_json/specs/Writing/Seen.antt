-- What the crate's own types are seen as, for its own functions.
use Rattle.serde_json.specs.Data.{number, unsigned}
use Rattle.serde_json.specs.View.{view}
use Rattle.hir_input_json.specs.Writing.Items.{NodeData, NamedData}
use Rattle.hir_input_json.specs.declared.write.node.Named.{Named}
use Rattle.hir_input_json.specs.declared.write.node.Node.{Node}

abbrev pub node_seen : Node → NodeData
node_seen n = record { hash = number (unsigned n.hash); number = number (unsigned n.number); attrs = view n.attrs; body = view n.body }

abbrev pub named_seen : Named → NamedData
named_seen n = record { node = node_seen n.node; name = view n.name; vis = view n.vis }
