-- Nodes of a syntax of which little is written.
use Rattle.std.specs.Prelude.{ℕ, List, [], Option, None}
use Rattle.hir_input.specs.Syntax.{NodeView, NamedView}

-- a node without attributes and body, whose id has the hash 0 and the number 0
abbrev pub empty_node : NodeView
empty_node = record { hash = 0; number = 0; attrs = []; body = [] }

-- such a node that has this name, or none, and no visibility
abbrev pub named_alone : Option (List ℕ) → NamedView
named_alone name = record { node = empty_node; name = name; visibility = None }
