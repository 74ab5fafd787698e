-- For the crate's own functions: outlines step by step.
use Rattle.std.specs.Prelude.{ℕ, ◌*◌, List, [], ◌++◌, replicate}
use Rattle.item_tree.specs.{Node.Unfolding, Node.node_ast, Walk.of_id}
use Rattle.tree_walk.specs.{Declarations.node_name, Lines.line, Rows.Around}

-- the indent of an item that stands in so many
abbrev pub level_indent : ℕ → List ℕ
level_indent level = replicate (4 * level) 32

-- the line of the item of an id, which stands in these
abbrev pub step_line : Unfolding → ℕ × Around → List ℕ
step_line u s = level_indent s.1.level ++ of_id u [] (λ n. line (node_ast n) (node_name n)) s.0
