-- The lines of imports by the ids of items.
use Rattle.std.specs.Prelude.{ℕ, List, []}
use Rattle.item_tree.specs.Node.{Unfolding}
use Rattle.item_tree.specs.Walk.{of_id}
use Rattle.item_tree_request.specs.ImportLines.{node_lines}

-- the lines of the node that an id stands for
abbrev pub import_lines_at : List (List ℕ) → Unfolding → ℕ → List ℕ
import_lines_at reserved u i = of_id u [] (node_lines reserved) i
