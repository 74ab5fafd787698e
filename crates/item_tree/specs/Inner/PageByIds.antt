-- The lines of a page by ids, of which the steps of `pretty_print` speak.
use Rattle.std.specs.Prelude.{◌≡◌, ℕ, ◌*◌, replicate, List, [], ◌∷◌, ◌++◌, map, string_bytes, String, Bool, true, false, Option, Some, None}
use Rattle.std.specs.declared.alloc.Global.{Global}
use Rattle.hir_input.specs.declared.ids.FileAstId.{FileAstId}
use Rattle.item_tree_attrs.specs.Collected.{Collected}
use Rattle.item_tree.specs.Line.{Line, text, blank, lines_text}
use Rattle.item_tree.specs.Node.{Node, node_head, Unfolding}
use Rattle.item_tree.specs.Page.{item_opening, id_text, attrs_lines, own_lines, with_blanks}
use Rattle.item_tree.specs.Walk.{of_id}

-- the text has gained these lines at its end
abbrev pub Gains : String Global → String Global → List Line → Type 0
Gains old new lines = string_bytes new ≡ string_bytes old ++ lines_text lines

-- the text has gained the line of an id, and the indent of the line behind it
abbrev pub Starts : String Global → String Global → ℕ → FileAstId → Type 0
Starts old new level ast_id = string_bytes new ≡ string_bytes old ++ (lines_text (text level (id_text ast_id) ∷ []) ++ replicate (4 * level) 32)

-- the line of an id and that of a header
abbrev pub item_lines : ℕ → FileAstId → List ℕ → List Line
item_lines level ast_id header = text level (id_text ast_id) ∷ text level header ∷ []

-- the lines of attributes that are lent, if there are any
abbrev pub lent_lines : List (List ℕ) → List ℕ → ℕ → Option Collected → List Line
lent_lines reserved opening level None = []
lent_lines reserved opening level (Some c) = attrs_lines reserved opening level c

-- between top attributes and items, and on the page that has neither, stands a blank
abbrev pub blank_between : Bool → Bool → List Line
blank_between true true = blank ∷ []
blank_between true false = []
blank_between false true = []
blank_between false false = blank ∷ []

-- all lines of a node
abbrev pub node_lines : List (List ℕ) → ℕ → Node → List Line
node_lines reserved level n = attrs_lines reserved item_opening level (node_head n).attrs ++ own_lines reserved n level

module _ (reserved : List (List ℕ)) (u : Unfolding) (level : ℕ) where
  -- the lines of the node that an id stands for, without its attributes
  abbrev pub own_lines_at : ℕ → List Line
  own_lines_at i = of_id u [] (λ n. own_lines reserved n level) i

  -- all its lines
  abbrev pub lines_at : ℕ → List Line
  lines_at i = of_id u [] (node_lines reserved level) i

  -- the lines of the nodes that ids stand for, with one blank between each two
  abbrev pub list_lines : List ℕ → List Line
  list_lines is = with_blanks (map lines_at is)
