-- The sizes that a tree may have.
use Rattle.std.specs.Prelude.{ℕ, ◌<◌, ◌≤◌, ◌-◌, ◌^◌, max, length, Option, Some, None, if◌then◌else◌}
use Rattle.hir_input.specs.Syntax.{ItemView, listed_module, ItemViews, no_items, item_and, SyntaxView, items_of}
use Rattle.hir_input.specs.Syntax as syntax
use Rattle.hir_input.specs.UseTreeView.{UseTreeView, written_count}
use Rattle.item_tree_attrs.specs.declared.collect.AttrError.{AttrError}
use Rattle.item_tree_attrs.specs.declared.collect.AttrError.TheVariants as attrs
use Rattle.item_tree_attrs.specs.Collected.{attr_limit}
use Rattle.item_tree.specs.declared.fault.LowerError.{LowerError}
use Rattle.item_tree.specs.declared.fault.LowerError.TheVariants.{TooManyItems, TooManyVisibilities, TooManyUseTrees, TooManyAttributes, TooManySupers, OutOfMemory}
use Rattle.item_tree.specs.Imports.{most_supers, super_limit}
use Rattle.item_tree.specs.KeptUse.{kept_tree, use_tree_limit}
use Rattle.item_tree.specs.Node.{Leaf, use_item, Node, leaf, parent, Forest, empty, more, count, Unfolding}
use Rattle.item_tree.specs.Layout.{arena_of}
use Rattle.item_tree.specs.UseItem.{kept_supers}

-- the most items of a tree
abbrev pub item_limit : ℕ
item_limit = 2 ^ 31 - 1

-- the most distinct visibilities of modules
abbrev pub visibility_limit : ℕ
visibility_limit = 2 ^ 32 - 4

-- the most attributes that a node has, at every depth
abbrev mutual
  pub node_most_attrs : Node → ℕ
  node_most_attrs (leaf h l) = length h.attrs.attrs
  node_most_attrs (parent h t f) = max (length h.attrs.attrs) (most_attrs f)

  pub most_attrs : Forest → ℕ
  most_attrs empty = 0
  most_attrs (more n f) = max (node_most_attrs n) (most_attrs f)

-- the same of the nodes and the top
abbrev pub all_most_attrs : Unfolding → ℕ
all_most_attrs u = max (length u.top_attrs.attrs) (most_attrs u.forest)

-- the most times that `super` stands in the paths from the root of a use tree to one of its nodes, at every depth
abbrev pub leaf_supers : {V : Type 0} → Leaf V → ℕ
leaf_supers (use_item v t) = most_supers 0 t
leaf_supers l = 0

abbrev mutual
  pub node_supers : Node → ℕ
  node_supers (leaf h l) = leaf_supers l
  node_supers (parent h t f) = forest_supers f

  pub forest_supers : Forest → ℕ
  forest_supers empty = 0
  forest_supers (more n f) = max (node_supers n) (forest_supers f)

-- a number, where something is kept
abbrev pub if_some : {A : Type 0} → Option A → ℕ → ℕ
if_some None n = 0
if_some (Some a) n = n

-- how many nodes are written of a use tree of which something is kept
abbrev pub tree_written : Option UseTreeView → ℕ
tree_written None = 0
tree_written (Some w) = if_some (kept_tree w) (written_count w)

-- the most of them, of an item and of several, at every depth
abbrev mutual
  pub item_written : ItemView → ℕ
  item_written (listed_module n semicolon is) = if_some n.name (if semicolon then 0 else items_written is)
  item_written (syntax.use_item u) = tree_written u.use_tree
  item_written i = 0

  pub items_written : ItemViews → ℕ
  items_written no_items = 0
  items_written (item_and i is) = max (item_written i) (items_written is)

-- of a whole syntax
abbrev pub most_written : SyntaxView → ℕ
most_written s = items_written (items_of s)

-- an error of attributes as one of lowering
abbrev pub attr_fault : AttrError → LowerError
attr_fault attrs.TooMany = TooManyAttributes
attr_fault attrs.OutOfMemory = OutOfMemory

-- how much there is of each size
pub record Sizes : Type 0 where
  -- items, at every depth
  pub items : ℕ
  -- distinct visibilities of modules
  pub visibilities : ℕ
  -- use trees written in one of which something is kept
  pub use_trees : ℕ
  -- attributes of one owner
  pub attributes : ℕ
  -- times that `super` stands in the paths from the root of a use tree to one of its nodes
  pub supers : ℕ

-- the error names a size that is passed, or out of memory
abbrev pub IsPassed : Sizes → LowerError → Type 0
IsPassed s TooManyItems = item_limit < s.items
IsPassed s TooManyVisibilities = visibility_limit < s.visibilities
IsPassed s TooManyUseTrees = use_tree_limit < s.use_trees
IsPassed s TooManyAttributes = attr_limit < s.attributes
IsPassed s TooManySupers = super_limit < s.supers
IsPassed s OutOfMemory = Unit {0}

-- where there is so much of one size alone
abbrev pub no_sizes : Sizes
no_sizes = record { items = 0; visibilities = 0; use_trees = 0; attributes = 0; supers = 0 }

abbrev pub only_visibilities : ℕ → Sizes
only_visibilities n = record no_sizes { visibilities = n }

abbrev pub only_attributes : ℕ → Sizes
only_attributes n = record no_sizes { attributes = n }

-- the sizes of a syntax and of what is kept of it
abbrev pub sizes_of : SyntaxView → Unfolding → Sizes
sizes_of s u = record {
  items = count u.forest;
  visibilities = length (arena_of u.forest);
  use_trees = most_written s;
  attributes = all_most_attrs u;
  supers = forest_supers u.forest;
}

-- no size is passed
pub record Fits (u : Unfolding) : Type 0 where
  pub items : count u.forest ≤ item_limit
  pub visibilities : length (arena_of u.forest) ≤ visibility_limit
  pub attributes : all_most_attrs u ≤ attr_limit
  pub supers : forest_supers u.forest ≤ super_limit

-- the same of what is kept of a syntax, and of the syntax
pub record FitsWith (s : SyntaxView) (u : Unfolding) : Type 0 where
  pub tree : Fits u
  pub use_trees : most_written s ≤ use_tree_limit

-- the error names a size that a syntax passes, or what is kept of it, or out of memory
abbrev pub IsTooLarge : SyntaxView → Unfolding → LowerError → Type 0
IsTooLarge s u = IsPassed (sizes_of s u)

-- the same of a written use tree whose root is kept
abbrev pub IsUseFault : UseTreeView → LowerError → Type 0
IsUseFault w = IsPassed (record no_sizes { use_trees = tree_written (Some w); supers = kept_supers (kept_tree w) })
