-- What the items of a forest declare, and in which module.
use Rattle.std.specs.Prelude.{ℕ, List, [], ◌∷◌, ◌++◌, map, Option, Some, None, option_map, slice_get}
use Rattle.item_tree.specs.declared.use_tree.ImportAlias.{ImportAlias, TheVariants.Underscore, TheVariants.Alias}
use Rattle.item_tree.specs.{declared.visibility.RawVisibility.RawVisibility, Imports.Import, Imports.imports, Layout.leaf_vis, Layout.trunk_vis}
use Rattle.item_tree.specs.Node.{Leaf, plain, constant, struct_item, outline, use_item, extern_crate, macro_rules, Trunk, inline, extern_block, Node, leaf, parent, Forest, empty, more, Unfolding}
use Rattle.item_tree.specs.Reach.{top_ids, child_ids}

-- an extern crate is known by what it is renamed to; as `_` by no name
abbrev pub crate_name : List ℕ → Option ImportAlias → Option (List ℕ)
crate_name name None = Some name
crate_name name (Some Underscore) = None
crate_name name (Some (Alias alias)) = Some alias

-- the name of an item without children, if it has one
abbrev pub leaf_name : {V : Type 0} → Leaf V → Option (List ℕ)
leaf_name (plain k name v) = Some name
leaf_name (constant name v) = name
leaf_name (struct_item name v shape c) = Some name
leaf_name (outline name v) = Some name
leaf_name (extern_crate name v alias) = crate_name name alias
leaf_name (macro_rules name) = Some name
leaf_name _ = None

-- and of one with children
abbrev pub trunk_name : {V : Type 0} → Trunk V → Option (List ℕ)
trunk_name (inline name v) = Some name
trunk_name extern_block = None

-- the name of an item, if it has one
abbrev pub node_name : Node → Option (List ℕ)
node_name (leaf h l) = leaf_name l
node_name (parent h t f) = trunk_name t

-- what is declared: a name, or imports
pub data Declared : Type 0 where
  declared_name : List ℕ → Declared
  declared_imports : List Import → Declared

-- by an item: its name, if it has one, and by a use its imports
abbrev pub leaf_declares : {V : Type 0} → Leaf V → Option Declared
leaf_declares (use_item v t) = Some (declared_imports (imports t))
leaf_declares l = option_map declared_name (leaf_name l)

abbrev pub node_declares : Node → Option Declared
node_declares (leaf h l) = leaf_declares l
node_declares (parent h t f) = option_map declared_name (trunk_name t)

-- the visibility of an item, if it has one
abbrev pub node_visibility : Node → Option RawVisibility
node_visibility (leaf h l) = slice_get (leaf_vis l) 0
node_visibility (parent h t f) = slice_get (trunk_vis t) 0

-- an item that declares something, and the names of the inline modules around it
pub record Declaration : Type 0 where
  pub path : List (List ℕ)
  pub node : Node
  pub declared : Declared

abbrev pub declaration_of : List (List ℕ) → Node → Option Declared → List Declaration
declaration_of path n None = []
declaration_of path n (Some d) = record { path = path; node = n; declared = d } ∷ []

-- the names of the modules around what stands in an item
abbrev pub path_below : {V : Type 0} → List (List ℕ) → Trunk V → List (List ℕ)
path_below path (inline name v) = path ++ name ∷ []
path_below path extern_block = path

-- the declarations of a node and of those below it, and of a forest, in the order in which they are written
abbrev mutual
  pub node_declarations : List (List ℕ) → Node → List Declaration
  node_declarations path (leaf h l) = declaration_of path (leaf h l) (leaf_declares l)
  node_declarations path (parent h t f) = declaration_of path (parent h t f) (node_declares (parent h t f)) ++ declarations_in (path_below path t) f

  pub declarations_in : List (List ℕ) → Forest → List Declaration
  declarations_in path empty = []
  declarations_in path (more n f) = node_declarations path n ++ declarations_in path f

-- those of a whole tree
abbrev pub declarations : Forest → List Declaration
declarations f = declarations_in [] f

-- ---- each with the id of its item

abbrev pub with_id : ℕ → List Declaration → List (ℕ × Declaration)
with_id i ds = map (λ d. (i, d)) ds

-- the declarations of a node that an id stands for, and of a forest whose nodes at the top the ids stand for
abbrev mutual
  pub node_declared : Unfolding → List (List ℕ) → ℕ → Node → List (ℕ × Declaration)
  node_declared u path i (leaf h l) = with_id i (declaration_of path (leaf h l) (leaf_declares l))
  node_declared u path i (parent h t f) = with_id i (declaration_of path (parent h t f) (node_declares (parent h t f))) ++ declared_in u (path_below path t) (child_ids u i) f

  pub declared_in : Unfolding → List (List ℕ) → List ℕ → Forest → List (ℕ × Declaration)
  declared_in u path (i ∷ is) (more n f) = node_declared u path i n ++ declared_in u path is f
  declared_in u path is f = []

-- those of a whole tree
abbrev pub declared_at : Unfolding → List (ℕ × Declaration)
declared_at u = declared_in u [] (top_ids u) u.forest
