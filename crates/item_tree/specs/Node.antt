-- Nodes, forests and unfoldings: what an item tree stands for.
use Rattle.std.specs.Prelude.{ℕ, suc, ◌+◌, Bool, List, [], ◌∷◌, Option, Some, None}
use Rattle.hir_input.specs.declared.ids.AstIdKind.{AstIdKind}
use Rattle.hir_input.specs.declared.ids.AstIdKind.TheVariants as kind
use Rattle.hir_input.specs.declared.ids.FileAstId.{FileAstId}
use Rattle.hir_input.specs.declared.ids.SyntaxContext.{SyntaxContext}
use Rattle.hir_input.specs.declared.expand_to.ExpandTo.{ExpandTo}
use Rattle.hir_input.specs.Path.{Path}
use Rattle.hir_input.specs.Syntax.{ast_kind}
use Rattle.hir_input.specs.declared.ast.PlainKind.{PlainKind}
use Rattle.item_tree_attrs.specs.Collected.{Collected, nothing_collected as no_attrs}
use Rattle.item_tree.specs.declared.visibility.RawVisibility.{RawVisibility}
use Rattle.item_tree.specs.declared.items.FieldsShape.{FieldsShape}
use Rattle.item_tree.specs.declared.use_tree.ImportAlias.{ImportAlias}
use Rattle.item_tree.specs.Tree.{Tree}

-- the constructor of a struct, over what stands for a visibility: none, or who sees it is decided by one, or by several
pub data Ctor (V : Type 0) : Type 0 where
  no_ctor : Ctor V
  ctor_with : V → Ctor V
  ctor_with_min : List V → Ctor V

-- an item that has no children, over what stands for a visibility
pub data Leaf (V : Type 0) : Type 0 where
  plain : PlainKind → List ℕ → V → Leaf V
  constant : Option (List ℕ) → V → Leaf V
  struct_item : List ℕ → V → FieldsShape → Ctor V → Leaf V
  outline : List ℕ → V → Leaf V
  use_item : V → Tree → Leaf V
  extern_crate : List ℕ → V → Option ImportAlias → Leaf V
  impl_item : Bool → Leaf V
  macro_call : Path → ExpandTo → SyntaxContext → Leaf V
  macro_rules : List ℕ → Leaf V

-- an item that has children, without them
pub data Trunk (V : Type 0) : Type 0 where
  inline : List ℕ → V → Trunk V
  extern_block : Trunk V

-- what every node has
pub record Head : Type 0 where
  pub hash : ℕ
  pub number : ℕ
  pub attrs : Collected

mutual
  -- an item without items, or one that has a forest of them
  pub data Node : Type 0 where
    leaf : Head → Leaf RawVisibility → Node
    parent : Head → Trunk RawVisibility → Forest → Node

  pub data Forest : Type 0 where
    empty : Forest
    more : Node → Forest → Forest

-- what a tree unfolds to
pub record Unfolding : Type 0 where
  pub top_attrs : Collected
  pub forest : Forest

-- the unfolding of the empty tree
abbrev pub nothing : Unfolding
nothing = record { top_attrs = no_attrs; forest = empty }

-- the nodes of a forest, without those below them
abbrev pub nodes : Forest → List Node
nodes empty = []
nodes (more n f) = n ∷ nodes f

-- a forest with one more node in front, if there is one
abbrev pub add : Option Node → Forest → Forest
add None f = f
add (Some n) f = more n f

abbrev pub node_head : Node → Head
node_head (leaf h l) = h
node_head (parent h t f) = h

abbrev pub leaf_kind : {V : Type 0} → Leaf V → AstIdKind
leaf_kind (plain k name v) = ast_kind k
leaf_kind (constant name v) = kind.Const
leaf_kind (struct_item name v shape c) = kind.Struct
leaf_kind (outline name v) = kind.Module
leaf_kind (use_item v t) = kind.Use
leaf_kind (extern_crate name v alias) = kind.ExternCrate
leaf_kind (impl_item of_trait) = kind.Impl
leaf_kind (macro_call path expand_to ctxt) = kind.MacroCall
leaf_kind (macro_rules name) = kind.MacroRules

abbrev pub trunk_kind : {V : Type 0} → Trunk V → AstIdKind
trunk_kind (inline name v) = kind.Module
trunk_kind extern_block = kind.ExternBlock

abbrev pub node_kind : Node → AstIdKind
node_kind (leaf h l) = leaf_kind l
node_kind (parent h t f) = trunk_kind t

-- the id of a node of this kind
abbrev pub file_id : AstIdKind → Head → FileAstId
file_id k h = record { kind = k; hash = h.hash; number = h.number }

-- the id of a node's item in its file
abbrev pub node_ast : Node → FileAstId
node_ast n = file_id (node_kind n) (node_head n)

-- the number of nodes, at every depth
abbrev mutual
  pub node_count : Node → ℕ
  node_count (leaf h l) = 1
  node_count (parent h t f) = suc (count f)

  -- how many nodes a forest has, at every depth
  pub count : Forest → ℕ
  count empty = 0
  count (more n f) = node_count n + count f
