-- What is wrong with items, beside what the reader of items tells. Each problem stands at the first byte of its item.
use Rattle.std.specs.Prelude.{ℕ, List, [], ◌∷◌, ◌++◌, Option, Some, None}
use Rattle.hir_input.specs.declared.ast.PathNode.TheVariants.{Unreadable}
use Rattle.hir_input.specs.declared.ast.Visibility.{Visibility}
use Rattle.hir_input.specs.declared.ast.Visibility.TheVariants.{InPath}
use Rattle.hir_input.specs.Syntax.{NodeView, NamedView, UseView, CallView, FieldsView, ItemView, ItemViews, SyntaxView, record_fields, tuple_fields, no_fields, plain_item, const_item, struct_item, bare_module, listed_module, use_item, extern_crate, bare_extern_block, listed_extern_block, impl_item, macro_call, macro_rules, asm_item, no_items, item_and, source_file}
use Rattle.hir_input.specs.UseTreeView.{UseTreeView, UseTreeViews, bare_tree, listed_tree, no_trees, tree_and}
use Rattle.rust_items.specs.declared.source_file.ItemPlace.{ItemPlace}
use Rattle.source_problems.specs.declared.problem.SourceProblem.{SourceProblem}
use Rattle.source_problems.specs.declared.problem.SourceProblemKind.TheVariants as kind
use Rattle.source_problems.specs.Problems.{problem, path_problems}
use Rattle.source_problems.specs.Metas.{attribute_problems}

module _ (at : ℕ) where
  -- the paths of a use tree
  abbrev mutual
    pub tree_problems : UseTreeView → List SourceProblem
    tree_problems (bare_tree node) = path_problems kind.UsePath at node.path
    tree_problems (listed_tree node ts) = path_problems kind.UsePath at node.path ++ trees_problems ts

    pub trees_problems : UseTreeViews → List SourceProblem
    trees_problems no_trees = []
    trees_problems (tree_and t ts) = tree_problems t ++ trees_problems ts

  abbrev pub visibility_problems : Option Visibility → List SourceProblem
  visibility_problems (Some (InPath Unreadable)) = problem kind.VisibilityPath at ∷ []
  visibility_problems _ = []

  abbrev pub fields_problems : List (Option Visibility) → List SourceProblem
  fields_problems [] = []
  fields_problems (v ∷ vs) = visibility_problems v ++ fields_problems vs

  abbrev pub struct_problems : FieldsView → List SourceProblem
  struct_problems record_fields = []
  struct_problems (tuple_fields vs) = fields_problems vs
  struct_problems no_fields = []

  abbrev pub node_problems : NodeView → List SourceProblem
  node_problems n = attribute_problems at n.attrs

  abbrev pub named_problems : NamedView → List SourceProblem
  named_problems n = node_problems n.node ++ visibility_problems n.visibility

  abbrev pub some_tree_problems : Option UseTreeView → List SourceProblem
  some_tree_problems None = []
  some_tree_problems (Some t) = tree_problems t

  abbrev pub use_problems : UseView → List SourceProblem
  use_problems u = node_problems u.node ++ (visibility_problems u.visibility ++ some_tree_problems u.use_tree)

  abbrev pub call_problems : CallView → List SourceProblem
  call_problems c = node_problems c.node ++ path_problems kind.MacroPath at c.path

  -- an item without those that it holds
  abbrev pub own_problems : ItemView → List SourceProblem
  own_problems (plain_item k n) = named_problems n
  own_problems (const_item n) = named_problems n
  own_problems (struct_item n fields) = named_problems n ++ struct_problems fields
  own_problems (bare_module n semicolon) = named_problems n
  own_problems (listed_module n semicolon is) = named_problems n
  own_problems (use_item u) = use_problems u
  own_problems (extern_crate n rename) = named_problems n
  own_problems (bare_extern_block n) = node_problems n
  own_problems (listed_extern_block n is) = node_problems n
  own_problems (impl_item n is_trait) = node_problems n
  own_problems (macro_call c) = call_problems c
  own_problems (macro_rules n name) = node_problems n
  own_problems (asm_item n) = node_problems n

-- all items, each before those that it holds
abbrev mutual
  pub in_preorder : ItemViews → List ItemView
  in_preorder no_items = []
  in_preorder (item_and i is) = i ∷ (held_items i ++ in_preorder is)

  pub held_items : ItemView → List ItemView
  held_items (listed_module n semicolon is) = in_preorder is
  held_items (listed_extern_block n is) = in_preorder is
  held_items _ = []

-- where the next item begins
abbrev pub next_start : List ItemPlace → ℕ
next_start [] = 0
next_start (p ∷ ps) = p.range.start

-- the places behind that
abbrev pub others : List ItemPlace → List ItemPlace
others [] = []
others (p ∷ ps) = ps

-- items with their places
abbrev pub placed_problems : List ItemView → List ItemPlace → List SourceProblem
placed_problems [] ps = []
placed_problems (i ∷ is) ps = own_problems (next_start ps) i ++ placed_problems is (others ps)

-- a file whose items have these places; its own attributes stand at its first byte
abbrev pub syntax_problems : SyntaxView → List ItemPlace → List SourceProblem
syntax_problems (source_file attrs is) places = attribute_problems 0 attrs ++ placed_problems (in_preorder is) places
syntax_problems _ places = []
