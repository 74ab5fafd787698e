-- The kept items of a syntax.
use Rattle.std.specs.Prelude.{ℕ, List, Bool, true, false, Option, Some, None, option_map, option_and_then}
use Rattle.hir_input.specs.declared.ast.PathNode.{PathNode}
use Rattle.hir_input.specs.declared.ast.PathNode.TheVariants.{Readable, Unreadable}
use Rattle.hir_input.specs.Attr.{MetaView}
use Rattle.hir_input.specs.Cfg.{AtomView}
use Rattle.hir_input.specs.Path.{Path}
use Rattle.hir_input.specs.Syntax.{NodeView, NamedView, FieldsView, record_fields, tuple_fields, no_fields, ItemView, ItemViews, plain_item, const_item, bare_module, listed_module, bare_extern_block, listed_extern_block, asm_item, no_items, item_and, SyntaxView, source_file, block_expr, items_of}
use Rattle.hir_input.specs.Syntax as syntax
use Rattle.item_tree_attrs.specs.Collected.{Collected, collected_from, join, nothing_collected}
use Rattle.item_tree.specs.declared.visibility.RawVisibility.{RawVisibility}
use Rattle.item_tree.specs.declared.items.FieldsShape.{FieldsShape}
use Rattle.item_tree.specs.declared.items.FieldsShape.TheVariants as shape
use Rattle.item_tree.specs.Constructor.{ctor_of}
use Rattle.item_tree.specs.CrateView.{CrateView}
use Rattle.item_tree.specs.Node.{Leaf, Head, Node, Forest, leaf, parent, empty, add, plain, constant, struct_item, outline, use_item, extern_crate, impl_item, macro_call, macro_rules, inline, extern_block, Unfolding}
use Rattle.item_tree.specs.KeptUse.{alias_of, kept_tree}
use Rattle.item_tree.specs.Visibility.{read_visibility}

abbrev pub shape_of : FieldsView → FieldsShape
shape_of record_fields = shape.Record
shape_of (tuple_fields fields) = shape.Tuple
shape_of no_fields = shape.Unit

-- a path that can be read
abbrev pub readable_path : PathNode → Option Path
readable_path (Readable p) = Some p
readable_path Unreadable = None

-- a module with a semicolon stands in another file; any other has the items of its list
abbrev pub module_node : Bool → Head → List ℕ → RawVisibility → Forest → Node
module_node true h name v items = leaf h (outline name v)
module_node false h name v items = parent h (inline name v) items

-- under these options and skipped names
module _ (options : List AtomView) (skipped : List (List ℕ)) where
  -- the attributes are those that the node's metas collect: a false cfg among them drops no item
  abbrev pub head_of : NodeView → Head
  head_of n = record { hash = n.hash; number = n.number; attrs = collected_from options skipped n.attrs }

  -- an item that is kept where its name is there
  abbrev pub kept_if_named : NamedView → (List ℕ → RawVisibility → Leaf RawVisibility) → Option Node
  kept_if_named n item = option_map (λ name. leaf (head_of n.node) (item name (read_visibility n.visibility))) n.name

  -- what is kept of an item: nothing where its name is missing (but a constant needs none), where nothing is kept of a use
  -- tree, where the path of a macro call is missing or cannot be read, and of assembly
  abbrev mutual
    pub kept : ItemView → Option Node
    kept (plain_item k n) = kept_if_named n (plain k)
    kept (const_item n) = Some (leaf (head_of n.node) (constant n.name (read_visibility n.visibility)))
    kept (syntax.struct_item n fields) = kept_if_named n (λ name v. struct_item name v (shape_of fields) (ctor_of fields v))
    kept (bare_module n semicolon) = option_map (λ name. module_node semicolon (head_of n.node) name (read_visibility n.visibility) empty) n.name
    kept (listed_module n semicolon is) = option_map (λ name. module_node semicolon (head_of n.node) name (read_visibility n.visibility) (kept_all is)) n.name
    kept (syntax.use_item u) = option_map (λ t. leaf (head_of u.node) (use_item (read_visibility u.visibility) t)) (option_and_then kept_tree u.use_tree)
    kept (syntax.extern_crate n rename) = kept_if_named n (λ name v. extern_crate name v (alias_of rename))
    kept (bare_extern_block n) = Some (parent (head_of n) extern_block empty)
    kept (listed_extern_block n is) = Some (parent (head_of n) extern_block (kept_all is))
    kept (syntax.impl_item n of_trait) = Some (leaf (head_of n) (impl_item of_trait))
    kept (syntax.macro_call c) = option_map (λ p. leaf (head_of c.node) (macro_call p c.expand_to c.ctxt)) (option_and_then readable_path c.path)
    kept (syntax.macro_rules n name) = option_map (λ name. leaf (head_of n) (macro_rules name)) name
    kept (asm_item n) = None

    -- of several items, in order
    pub kept_all : ItemViews → Forest
    kept_all no_items = empty
    kept_all (item_and i is) = add (kept i) (kept_all is)

-- the top attributes of a source file: in the crate's root file its own stand behind the crate's
abbrev pub top_attrs_of : Bool → CrateView → List (List ℕ) → List MetaView → Collected
top_attrs_of true krate skipped attrs = join (collected_from krate.options skipped krate.attrs) (collected_from krate.options skipped attrs)
top_attrs_of false krate skipped attrs = collected_from krate.options skipped attrs

-- those of a whole syntax, which is that of the crate's root file or not: a block has its own, all else has none
abbrev pub kept_top : Bool → CrateView → List (List ℕ) → SyntaxView → Collected
kept_top is_root krate skipped (source_file attrs is) = top_attrs_of is_root krate skipped attrs
kept_top is_root krate skipped (block_expr attrs stmts tail) = collected_from krate.options skipped attrs
kept_top is_root krate skipped _ = nothing_collected

-- what is kept of a whole syntax
abbrev pub kept_syntax : Bool → CrateView → List (List ℕ) → SyntaxView → Unfolding
kept_syntax is_root krate skipped s = record { top_attrs = kept_top is_root krate skipped s; forest = kept_all krate.options skipped (items_of s) }
