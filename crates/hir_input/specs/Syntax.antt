-- The syntax as plain data, of which every contract on a syntax speaks.
use Rattle.std.specs.Prelude.{ℕ, List, [], ◌∷◌, Bool, Option, Some, None, option_map, map, string_bytes, String}
use Rattle.std.specs.declared.alloc.Global.{Global}
use Rattle.hir_input.specs.declared.ids.AstIdKind.{AstIdKind}
use Rattle.hir_input.specs.declared.ids.AstIdKind.TheVariants as kind
use Rattle.hir_input.specs.declared.ids.SyntaxContext.{SyntaxContext}
use Rattle.hir_input.specs.declared.expand_to.ExpandTo.{ExpandTo}
use Rattle.hir_input.specs.declared.attr.Meta.{Meta}
use Rattle.hir_input.specs.declared.ast.NamedNode.{NamedNode}
use Rattle.hir_input.specs.declared.ast.PlainKind.{PlainKind}
use Rattle.hir_input.specs.declared.ast.PlainKind.TheVariants as plain_kind
use Rattle.hir_input.specs.declared.ast.ExternBlock as ast_extern_block
use Rattle.hir_input.specs.declared.ast.ExternCrate as ast_extern_crate
use Rattle.hir_input.specs.declared.ast.Impl as ast_impl
use Rattle.hir_input.specs.declared.ast.MacroCall as ast_macro_call
use Rattle.hir_input.specs.declared.ast.MacroRules as ast_macro_rules
use Rattle.hir_input.specs.declared.ast.Module as ast_module
use Rattle.hir_input.specs.declared.ast.Struct as ast_struct
use Rattle.hir_input.specs.declared.ast.Use as ast_use
use Rattle.hir_input.specs.declared.ast.StructKind.{StructKind}
use Rattle.hir_input.specs.declared.ast.StructKind.TheVariants as written
use Rattle.hir_input.specs.declared.ast.PathNode.{PathNode}
use Rattle.hir_input.specs.declared.ast.Rename.{Rename}
use Rattle.hir_input.specs.declared.ast.Visibility.{Visibility}
use Rattle.hir_input.specs.declared.ast.Syntax.{Syntax}
use Rattle.hir_input.specs.declared.ast.Syntax.TheVariants.{SourceFile, MacroItems, MacroStmts, Error}
use Rattle.hir_input.specs.declared.ast.BlockExpr.{BlockExpr}
use Rattle.hir_input.specs.declared.ast.Stmt.{Stmt}
use Rattle.hir_input.specs.declared.ast.Stmt.TheVariants as stmt
use Rattle.hir_input.specs.declared.ast.Tail.{Tail}
use Rattle.hir_input.specs.declared.ast.Tail.TheVariants as tail
use Rattle.hir_input.specs.declared.ast.ExternItem.{ExternItem}
use Rattle.hir_input.specs.declared.ast.ExternItem.TheVariants as external
use Rattle.hir_input.specs.declared.ast.Item.{Item}
use Rattle.hir_input.specs.declared.ast.Item.TheOpen.{Item-F, Module-F}
use Rattle.hir_input.specs.declared.ast.Item.TheFolds.{fold-Item, fold-Module}
use Rattle.hir_input.specs.Lists.{list_as}
use Rattle.hir_input.specs.Attr.{MetaView, meta_view}
use Rattle.hir_input.specs.UseTreeView.{UseTreeView, use_tree_view}

-- what every node has
pub record NodeView : Type 0 where
  pub hash : ℕ
  pub number : ℕ
  pub attrs : List MetaView
  pub body : List ℕ

-- what a node has that may have a name and a visibility
pub record NamedView : Type 0 where
  pub node : NodeView
  pub name : Option (List ℕ)
  pub visibility : Option Visibility

-- a use may have a use tree, and has no name
pub record UseView : Type 0 where
  pub node : NodeView
  pub visibility : Option Visibility
  pub use_tree : Option UseTreeView

-- a macro call may have a path, and has neither name nor visibility
pub record CallView : Type 0 where
  pub node : NodeView
  pub path : Option PathNode
  pub expand_to : ExpandTo
  pub ctxt : SyntaxContext

-- the kind of the ids of items that differ in nothing but the kind
abbrev pub ast_kind : PlainKind → AstIdKind
ast_kind plain_kind.Fn = kind.Fn
ast_kind plain_kind.Union = kind.Union
ast_kind plain_kind.Enum = kind.Enum
ast_kind plain_kind.Static = kind.Static
ast_kind plain_kind.Trait = kind.Trait
ast_kind plain_kind.TypeAlias = kind.TypeAlias
ast_kind plain_kind.MacroDef = kind.MacroDef

-- the fields of a struct; each of a tuple struct may have a visibility
pub data FieldsView : Type 0 where
  record_fields : FieldsView
  tuple_fields : List (Option Visibility) → FieldsView
  no_fields : FieldsView

-- an item; a module may have a semicolon, and a module and an extern block may have a list of items
mutual
  pub data ItemView : Type 0 where
    plain_item : PlainKind → NamedView → ItemView
    const_item : NamedView → ItemView
    struct_item : NamedView → FieldsView → ItemView
    bare_module : NamedView → Bool → ItemView
    listed_module : NamedView → Bool → ItemViews → ItemView
    use_item : UseView → ItemView
    extern_crate : NamedView → Option Rename → ItemView
    bare_extern_block : NodeView → ItemView
    listed_extern_block : NodeView → ItemViews → ItemView
    impl_item : NodeView → Bool → ItemView
    macro_call : CallView → ItemView
    macro_rules : NodeView → Option (List ℕ) → ItemView
    asm_item : NodeView → ItemView

  pub data ItemViews : Type 0 where
    no_items : ItemViews
    item_and : ItemView → ItemViews → ItemViews

-- a statement: an item, a macro call, or what is neither
pub data StmtView : Type 0 where
  item_stmt : ItemView → StmtView
  call_stmt : CallView → StmtView
  other_stmt : StmtView

-- what stands behind the last statement
pub data TailView : Type 0 where
  no_tail : TailView
  call_tail : CallView → TailView
  other_tail : TailView

-- the syntax of a file, of a macro's result, or of a block
pub data SyntaxView : Type 0 where
  source_file : List MetaView → ItemViews → SyntaxView
  macro_items : ItemViews → SyntaxView
  macro_stmts : List StmtView → TailView → SyntaxView
  block_expr : List MetaView → List StmtView → TailView → SyntaxView
  error : SyntaxView

-- the items of statements in order: item statements and macro calls in statement place, and a macro call in the tail last
abbrev pub stmt_items : List StmtView → TailView → ItemViews
stmt_items [] (call_tail c) = item_and (macro_call c) no_items
stmt_items [] tail = no_items
stmt_items (item_stmt i ∷ stmts) tail = item_and i (stmt_items stmts tail)
stmt_items (call_stmt c ∷ stmts) tail = item_and (macro_call c) (stmt_items stmts tail)
stmt_items (other_stmt ∷ stmts) tail = stmt_items stmts tail

-- the items of a syntax in order
abbrev pub items_of : SyntaxView → ItemViews
items_of (source_file attrs is) = is
items_of (macro_items is) = is
items_of (macro_stmts stmts tail) = stmt_items stmts tail
items_of (block_expr attrs stmts tail) = stmt_items stmts tail
items_of error = no_items

-- a list of items
abbrev pub items_from : List ItemView → ItemViews
items_from = list_as no_items item_and

-- a module with or without a list
abbrev pub module_from : NamedView → Bool → Option (List ItemView) → ItemView
module_from n semicolon None = bare_module n semicolon
module_from n semicolon (Some is) = listed_module n semicolon (items_from is)

-- an extern block with or without a list
abbrev pub extern_block_from : NodeView → Option (List ItemView) → ItemView
extern_block_from n None = bare_extern_block n
extern_block_from n (Some is) = listed_extern_block n (items_from is)

-- ---- what each node of a syntax is seen as

-- what every node has, from its parts
abbrev pub node_from : ℕ → ℕ → List Meta → String Global → NodeView
node_from hash number attrs body = record { hash = hash; number = number; attrs = map meta_view attrs; body = string_bytes body }

-- a node with a name and a visibility, from its parts
abbrev pub named_from : ℕ → ℕ → List Meta → Option (List ℕ) → Option Visibility → String Global → NamedView
named_from hash number attrs name visibility body = record { node = node_from hash number attrs body; name = name; visibility = visibility }

-- a node that has nothing else of its own
abbrev pub named_view : NamedNode → NamedView
named_view n = named_from n.hash n.number n.attrs.items n.name n.visibility n.body

abbrev pub struct_view : ast_struct.Struct → NamedView
struct_view n = named_from n.hash n.number n.attrs.items n.name n.visibility n.body

abbrev pub extern_crate_view : ast_extern_crate.ExternCrate → NamedView
extern_crate_view n = named_from n.hash n.number n.attrs.items n.name n.visibility n.body

abbrev pub impl_view : ast_impl.Impl → NodeView
impl_view n = node_from n.hash n.number n.attrs.items n.body

abbrev pub macro_rules_view : ast_macro_rules.MacroRules → NodeView
macro_rules_view n = node_from n.hash n.number n.attrs.items n.body

abbrev pub use_view : ast_use.Use → UseView
use_view n = record { node = node_from n.hash n.number n.attrs.items n.body; visibility = n.visibility; use_tree = option_map use_tree_view n.use_tree }

abbrev pub call_view : ast_macro_call.MacroCall → CallView
call_view n = record { node = node_from n.hash n.number n.attrs.items n.body; path = n.path; expand_to = n.expand_to; ctxt = n.ctxt }

abbrev pub fields_view : StructKind → FieldsView
fields_view written.Record = record_fields
fields_view (written.Tuple fields) = tuple_fields (map (λ f. f.visibility) fields.items)
fields_view written.Unit = no_fields

-- an item of an extern block
abbrev pub extern_item_view : ExternItem → ItemView
extern_item_view (external.Fn n) = plain_item plain_kind.Fn (named_view n)
extern_item_view (external.MacroCall n) = macro_call (call_view n)
extern_item_view (external.Static n) = plain_item plain_kind.Static (named_view n)
extern_item_view (external.TypeAlias n) = plain_item plain_kind.TypeAlias (named_view n)

abbrev pub extern_block_view : ast_extern_block.ExternBlock → ItemView
extern_block_view n = extern_block_from (node_from n.hash n.number n.attrs.items n.body) (option_map (λ v. map extern_item_view v.items) n.items)

-- a module, with each of its items seen in its place
abbrev pub module_step : Module-F ItemView ItemView → ItemView
module_step m = module_from (named_from m.hash m.number m.attrs.items m.name m.visibility m.body) m.semicolon (option_map (λ v. v.items) m.items)

abbrev pub item_step : Item-F ItemView ItemView → ItemView
item_step (Item-F.AsmExpr n) = asm_item (node_from n.hash n.number n.attrs.items n.body)
item_step (Item-F.Const n) = const_item (named_view n)
item_step (Item-F.Enum n) = plain_item plain_kind.Enum (named_view n)
item_step (Item-F.ExternBlock n) = extern_block_view n
item_step (Item-F.ExternCrate n) = extern_crate (extern_crate_view n) n.rename
item_step (Item-F.Fn n) = plain_item plain_kind.Fn (named_view n)
item_step (Item-F.Impl n) = impl_item (impl_view n) n.is_trait_impl
item_step (Item-F.MacroCall n) = macro_call (call_view n)
item_step (Item-F.MacroDef n) = plain_item plain_kind.MacroDef (named_view n)
item_step (Item-F.MacroRules n) = macro_rules (macro_rules_view n) n.name
item_step (Item-F.Module m) = m
item_step (Item-F.Static n) = plain_item plain_kind.Static (named_view n)
item_step (Item-F.Struct n) = struct_item (struct_view n) (fields_view n.kind)
item_step (Item-F.Trait n) = plain_item plain_kind.Trait (named_view n)
item_step (Item-F.TypeAlias n) = plain_item plain_kind.TypeAlias (named_view n)
item_step (Item-F.Union n) = plain_item plain_kind.Union (named_view n)
item_step (Item-F.Use n) = use_item (use_view n)

abbrev pub item_view : Item → ItemView
item_view = fold-Item ItemView ItemView item_step module_step

abbrev pub module_view : ast_module.Module → ItemView
module_view = fold-Module ItemView ItemView item_step module_step

abbrev pub items_view : List Item → ItemViews
items_view is = items_from (map item_view is)

abbrev pub stmt_view : Stmt → StmtView
stmt_view (stmt.Item i) = item_stmt (item_view i)
stmt_view (stmt.MacroCall c) = call_stmt (call_view c)
stmt_view stmt.Other = other_stmt

abbrev pub tail_view : Tail → TailView
tail_view tail.Nothing = no_tail
tail_view (tail.MacroCall c) = call_tail (call_view c)
tail_view tail.Other = other_tail

abbrev pub stmts_view : List Stmt → List StmtView
stmts_view stmts = map stmt_view stmts

-- a syntax as plain data
abbrev pub syntax_view : Syntax → SyntaxView
syntax_view (SourceFile attrs items) = source_file (map meta_view attrs.items) (items_view items.items)
syntax_view (MacroItems items) = macro_items (items_view items.items)
syntax_view (MacroStmts stmts tail) = macro_stmts (stmts_view stmts.items) (tail_view tail)
syntax_view Error = error

-- a block as plain data
abbrev pub block_view : BlockExpr → SyntaxView
block_view b = block_expr (map meta_view b.attrs.items) (stmts_view b.stmts.items) (tail_view b.tail)
