-- Syntaxes that differ in body texts alone.
use Rattle.std.specs.Prelude.{[], map}
use Rattle.hir_input.specs.Syntax.{NodeView, NamedView, UseView, CallView, ItemView, ItemViews, plain_item, const_item, struct_item, bare_module, listed_module, use_item, extern_crate, bare_extern_block, listed_extern_block, impl_item, macro_call, macro_rules, asm_item, no_items, item_and, StmtView, item_stmt, call_stmt, other_stmt, TailView, no_tail, call_tail, other_tail, SyntaxView, source_file, macro_items, macro_stmts, block_expr, error}

abbrev pub node_without_body : NodeView → NodeView
node_without_body n = record { hash = n.hash; number = n.number; attrs = n.attrs; body = [] }

abbrev pub named_without_body : NamedView → NamedView
named_without_body n = record { node = node_without_body n.node; name = n.name; visibility = n.visibility }

abbrev pub use_without_body : UseView → UseView
use_without_body u = record { node = node_without_body u.node; visibility = u.visibility; use_tree = u.use_tree }

abbrev pub call_without_body : CallView → CallView
call_without_body c = record { node = node_without_body c.node; path = c.path; expand_to = c.expand_to; ctxt = c.ctxt }

-- with every body text taken out
abbrev mutual
  pub item_without_bodies : ItemView → ItemView
  item_without_bodies (plain_item kind n) = plain_item kind (named_without_body n)
  item_without_bodies (const_item n) = const_item (named_without_body n)
  item_without_bodies (struct_item n fields) = struct_item (named_without_body n) fields
  item_without_bodies (bare_module n semicolon) = bare_module (named_without_body n) semicolon
  item_without_bodies (listed_module n semicolon is) = listed_module (named_without_body n) semicolon (items_without_bodies is)
  item_without_bodies (use_item u) = use_item (use_without_body u)
  item_without_bodies (extern_crate n rename) = extern_crate (named_without_body n) rename
  item_without_bodies (bare_extern_block n) = bare_extern_block (node_without_body n)
  item_without_bodies (listed_extern_block n is) = listed_extern_block (node_without_body n) (items_without_bodies is)
  item_without_bodies (impl_item n of_trait) = impl_item (node_without_body n) of_trait
  item_without_bodies (macro_call c) = macro_call (call_without_body c)
  item_without_bodies (macro_rules n name) = macro_rules (node_without_body n) name
  item_without_bodies (asm_item n) = asm_item (node_without_body n)

  pub items_without_bodies : ItemViews → ItemViews
  items_without_bodies no_items = no_items
  items_without_bodies (item_and i is) = item_and (item_without_bodies i) (items_without_bodies is)

abbrev pub stmt_without_bodies : StmtView → StmtView
stmt_without_bodies (item_stmt i) = item_stmt (item_without_bodies i)
stmt_without_bodies (call_stmt c) = call_stmt (call_without_body c)
stmt_without_bodies other_stmt = other_stmt

abbrev pub tail_without_body : TailView → TailView
tail_without_body (call_tail c) = call_tail (call_without_body c)
tail_without_body tail = tail

abbrev pub without_bodies : SyntaxView → SyntaxView
without_bodies (source_file attrs is) = source_file attrs (items_without_bodies is)
without_bodies (macro_items is) = macro_items (items_without_bodies is)
without_bodies (macro_stmts stmts tail) = macro_stmts (map stmt_without_bodies stmts) (tail_without_body tail)
without_bodies (block_expr attrs stmts tail) = block_expr attrs (map stmt_without_bodies stmts) (tail_without_body tail)
without_bodies error = error
