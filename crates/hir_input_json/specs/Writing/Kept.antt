-- Items with their bodies, or without.
use Rattle.std.specs.Prelude.{Bool, true, false, ℕ, List, []}
use Rattle.hir_input.specs.Syntax.{NodeView, NamedView, UseView, CallView, ItemView, ItemViews, plain_item, const_item, struct_item, bare_module, listed_module, use_item, extern_crate, bare_extern_block, listed_extern_block, impl_item, macro_call, macro_rules, asm_item, no_items, item_and, StmtView, item_stmt, call_stmt, other_stmt, TailView, no_tail, call_tail, other_tail}

abbrev pub body_kept : Bool → List ℕ → List ℕ
body_kept true text = text
body_kept false text = []

abbrev pub node_kept : Bool → NodeView → NodeView
node_kept bodies n = record { hash = n.hash; number = n.number; attrs = n.attrs; body = body_kept bodies n.body }

abbrev pub named_kept : Bool → NamedView → NamedView
named_kept bodies n = record { node = node_kept bodies n.node; name = n.name; visibility = n.visibility }

abbrev pub use_kept : Bool → UseView → UseView
use_kept bodies u = record { node = node_kept bodies u.node; visibility = u.visibility; use_tree = u.use_tree }

abbrev pub call_kept : Bool → CallView → CallView
call_kept bodies c = record { node = node_kept bodies c.node; path = c.path; expand_to = c.expand_to; ctxt = c.ctxt }

abbrev mutual
  pub item_kept : Bool → ItemView → ItemView
  item_kept bodies (plain_item kind n) = plain_item kind (named_kept bodies n)
  item_kept bodies (const_item n) = const_item (named_kept bodies n)
  item_kept bodies (struct_item n fields) = struct_item (named_kept bodies n) fields
  item_kept bodies (bare_module n semicolon) = bare_module (named_kept bodies n) semicolon
  item_kept bodies (listed_module n semicolon is) = listed_module (named_kept bodies n) semicolon (items_kept bodies is)
  item_kept bodies (use_item u) = use_item (use_kept bodies u)
  item_kept bodies (extern_crate n rename) = extern_crate (named_kept bodies n) rename
  item_kept bodies (bare_extern_block n) = bare_extern_block (node_kept bodies n)
  item_kept bodies (listed_extern_block n is) = listed_extern_block (node_kept bodies n) (items_kept bodies is)
  item_kept bodies (impl_item n of_trait) = impl_item (node_kept bodies n) of_trait
  item_kept bodies (macro_call c) = macro_call (call_kept bodies c)
  item_kept bodies (macro_rules n name) = macro_rules (node_kept bodies n) name
  item_kept bodies (asm_item n) = asm_item (node_kept bodies n)

  pub items_kept : Bool → ItemViews → ItemViews
  items_kept bodies no_items = no_items
  items_kept bodies (item_and i is) = item_and (item_kept bodies i) (items_kept bodies is)

abbrev pub stmt_kept : Bool → StmtView → StmtView
stmt_kept bodies (item_stmt i) = item_stmt (item_kept bodies i)
stmt_kept bodies (call_stmt c) = call_stmt (call_kept bodies c)
stmt_kept bodies other_stmt = other_stmt

abbrev pub tail_kept : Bool → TailView → TailView
tail_kept bodies no_tail = no_tail
tail_kept bodies (call_tail c) = call_tail (call_kept bodies c)
tail_kept bodies other_tail = other_tail
