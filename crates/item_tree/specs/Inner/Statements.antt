-- The items of statements one by one.
use Rattle.std.specs.Prelude.{[]}
use Rattle.hir_input.specs.declared.ast.Stmt.{Stmt}
use Rattle.hir_input.specs.declared.ast.Stmt.TheVariants as stmt
use Rattle.hir_input.specs.declared.ast.Tail.{Tail}
use Rattle.hir_input.specs.declared.ast.Tail.TheVariants as tail
use Rattle.hir_input.specs.Syntax.{ItemView, asm_item, macro_call, ItemViews, call_view, item_view, items_view, stmt_items, stmts_view, tail_view}
use Rattle.item_tree.specs.declared.lower.Body.{Body}
use Rattle.item_tree.specs.declared.lower.Body.TheVariants as body

-- stands where a statement or a tail has no item: nothing is kept of it
abbrev pub no_item : ItemView
no_item = asm_item (record { hash = 0; number = 0; attrs = []; body = [] })

abbrev pub stmt_item : Stmt → ItemView
stmt_item (stmt.Item i) = item_view i
stmt_item (stmt.MacroCall c) = macro_call (call_view c)
stmt_item stmt.Other = no_item

abbrev pub tail_item : Tail → ItemView
tail_item (tail.MacroCall c) = macro_call (call_view c)
tail_item _ = no_item

-- what a tree is lowered from
abbrev pub body_items : Body → ItemViews
body_items (body.Items items) = items_view items.now
body_items (body.Stmts stmts tail) = stmt_items (stmts_view stmts.now) (tail_view tail.now)
