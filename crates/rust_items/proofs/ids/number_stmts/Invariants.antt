use Rattle.std.proofs.Common.{◌≡◌, map, take, drop}
use Rattle.hir_input.specs.Syntax.{stmt_view}
use Rattle.rust_items.specs.Blocks.{stmts_with_ids}
use Rattle.rust_items.specs.Views.{supply_view}
use Rattle.rust_items.proofs.Numbering.{behind}
use Rattle.rust_items.proofs.ids.number_stmts.Given as goal

abbrev pub invariant-loop-stmt : goal.invariant-loop-stmt
invariant-loop-stmt l =
    stmts_with_ids (map stmt_view l.fn.stmts) (supply_view l.fn.supply)
    ≡ behind (map stmt_view (take l.stmt-index l.stmts)) (stmts_with_ids (map stmt_view (drop l.stmt-index l.stmts)) (supply_view l.supply))
