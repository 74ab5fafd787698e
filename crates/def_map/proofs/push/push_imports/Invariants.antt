use Rattle.std.proofs.Common.{◌≡◌, ◌++◌, map}
use Rattle.tree_walk.specs.Listed.{listed_import}
use Rattle.def_map.specs.{Tables.import_row, Views.crate_row_view}
use Rattle.def_map.proofs.push.push_imports.Given as goal

abbrev pub invariant-loop-listed : goal.invariant-loop-listed
invariant-loop-listed l =
    map crate_row_view l.rows.items ++ map (import_row l.owner l.visibility) (map listed_import l.listed-iterator.rest.items)
    ≡ map crate_row_view l.fn.rows.items ++ map (import_row l.owner l.visibility) (map listed_import l.fn.list.items)
