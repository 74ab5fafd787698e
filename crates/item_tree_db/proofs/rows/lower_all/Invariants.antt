use Rattle.std.proofs.Common.{◌≡◌, ◌++◌, map, drop}
use Rattle.item_tree_db.proofs.Common.{CrateData, crate_view, Row, CratesFit, brought, source_place, source_syntax}
use Rattle.item_tree_db.proofs.rows.lower_all.Given as goal

abbrev pub invariant-loop-krate : goal.invariant-loop-krate
invariant-loop-krate l =
    let place = source_place l.source in
    let syntax = source_syntax l.source in
    let f : CrateData → Row = λ krate. brought l.number l.skipped place syntax (crate_view krate) in
    record {
      rows : l.rows.items ++ map f (drop l.krate-index l.crates) ≡ map f l.crates;
      fits : CratesFit (map crate_view (drop l.krate-index l.crates)) l.skipped place syntax → CratesFit (map crate_view l.crates) l.skipped place syntax;
    }
