use Rattle.std.proofs.Common.{◌≡◌, inr, map, drop, ◌+◌, ◌∙◌, sym, ap, subst, List, Option, Some, ◌++◌}
use Rattle.item_tree_db.proofs.Common.{err_from_is_err_and, CrateData, CrateView, crate_view, Place, Row, TreeFits, TreePasses, brought, fresh_row, source_place, source_syntax}
use Rattle.item_tree_db.proofs.Crates.{crate_at, one_more, fits_next}
use Rattle.item_tree_db.proofs.rows.lower_all.Goals as goal

pub returns-in_err-row-clause-refused : goal.returns-in_err-row-clause-refused
returns-in_err-row-clause-refused c =
    let x = c.krate-item.result in
    let at = crate_at c.args.crates.now c.loop-krate.krate-index x c.krate-item.is c.loop-krate-test.true in
    let own = subst (λ (p : Place). TreePasses c.args.skipped.now p (Some (crate_view x)) (Some (source_syntax c.args.source.now)) c.in_err-row.field-0.0) c.place-place.ensures c.in_err-row.ensures.refused in
    let p = err_from_is_err_and c.from_residual-in_err-row.result c.from_residual-in_err-row.ensures.1 in
    rw (p.1, p.2) (inr (c.loop-krate.krate-index, subst (λ (k : Option CrateView). TreePasses c.args.skipped.now (source_place c.args.source.now) k (Some (source_syntax c.args.source.now)) c.in_err-row.field-0.0) (sym at) own))

pub loop-krate-preserved : goal.loop-krate-preserved
loop-krate-preserved c =
    let names = c.args.skipped.now in
    let place = source_place c.args.source.now in
    let syntax = source_syntax c.args.source.now in
    let x = c.krate-item.result in
    let f : CrateData → Row = λ krate. brought c.args.number names place syntax (crate_view krate) in
    let row : c.in_ok-row.row ≡ f x = c.in_ok-row.ensures.row ∙ ap (λ (p : Place). fresh_row c.args.number names p (Some (crate_view x)) (Some syntax)) c.place-place.ensures in
    let fits = subst (λ (p : Place). TreeFits names p (Some (crate_view x)) (Some syntax)) c.place-place.ensures c.in_ok-row.ensures.fits in
    record {
      rows = ap (λ (rows : List Row). rows ++ map f (drop (c.loop-krate.krate-index + 1) c.args.crates.now)) c.in_ok-push.ensures.items
          ∙ one_more f c.loop-krate.rows.items c.args.crates.now c.loop-krate.krate-index x c.in_ok-row.row c.krate-item.is row c.loop-krate-test.true
          ∙ c.loop-krate.invariant.rows;
      fits = λ rest. c.loop-krate.invariant.fits (fits_next names place syntax c.args.crates.now c.loop-krate.krate-index x c.krate-item.is c.loop-krate-test.true fits rest);
    }
