use Rattle.std.proofs.Common.{◌∙◌, refl, rules}
use Rattle.item_tree.proofs.Common.{err_from_is_err_and, macro_items, collection_of, all_kept_in, body_items}
use Rattle.item_tree.proofs.Lowering.{passed-from_nothing}
use Rattle.item_tree.proofs.LoweredTables.{tables}
use Rattle.item_tree.proofs.lower.lower_body.Goals as goal

pub from_rows-requires : goal.from_rows-requires
from_rows-requires c =
    let e = c.new-rows.ensures in
    let f = all_kept_in c.args.ctx (body_items c.args.body) in
    let whole = record c.lower_top_level.new.rows { column = c.push_attrs.new.column } in
    (tables c.new-rows.result c.lower_top_level.new.rows whole f (collection_of c.args.top_attrs) c.in_ok-top_level.top_level.items c.in_ok-top_place.top_place e.tags e.keys e.items e.places e.column e.arena c.requires c.in_ok-top_level.ensures c.in_ok-top_place.ensures refl).sound

pub returns : goal.returns
returns c =
    let e = c.new-rows.ensures in
    let f = all_kept_in c.args.ctx (body_items c.args.body) in
    let whole = record c.lower_top_level.new.rows { column = c.push_attrs.new.column } in
    let t = tables c.new-rows.result c.lower_top_level.new.rows whole f (collection_of c.args.top_attrs) c.in_ok-top_level.top_level.items c.in_ok-top_place.top_place e.tags e.keys e.items e.places e.column e.arena c.requires c.in_ok-top_level.ensures c.in_ok-top_place.ensures refl in
    record { kept = c.from_rows.ensures ∙ t.unfolded; fits = t.fit; use_trees = c.in_ok-top_level.ensures.use_trees; too_large = search rules }

pub returns-in_err-top_level-clause-too_large : goal.returns-in_err-top_level-clause-too_large
returns-in_err-top_level-clause-too_large c =
    let p = err_from_is_err_and c.from_residual.result c.from_residual.ensures.1 in
    let e = c.new-rows.ensures in
    let is = body_items c.args.body in
    rw (p.1, p.2)
    (passed-from_nothing c.new-rows.result (all_kept_in c.args.ctx is) (collection_of c.args.top_attrs) (macro_items is) c.in_err-top_level.field-0.0 e.items e.arena c.in_err-top_level.ensures)
