use Rattle.std.proofs.Common.{◌∙◌, ap}
use Rattle.std.specs.List.{list_any}
use Rattle.def_map.specs.CrateView.{rows_view}
use Rattle.def_map.specs.Numbering.{item_eq}
use Rattle.def_map.proofs.NumberLaws.{is_numbering, same_items}
use Rattle.def_map.proofs.numbers.number_crate.Goals as goal

pub returns-clause-numbering : goal.returns-clause-numbering
returns-clause-numbering c = is_numbering _ _ (rows_view c.args.rows.now) c.in_ok-symbols.ensures.known

pub returns-clause-items : goal.returns-clause-items
returns-clause-items c = λ key. c.in_ok-items.ensures.known key ∙ ap (list_any (item_eq key)) (same_items _ c.in_ok-items.items.keys (rows_view c.args.rows.now) c.in_ok-symbols.ensures.known)
