-- Codes of what shelves are seen as.
use Rattle.std.specs.Prelude.{ℕ, List, Option, refl}
use Rattle.std.specs.Coded.{Coded, code_by, coded×, coded_list, coded_option, coded_ℕ}
use Rattle.item_tree.specs.Node.{Unfolding}
use Rattle.item_tree.specs.Code.Node.{unfolding_code}
use Rattle.item_tree_db.specs.contracts.place.Place as place
use Rattle.item_tree_db.specs.contracts.source.Source as source
use Rattle.item_tree_db.specs.declared.rows.Row.{Row}
use Rattle.item_tree_db.specs.declared.source.Source.{Source}
use Rattle.item_tree_db.specs.Inner.Shelf.{Shelved, Places}

abbrev pub row_code : Coded Row
row_code = code_by (Unfolding × ℕ) (coded× unfolding_code coded_ℕ) (λ r. (r.tree, r.changed)) (λ p. record { tree = p.0; changed = p.1 }) (λ _. refl)

abbrev pub placed_code : Coded Shelved
placed_code =
    code_by (Option Source × List Row)
    (coded× (coded_option source.the_row.coded) (coded_list row_code))
    (λ e. (e.source, e.rows))
    (λ p. record { source = p.0; rows = p.1 })
    (λ _. refl)

abbrev pub places_code : Coded Places
places_code = coded_list (coded× place.the_row.coded placed_code)
