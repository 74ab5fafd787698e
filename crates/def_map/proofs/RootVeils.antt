-- Rows of the code, as rows of the definition.
use Rattle.std.proofs.Common.{◌≡◌, ◌||◌, List, [], ◌∷◌, map, refl, ap}
use Rattle.std.specs.List.{list_any}
use Rattle.def_map.specs.declared.push.Row.{Row}
use Rattle.def_map.specs.{Tables.is_root_veil, Views.crate_row_view}

pub root_veils : (rows : List Row) → list_any is_root_veil (map crate_row_view rows) ≡ list_any (λ row. is_root_veil (crate_row_view row)) rows
root_veils [] = refl
root_veils (r ∷ rows) = ap (λ b. is_root_veil (crate_row_view r) || b) (root_veils rows)
