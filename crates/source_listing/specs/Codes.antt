-- Encodings of values.
use Rattle.std.specs.Prelude.{ℕ, List, refl}
use Rattle.std.specs.Coded.{Coded, code_by, coded×, coded_list, coded_ℕ}
use Rattle.rust_items.specs.contracts.source_file.ItemPlace as place
use Rattle.rust_items.specs.declared.source_file.ItemPlace.{ItemPlace}
use Rattle.source_listing.specs.Uses.{PlacedText, file_places, with_places}

-- texts with places in code
abbrev pub placed_text_code : Coded PlacedText
placed_text_code =
    code_by (List ℕ × (List ItemPlace × List ℕ)) (coded× (coded_list coded_ℕ) (coded× (coded_list place.the_row.coded) (coded_list coded_ℕ)))
    (λ t. (t.text, (t.places.items, t.places.use_trees))) (λ p. with_places p.0 (file_places p.1.0 p.1.1)) (λ _. refl)
