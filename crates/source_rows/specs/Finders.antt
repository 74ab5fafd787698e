-- What finds the places of a text's items.
use Rattle.std.specs.Prelude.{◌≡◌, ℕ, List}
use Rattle.rust_items.specs.declared.source_file.ItemPlace.{ItemPlace}
use Rattle.source_rows.specs.declared.finder.Finder.{Finder}

-- the places that are found are those of a text
abbrev pub IsFinderOf : List ℕ → List ItemPlace → Finder → Type 0
IsFinderOf text places f = (f.lines ≡ text) × (f.places ≡ places)

-- the text and the places are those from before
abbrev pub IsSameFinder : Finder → Finder → Type 0
IsSameFinder old new = (new.lines ≡ old.lines) × (new.places ≡ old.places)
