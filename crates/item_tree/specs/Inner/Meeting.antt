-- What becomes of the visibilities in the arena as more are met, one after the other.
use Rattle.std.specs.Prelude.{List, [], ◌∷◌, ◌++◌, if◌then◌else◌}
use Rattle.std.specs.List.{list_any}
use Rattle.item_tree.specs.declared.visibility.RawVisibility.{RawVisibility}
use Rattle.item_tree.specs.declared.visibility.RawVisibility.TheVariants.{Module}
use Rattle.item_tree.specs.Visibility.{same_visibility}

-- once v was met: if it is that of a module, it stands among them once
abbrev pub meet : List RawVisibility → RawVisibility → List RawVisibility
meet ms (Module p e) = if list_any (same_visibility (Module p e)) ms then ms else ms ++ Module p e ∷ []
meet ms v = ms

-- once several were met
abbrev pub meet_all : List RawVisibility → List RawVisibility → List RawVisibility
meet_all ms [] = ms
meet_all ms (v ∷ vs) = meet_all (meet ms v) vs
