-- The places that edits touched since the index of names was refreshed; private contracts alone cite them.
use Rattle.std.specs.Prelude.{List, Option, Some, None, All, option_map, Contains}
use Rattle.std.specs.BTreeSet.{BTreeSet}
use Rattle.item_tree_db.specs.declared.place.Place.{Place}
use Rattle.item_tree_db.specs.Edits.{EditView, NamesPlaceOf}
use Rattle.item_tree_db.specs.State.{State}
use Rattle.decl_index.specs.Entries.{IndexView, IsBehind, IsBehindAt}

-- those places, if they are known
abbrev pub Touched : Type 0
Touched = Option (List Place)

abbrev pub touched_keys : Option (BTreeSet Place) → Touched
touched_keys places = option_map (λ s. s.keys) places

-- an index is behind a table by no more than these places have, if they are known
abbrev pub IsBehindBy : IndexView → Touched → State → Type 0
IsBehindBy index None s = IsBehind index s
IsBehindBy index (Some places) s = IsBehindAt index places s

-- edits touch none but the new places, which hold the old ones
abbrev pub AreTouched : List EditView → Touched → Touched → Type 0
AreTouched edits old None = Unit {0}
AreTouched edits None (Some new) = ⊥
AreTouched edits (Some old) (Some new) = ((place : Place) → Contains old place → Contains new place) × All (NamesPlaceOf new) edits
