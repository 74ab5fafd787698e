-- The constructor of a struct among the values.
use Rattle.std.specs.Prelude.{Bool, true, false, List, [], ◌∷◌, map, Option, Some, None}
use Rattle.std.specs.List.{find, list_any}
use Rattle.hir_input.specs.Syntax.{FieldsView, record_fields, tuple_fields, no_fields}
use Rattle.item_tree.specs.declared.visibility.RawVisibility.{RawVisibility}
use Rattle.item_tree.specs.declared.visibility.RawVisibility.TheVariants.{PubSelf, PubCrate, Public}
use Rattle.item_tree.specs.Node.{Ctor, no_ctor, ctor_with, ctor_with_min}
use Rattle.item_tree.specs.Visibility.{distinct_visibilities, read_visibility}

abbrev pub is_private : RawVisibility → Bool
is_private (PubSelf e) = true
is_private v = false

abbrev pub is_pub_crate : RawVisibility → Bool
is_pub_crate PubCrate = true
is_pub_crate v = false

abbrev pub crate_or_public : Bool → RawVisibility
crate_or_public true = PubCrate
crate_or_public false = Public

abbrev pub or_one : List RawVisibility → RawVisibility → List RawVisibility
or_one [] v = v ∷ []
or_one (m ∷ ms) v = m ∷ ms

abbrev pub deciding_by : Option RawVisibility → List RawVisibility → List RawVisibility
deciding_by (Some v) vs = v ∷ []
deciding_by None vs = or_one (distinct_visibilities vs) (crate_or_public (list_any is_pub_crate vs))

-- the visibilities that decide who sees what needs all of them: the first private one; else those of modules, each once, in
-- order of first appearance; else that of the crate; else public
abbrev pub deciding : List RawVisibility → List RawVisibility
deciding vs = deciding_by (find is_private vs) vs

-- one of them, or several
abbrev pub ctor_from : {V : Type 0} → List V → Ctor V
ctor_from (v ∷ []) = ctor_with v
ctor_from vs = ctor_with_min vs

-- that of a unit struct has the struct's own visibility; that of a tuple struct needs the struct's and each field's; a
-- record struct has none
abbrev pub ctor_of : FieldsView → RawVisibility → Ctor RawVisibility
ctor_of record_fields v = no_ctor
ctor_of no_fields v = ctor_with v
ctor_of (tuple_fields fields) v = ctor_from (deciding (v ∷ map read_visibility fields))
