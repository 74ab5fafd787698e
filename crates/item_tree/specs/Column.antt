-- The column of attributes: the values that are not enabled and empty, and the place of each.
use Rattle.std.specs.Prelude.{ℕ, ◌+◌, eqb, Bool, true, false, List, [], ◌∷◌, ◌++◌, length, slice_get, Option, Some, None, if◌then◌else◌}
use Rattle.hir_input.specs.declared.attr.Attr.{Attr}
use Rattle.hir_input.specs.Cfg.{CfgView}
use Rattle.item_tree_attrs.specs.Collected.{Collected, nothing_collected as no_attrs}

abbrev pub is_empty_of : List Attr → Option CfgView → Bool
is_empty_of [] None = true
is_empty_of [] (Some cfg) = false
is_empty_of (a ∷ rest) cfg = false

-- enabled, and no attributes
abbrev pub has_no_attributes : Collected → Bool
has_no_attributes c = is_empty_of c.attrs c.false_cfg

-- x, unless b
abbrev pub unless : {X : Type 0} → Bool → X → List X
unless true x = []
unless false x = x ∷ []

abbrev pub some_unless : {X : Type 0} → Bool → X → Option X
some_unless true x = None
some_unless false x = Some x

-- the values that are not enabled and empty
abbrev pub column_of : List Collected → List Collected
column_of [] = []
column_of (c ∷ cs) = unless (has_no_attributes c) c ++ column_of cs

-- the place of each value in a column that has k others first
abbrev pub places_from : ℕ → List Collected → List (Option ℕ)
places_from k [] = []
places_from k (c ∷ cs) = some_unless (has_no_attributes c) k ∷ places_from (k + length (unless (has_no_attributes c) c)) cs

-- what a stored number stands for
abbrev pub plain_place : ℕ → Option ℕ
plain_place i = if eqb i 4294967295 then None else Some i

-- the value at a place
abbrev pub stored_at : List Collected → Option ℕ → Option Collected
stored_at column None = None
stored_at column (Some k) = slice_get column k

abbrev pub or_no_attrs : Option Collected → Collected
or_no_attrs None = no_attrs
or_no_attrs (Some c) = c

abbrev pub attrs_stored : List Collected → Option ℕ → Collected
attrs_stored column p = or_no_attrs (stored_at column p)
