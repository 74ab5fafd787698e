-- A crate as plain data, over the names and the identities of items that are taken.
use Rattle.std.specs.Prelude.{◌≡◌, ◌==◌, ℕ, zero, suc, Bool, true, false, List, Option, Some, slice_get, if◌then◌else◌, Contains}
use Rattle.std.specs.Option.{option_and_then, option_map_or, option_flatten}
use Rattle.def_map.specs.declared.kinds.Namespace.{Namespace}
use Rattle.def_map.specs.declared.kinds.PathStart.{PathStart}
use Rattle.def_map.specs.declared.kinds.Visibility.{Visibility}
use Rattle.def_map.specs.declared.kinds.Visibility.TheVariants.{Public, Module}

-- what a name stands for: a module by its number, an item, a scope whose inside is not seen (an enum, a trait), or what is not seen
pub data Thing (I : Type 0) : Type 0 where
  a_module : ℕ → Thing I
  an_item : I → Thing I
  a_scope : I → Thing I
  unseen : Thing I

-- what a module declares; what is not sure may be missing
pub record NameDeclaration (N I : Type 0) : Type 0 where
  pub parent : ℕ
  pub namespace : Namespace
  pub name : N
  pub thing : Thing I
  pub visibility : Visibility
  pub is_sure : Bool

-- what an import binds: all names, one, none (`_`), or it has no name (`use super`)
pub data Binding (N : Type 0) : Type 0 where
  a_glob : Binding N
  a_name : N → Binding N
  underscore : Binding N
  nameless : Binding N

-- an import: its module, its path, and whether it is of types alone (`{self}`)
pub record PathImport (N : Type 0) : Type 0 where
  pub parent : ℕ
  pub start : PathStart
  pub names : List N
  pub binding : Binding N
  pub of_types : Bool
  pub visibility : Visibility

-- a module may have names that are not seen
pub record Veil : Type 0 where
  pub parent : ℕ
  pub namespace : Namespace
  pub visibility : Visibility

-- a crate; its modules, imports and so on are known by their places in the lists, the root module by 0
pub record Crate (N I : Type 0) : Type 0 where
  -- the parent of each module, which stands before it
  pub parents : List (Option ℕ)
  pub declarations : List (NameDeclaration N I)
  pub imports : List (PathImport N)
  pub veils : List Veil
  -- each `macro_rules`
  pub macro_rules : List (N × I)
  -- what names of other crates, of preludes and built-in ones stand for; None where any name may be one
  pub others : Option (List (N × Thing I))
  pub is_2015 : Bool

module _ (parents : List (Option ℕ)) where
  abbrev pub parent_of : ℕ → Option ℕ
  parent_of m = option_flatten (slice_get parents m)

  -- the module that stands so many modules above
  abbrev pub module_above : ℕ → ℕ → Option ℕ
  module_above zero m = Some m
  module_above (suc count) m = option_and_then (module_above count) (parent_of m)

  -- whether a module is another or in it, by at most so many steps up
  abbrev pub is_within_by : ℕ → ℕ → ℕ → Bool
  is_within_by zero m other = m == other
  is_within_by (suc steps) m other = if m == other then true else option_map_or (λ parent. is_within_by steps parent other) (parent_of m) false

  -- a parent stands before its modules, so there are no more steps
  abbrev pub is_module_within : ℕ → ℕ → Bool
  is_module_within m other = is_within_by m m other

  -- whether what is so visible is seen in a module
  abbrev pub module_sees : ℕ → Visibility → Bool
  module_sees m Public = true
  module_sees m (Module other) = is_module_within m other

  -- the smaller of two visibilities
  abbrev pub narrower : Visibility → Visibility → Visibility
  narrower Public other = other
  narrower (Module m) Public = Module m
  narrower (Module m) (Module other) = if is_module_within m other then Module m else Module other

module _ {N I : Type 0} (c : Crate N I) where
  -- a module declares a name in a namespace for sure
  abbrev pub Hides : ℕ → Namespace → N → Type 0
  Hides m ns n = (x : NameDeclaration N I) × Contains c.declarations x × (x.parent ≡ m) × (x.namespace ≡ ns) × (x.name ≡ n) × (x.is_sure ≡ true)
