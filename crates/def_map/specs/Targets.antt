-- What an import leads to.
use Rattle.std.specs.Prelude.{◌≡◌, ◌≢◌, ◌↔◌, ◌++◌, ℕ, Bool, List, [], Option, Some, None, option_map, option_and_then, slice_get, if◌then◌else◌, AllPairs, Contains}
use Rattle.std.specs.Hash as fed
use Rattle.std.specs.Option.{option_map_or}
use Rattle.def_map.specs.declared.facts as code
use Rattle.def_map.specs.declared.facts.Fact.TheVariants.{Stands, Gives}
use Rattle.def_map.specs.declared.facts.Thing.TheVariants as loop
use Rattle.def_map.specs.declared.rows.ItemKey.{ItemKey}
use Rattle.def_map.specs.declared.targets.Target.{Target}
use Rattle.def_map.specs.declared.targets.Target.TheVariants.{Module, Item, Unseen}
use Rattle.def_map.specs.contracts.targets.TargetPartialEq.TheImpl as targets
use Rattle.def_map.specs.Crates.{Crate, Thing, a_module, an_item, a_scope, unseen}
use Rattle.def_map.specs.Found.{lead_by, lead_for}
use Rattle.def_map.specs.Verdicts.{LeadsTo}

abbrev pub item_target : ItemKey → Target
item_target key = Item (record { 0 = key.at }) key.id

-- a thing by where it stands; an enum or a trait is an item
abbrev pub target_of : Thing ItemKey → Target
target_of (a_module m) = Module (record { 0 = m })
target_of (an_item key) = item_target key
target_of (a_scope key) = item_target key
target_of unseen = Unseen

-- all that an import leads to, each once
pub record AreTargets {N : Type 0} (c : Crate N ItemKey) (i : ℕ) (targets : List Target) : Type 0 where
  pub all : (x : Target) → Contains targets x ↔ ((t : Thing ItemKey) × LeadsTo c i t × (target_of t ≡ x))
  pub once : AllPairs (λ x y. x ≢ y) targets

-- ---- how they are found

abbrev pub target_eq : Target → Target → Bool
target_eq = targets.ghosts.eq

-- what a target is hashed by
abbrev pub target_writes : Target → fed.HashWrites
target_writes (Module m) = fed.usize m.0
target_writes (Item m a) = fed.usize m.0 ++ fed.u16 a.hash ++ fed.u32 a.number
target_writes Unseen = []

abbrev pub fact_thing : code.Fact.Fact → Option code.Thing.Thing
fact_thing (Stands i k thing) = Some thing
fact_thing (Gives i ns thing v) = Some thing
fact_thing _ = None

-- the thing to which an import leads by a fact
abbrev pub led_thing : code.ImportTable.ImportTable → ℕ → code.Fact.Fact → Option code.Thing.Thing
led_thing t i f = if (lead_for i (lead_by t f)).leads then fact_thing f else None

-- what stands behind a thing, by the items of numbers
abbrev pub target_by : List ItemKey → code.Thing.Thing → Target
target_by items (loop.Module m) = Module (record { 0 = m })
target_by items (loop.Item x) = option_map_or item_target (slice_get items x) Unseen
target_by items (loop.Scope x) = option_map_or item_target (slice_get items x) Unseen
target_by items loop.Unseen = Unseen

abbrev pub fact_target : code.ImportTable.ImportTable → List ItemKey → ℕ → code.Fact.Fact → Option Target
fact_target t items i f = option_map (target_by items) (led_thing t i f)

-- and where it stands at a place
abbrev pub place_target : code.ImportTable.ImportTable → List ItemKey → List code.Fact.Fact → ℕ → ℕ → Option Target
place_target t items facts i place = option_and_then (fact_target t items i) (slice_get facts place)

-- all to which these facts say that an import leads, each once
pub record AreTargetsBy (t : code.ImportTable.ImportTable) (items : List ItemKey) (facts : List code.Fact.Fact) (i : ℕ) (targets : List Target) : Type 0 where
  pub all : (x : Target) → Contains targets x ↔ ((f : code.Fact.Fact) × Contains facts f × (fact_target t items i f ≡ Some x))
  pub once : AllPairs (λ x y. x ≢ y) targets
