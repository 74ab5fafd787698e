-- The loop's table and seeds for a crate by numbers, and what its facts say of the crate.
use Rattle.std.specs.Prelude.{◌≡◌, ◌↔◌, ℕ, true, List, Some, None, slice_get, map, Contains}
use Rattle.def_map.specs.declared.kinds.{Namespace.Namespace, Visibility.Visibility}
use Rattle.def_map.specs.declared.kinds.PathStart.TheVariants.{Plain}
use Rattle.def_map.specs.declared.facts as code
use Rattle.def_map.specs.declared.facts.Fact.TheVariants.{Names, EveryName, Stands, Gives, Copies}
use Rattle.def_map.specs.declared.facts.ImportName.TheVariants.{Glob, Named, Unnamed}
use Rattle.def_map.specs.declared.facts.Thing.TheVariants.{Module as module_thing, Item, Scope, Unseen}
use Rattle.def_map.specs.Crates.{Crate, Thing, a_module, an_item, a_scope, unseen, NameDeclaration, Binding, a_glob, a_name, underscore, nameless, PathImport, Veil, Hides}
use Rattle.def_map.specs.Facts.{Fact, names, stands, gives, reading, IsImport, import_start, may_leave, IsElsewhere, IsGlobCopy, Derives}
use Rattle.def_map.specs.Closure.{hides, Closes}

-- ---- from the code's values

abbrev pub thing_of : code.Thing.Thing → Thing ℕ
thing_of (module_thing m) = a_module m
thing_of (Item x) = an_item x
thing_of (Scope x) = a_scope x
thing_of Unseen = unseen

abbrev pub binding_of : code.ImportName.ImportName → Binding ℕ
binding_of Glob = a_glob
binding_of (Named n) = a_name n
binding_of Unnamed = underscore

-- the loop does not see where a path begins
abbrev pub table_import : code.Import.Import → PathImport ℕ
table_import w = record { parent = w.home; start = Plain; names = w.path.items; binding = binding_of w.name; of_types = w.types_alone; visibility = w.visibility }

-- ---- to the code's values

abbrev pub loop_thing : Thing ℕ → code.Thing.Thing
loop_thing (a_module m) = module_thing m
loop_thing (an_item x) = Item x
loop_thing (a_scope x) = Scope x
loop_thing unseen = Unseen

abbrev pub loop_binding : Binding ℕ → Binding ℕ
loop_binding a_glob = a_glob
loop_binding (a_name n) = a_name n
loop_binding underscore = underscore
loop_binding nameless = underscore

abbrev pub loop_import : PathImport ℕ → PathImport ℕ
loop_import u = record { parent = u.parent; start = Plain; names = u.names; binding = loop_binding u.binding; of_types = u.of_types; visibility = u.visibility }

abbrev pub loop_fact : Fact ℕ ℕ → code.Fact.Fact
loop_fact (names m ns None t v) = EveryName m ns v
loop_fact (names m ns (Some n) t v) = Names m ns n (loop_thing t) v
loop_fact (stands i k t) = Stands i k (loop_thing t)
loop_fact (gives i ns t v) = Gives i ns (loop_thing t) v

module _ (c : Crate ℕ ℕ) where
  -- rules 1 to 4, which have no facts in front of them
  pub data Begins : Fact ℕ ℕ → Type 0 where
    by_declaration : (x : NameDeclaration ℕ ℕ) → Contains c.declarations x → Begins (names x.parent x.namespace (Some x.name) x.thing x.visibility)
    by_veil : (x : Veil) → Contains c.veils x → Begins (names x.parent x.namespace None unseen x.visibility)
    by_start : {i m : ℕ} (u : PathImport ℕ) → IsImport c i u → import_start c u ≡ Some m → Begins (stands i 0 (a_module m))
    by_first : {ns : Namespace} {n : ℕ} {t : Thing ℕ} {v : Visibility} {f : Fact ℕ ℕ} (i : ℕ) (u : PathImport ℕ) → IsImport c i u → may_leave u.start ≡ true
        → slice_get u.names 0 ≡ Some n → IsElsewhere c u n ns t v → ((m : ℕ) → import_start c u ≡ Some m → Hides c m ns n → ⊥) → reading i u 0 ns t v ≡ Some f → Begins f

  -- the table is that of the crate
  pub record IsLowered (t : code.ImportTable.ImportTable) : Type 0 where
    pub parents : t.parents.items ≡ c.parents
    pub imports : map table_import t.imports.items ≡ map loop_import c.imports
    pub declared : (m : ℕ) (ns : Namespace) (n : ℕ) → (hides t m ns n ≡ true) ↔ Hides c m ns n

  -- the seeds are what rules 1 to 4 give
  pub record AreSeeds (seeds : List code.Fact.Fact) : Type 0 where
    pub begin : (f : code.Fact.Fact) → Contains seeds f → (g : Fact ℕ ℕ) × Begins g × (f ≡ loop_fact g)
    pub whole : (g : Fact ℕ ℕ) → Begins g → Contains seeds (loop_fact g)

  -- what a fact of the loop says of the crate
  abbrev pub SaysOf : code.Fact.Fact → Type 0
  SaysOf (Names m ns n t v) = Derives c (names m ns (Some n) (thing_of t) v)
  SaysOf (EveryName m ns v) = Derives c (names m ns None unseen v)
  SaysOf (Stands i k t) = Derives c (stands i k (thing_of t))
  SaysOf (Gives i ns t v) = Derives c (gives i ns (thing_of t) v)
  SaysOf (Copies from into v) = IsGlobCopy c from into v

-- what the loop finds is what the rules derive
abbrev pub ClosesAlike : Crate ℕ ℕ → code.ImportTable.ImportTable → List code.Fact.Fact → Type 0
ClosesAlike c t seeds = IsLowered c t → AreSeeds c seeds → (f : code.Fact.Fact) → Closes t seeds f ↔ SaysOf c f
