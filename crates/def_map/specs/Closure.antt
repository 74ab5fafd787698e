-- What follows from facts by a table, over numbers: rules 5 to 10 of a crate's names, which have facts in front of them.
use Rattle.std.specs.Prelude.{◌≡◌, ◌≢◌, ◌<◌, ◌+◌, ◌==◌, ◌&&◌, ◌||◌, ◌^◌, ℕ, Bool, true, false, not, nat_lt, List, [], ◌∷◌, ◌++◌, length, Option, Some, None, slice_get, option_and_then, if◌then◌else◌, All, AllPairs, Contains, sum_by}
use Rattle.std.specs.List.{list_any}
use Rattle.def_map.specs.Crates.{module_sees, narrower}
use Rattle.def_map.specs.declared.{facts.Declared.Declared, facts.Fact.Fact, facts.Import.Import, facts.ImportName.ImportName, facts.ImportTable.ImportTable, kinds.Namespace.Namespace, facts.Thing.Thing, kinds.Visibility.Visibility}
use Rattle.def_map.specs.declared.facts.Fact.TheVariants.{Names, EveryName, Stands, Gives, Copies}
use Rattle.def_map.specs.declared.facts.ImportName.TheVariants.{Glob, Named}
use Rattle.def_map.specs.declared.kinds.Namespace.TheVariants.{Types, Values, Macros}
use Rattle.def_map.specs.declared.facts.Thing.TheVariants.{Module as module_thing, Item, Scope, Unseen}
use Rattle.def_map.specs.declared.kinds.Visibility.TheVariants.{Public}
use Rattle.def_map.specs.declared.fact_index.Key.{Key}
use Rattle.def_map.specs.declared.fact_index.Key.TheVariants.{Name, AnyName, Veil, Step, AnyStep, GlobOf, EndOf}

-- ---- words

abbrev pub same_namespace : Namespace → Namespace → Bool
same_namespace Types Types = true
same_namespace Values Values = true
same_namespace Macros Macros = true
same_namespace _ _ = false

abbrev pub are_types : Namespace → Bool
are_types Types = true
are_types _ = false

abbrev pub are_macros : Namespace → Bool
are_macros Macros = true
are_macros _ = false

abbrev pub is_glob_name : ImportName → Bool
is_glob_name Glob = true
is_glob_name _ = false

-- whether a module declares a name for sure
abbrev pub same_declared : Declared → Declared → Bool
same_declared a b = (a.home == b.home) && (same_namespace a.namespace b.namespace && (a.name == b.name))

unfoldable pub hides : ImportTable → ℕ → Namespace → ℕ → Bool
hides t home ns name = list_any (same_declared (record { home = home; namespace = ns; name = name })) t.declared.keys

-- ---- what follows from one fact, in a namespace

-- the name of a path behind k others stands for a thing: 5, the path goes on there, or 6, the import gives it
abbrev pub passed_name : Import → ℕ → ℕ → Namespace → Thing → Visibility → Option Fact
passed_name import i k ns thing v =
    if is_glob_name import.name || nat_lt (k + 1) (length import.path.items)
    then (if are_types ns then Some (Stands i (k + 1) thing) else None)
    else (if are_types ns || not import.types_alone then Some (Gives i ns thing v) else None)

-- 10, a path through what is not seen leads to what is unseen
abbrev pub way_on : Import → ℕ → ℕ → Namespace → Thing → Option Fact
way_on import i k ns (Scope scope) = passed_name import i k ns Unseen Public
way_on import i k ns Unseen = passed_name import i k ns Unseen Public
way_on import i k ns _ = None

-- 7, a glob of a module copies what that names, and of the root also what macros may export there; 9, one of what is not seen is a veil
abbrev pub glob_of : Import → Namespace → Thing → Option Fact
glob_of import ns (module_thing at) = if are_types ns then Some (Copies at import.home import.visibility) else (if are_macros ns && (at == 0) then Some (EveryName import.home ns import.visibility) else None)
glob_of import ns (Item item) = None
glob_of import ns _ = Some (EveryName import.home ns import.visibility)

-- a path is at its end; one with no names gives the module where it begins
abbrev pub path_end : Import → ℕ → ℕ → Namespace → Thing → Option Fact
path_end import i k ns thing =
    if is_glob_name import.name then glob_of import ns thing else (if (k == 0) && are_types ns then Some (Gives i Types thing Public) else None)

-- 8, what a named import gives, its module names
abbrev pub named_fact : ImportTable → Import → ImportName → Namespace → Thing → Visibility → Option Fact
named_fact t import (Named name) ns thing v = Some (Names import.home ns name thing (narrower t.parents.items v import.visibility))
named_fact t import _ ns thing v = None

abbrev pub stand_of : Import → ℕ → ℕ → Namespace → Thing → Option Fact
stand_of import i k ns thing =
    if nat_lt k (length import.path.items) then way_on import i k ns thing
    else (if k == length import.path.items then path_end import i k ns thing else None)

unfoldable pub follows : ImportTable → Namespace → Fact → Option Fact
follows t ns (Stands i k thing) = option_and_then (λ import. stand_of import i k ns thing) (slice_get t.imports.items i)
follows t ns (Gives i own thing v) =
    option_and_then (λ import. if same_namespace ns own then named_fact t import import.name ns thing v else None) (slice_get t.imports.items i)
follows t ns _ = None

-- ---- what follows from two facts: one names, and the other stands in a module or copies from it

-- the name of a path behind k others stands for a thing, if the import and this name pass a test
abbrev pub step_by : ImportTable → ℕ → ℕ → (Import → ℕ → Bool) → Namespace → Thing → Visibility → Option Fact
step_by t i k test ns thing v =
    option_and_then (λ import. option_and_then (λ wanted. if test import wanted then passed_name import i k ns thing v else None) (slice_get import.path.items k)) (slice_get t.imports.items i)

-- 5 and 6, where a path stands in the module of a name that the module of its import module_sees
abbrev pub step_by_name : ImportTable → ℕ → ℕ → Namespace → ℕ → Thing → Visibility → Option Fact
step_by_name t i k ns name thing v = step_by t i k (λ import wanted. (wanted == name) && module_sees t.parents.items import.home v) ns thing v

-- a veil there stands for each name but those that its module declares for sure
abbrev pub step_by_veil : ImportTable → ℕ → ℕ → ℕ → Namespace → Visibility → Option Fact
step_by_veil t i k home ns v = step_by t i k (λ import wanted. module_sees t.parents.items import.home v && not (hides t home ns wanted)) ns Unseen v

abbrev pub step_of : ImportTable → ℕ → ℕ → ℕ → Fact → Option Fact
step_of t i k at (Names home ns name thing v) = if home == at then step_by_name t i k ns name thing v else None
step_of t i k at (EveryName home ns v) = if home == at then step_by_veil t i k home ns v else None
step_of t i k at _ = None

-- 7, a glob copies what its module module_sees and does not declare for sure, at the smaller visibility
abbrev pub copy_of : ImportTable → ℕ → ℕ → Visibility → Fact → Option Fact
copy_of t from into w (Names home ns name thing v) =
    if (home == from) && module_sees t.parents.items into v && not (hides t into ns name) then Some (Names into ns name thing (narrower t.parents.items v w)) else None
copy_of t from into w (EveryName home ns v) = if (home == from) && module_sees t.parents.items into v then Some (EveryName into ns (narrower t.parents.items v w)) else None
copy_of t from into w _ = None

unfoldable pub concludes : ImportTable → Fact → Fact → Option Fact
concludes t naming (Stands i k (module_thing at)) = step_of t i k at naming
concludes t naming (Copies from into w) = copy_of t from into w naming
concludes t naming _ = None

-- ---- all that follows

pub data Closes (t : ImportTable) (seeds : List Fact) : Fact → Type 0 where
  given : (f : Fact) → Contains seeds f → Closes t seeds f
  followed : (ns : Namespace) (f g : Fact) → Closes t seeds f → follows t ns f ≡ Some g → Closes t seeds g
  concluded : (f g h : Fact) → Closes t seeds f → Closes t seeds g → concludes t f g ≡ Some h → Closes t seeds h

abbrev pub AreClosed : ImportTable → List Fact → List Fact → Type 0
AreClosed t seeds facts = All (Closes t seeds) facts

abbrev pub AreWhole : ImportTable → List Fact → List Fact → Type 0
AreWhole t seeds facts = (f : Fact) → Closes t seeds f → Contains facts f

-- ---- how many facts, and how often two of them meet

-- the name of a path behind k others
abbrev pub name_at : ImportTable → ℕ → ℕ → Option ℕ
name_at t i k = option_and_then (λ import. slice_get import.path.items k) (slice_get t.imports.items i)

abbrev pub path_keys : Option ℕ → Option Key × Option Key → (ℕ → Option Key × Option Key) → Option Key × Option Key
path_keys None end keys = end
path_keys (Some name) end keys = keys name

abbrev pub step_keys : Thing → ℕ → Option Key × Option Key
step_keys (module_thing at) name = (Some (Step at name), Some (AnyStep at))
step_keys _ name = (None, None)

-- the keys at which a fact stands: names, veils, paths that go on, globs, and what an import gives or is at its end
unfoldable pub own_keys : ImportTable → Fact → Option Key × Option Key
own_keys t (Names home ns name thing v) = (Some (Name home name), Some (AnyName home))
own_keys t (EveryName home ns v) = (Some (Veil home), Some (AnyName home))
own_keys t (Stands i k thing) = path_keys (name_at t i k) (Some (EndOf i), None) (step_keys thing)
own_keys t (Gives i ns thing v) = (Some (EndOf i), None)
own_keys t (Copies from into w) = (Some (GlobOf from), None)

-- the keys at which it meets others
unfoldable pub met_keys : ImportTable → Fact → Option Key × Option Key
met_keys t (Names home ns name thing v) = (Some (Step home name), Some (GlobOf home))
met_keys t (EveryName home ns v) = (Some (AnyStep home), Some (GlobOf home))
met_keys t (Stands i k (module_thing at)) = path_keys (name_at t i k) (None, None) (λ name. (Some (Name at name), Some (Veil at)))
met_keys t (Copies from into w) = (Some (AnyName from), None)
met_keys t _ = (None, None)

abbrev pub same_fact_key : Key → Key → Bool
same_fact_key (Name a b) (Name c d) = (a == c) && (b == d)
same_fact_key (AnyName a) (AnyName c) = a == c
same_fact_key (Veil a) (Veil c) = a == c
same_fact_key (Step a b) (Step c d) = (a == c) && (b == d)
same_fact_key (AnyStep a) (AnyStep c) = a == c
same_fact_key (GlobOf a) (GlobOf c) = a == c
same_fact_key (EndOf a) (EndOf c) = a == c
same_fact_key _ _ = false

-- how often a fact stands at a key: once, if it is one of its own
abbrev pub is_key : Key → Option Key → Bool
is_key key None = false
is_key key (Some own) = same_fact_key own key

abbrev pub once_at : Key → Option Key → ℕ
once_at key own = if is_key key own then 1 else 0

unfoldable pub times_at : ImportTable → Option Key → Fact → ℕ
times_at t None f = 0
times_at t (Some key) f = once_at key (own_keys t f).0 + once_at key (own_keys t f).1

-- how many of these facts another meets
abbrev pub meetings : ImportTable → List Fact → Fact → ℕ
meetings t facts f = sum_by (times_at t (met_keys t f).0) facts + sum_by (times_at t (met_keys t f).1) facts

-- how often two of these facts meet, the second of them behind those before
abbrev pub joins_behind : ImportTable → List Fact → List Fact → ℕ
joins_behind t before [] = 0
joins_behind t before (f ∷ facts) = meetings t before f + joins_behind t (before ++ f ∷ []) facts

abbrev pub joins : ImportTable → List Fact → ℕ
joins t facts = joins_behind t [] facts

abbrev pub most_facts : ℕ
most_facts = 2 ^ 21

abbrev pub most_joins : ℕ
most_joins = 2 ^ 23

-- different facts that all follow
pub record FoundFacts (t : ImportTable) (seeds : List Fact) : Type 0 where
  pub facts : List Fact
  pub closed : AreClosed t seeds facts
  pub different : AllPairs (λ f g. f ≢ g) facts

-- more of them than may be
abbrev pub HasTooManyFacts : ImportTable → List Fact → Type 0
HasTooManyFacts t seeds = (found : FoundFacts t seeds) × (most_facts < length found.facts)

-- which meet more often than they may
abbrev pub HasTooManyJoins : ImportTable → List Fact → Type 0
HasTooManyJoins t seeds = (found : FoundFacts t seeds) × (most_joins < joins t found.facts)
