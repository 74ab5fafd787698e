-- What the functions of the loop promise each other.
use Rattle.std.specs.Prelude.{◌≡◌, ◌≢◌, ◌<◌, ◌≤◌, ◌||◌, ℕ, Bool, true, false, List, [], ◌∷◌, ◌++◌, length, Option, Some, None, slice_get, if◌then◌else◌, All, AllPairs, Contains}
use Rattle.std.specs.HashMap.{get}
use Rattle.def_map.specs.declared.{closure.ClosureError.ClosureError, facts.Fact.Fact, facts.ImportTable.ImportTable, fact_index.FactIndex.FactIndex, fact_index.Key.Key, kinds.Namespace.Namespace}
use Rattle.def_map.specs.declared.closure.ClosureError.TheVariants.{OutOfMemory, TooManyFacts, TooManyJoins}
use Rattle.def_map.specs.declared.facts.Fact.TheVariants.{Names, EveryName}
use Rattle.def_map.specs.contracts.fact_index.KeyPartialEq.TheImpl as keys
use Rattle.def_map.specs.Closure.{follows, concludes, Closes, AreClosed, own_keys, is_key, most_facts}

-- ---- facts that are found

-- a fact that names comes first in what two facts conclude
abbrev pub is_naming : Fact → Bool
is_naming (Names home ns name thing v) = true
is_naming (EveryName home ns v) = true
is_naming _ = false

unfoldable pub meets : ImportTable → Fact → Fact → Option Fact
meets t f g = if is_naming f then concludes t f g else concludes t g f

abbrev pub met_at : ImportTable → Fact → Option Fact → Option Fact
met_at t f None = None
met_at t f (Some g) = meets t f g

-- new has what old had, in its order, and the fact, if there is one
pub record PutsIf (fact : Option Fact) (old new : List Fact) : Type 0 where
  pub more : List Fact
  pub grows : new ≡ old ++ more
  pub only : All (λ f. fact ≡ Some f) more

abbrev pub AnswersFact : Option Fact → List Fact → Type 0
AnswersFact fact facts = (f : Fact) → fact ≡ Some f → Contains facts f

abbrev pub StaysFew : List Fact → List Fact → Type 0
StaysFew old new = length old ≤ most_facts → length new ≤ most_facts

-- new has what old had, in its order, and all of it follows if that of old does and this fact
pub record Reaches (t : ImportTable) (f : Fact) (old new : List Fact) : Type 0 where
  pub more : List Fact
  pub grows : new ≡ old ++ more
  pub sound : (seeds : List Fact) → AreClosed t seeds old → Closes t seeds f → AreClosed t seeds new

-- the same of seeds
pub record Seeds (seeds old new : List Fact) : Type 0 where
  pub more : List Fact
  pub grows : new ≡ old ++ more
  pub only : All (Contains seeds) more

-- what follows from a fact in a namespace is there
abbrev pub IsFactFollowed : ImportTable → Fact → List Fact → Namespace → Type 0
IsFactFollowed t f facts ns = AnswersFact (follows t ns f) facts

-- what follows from a fact and from the one that stands at a place of old is in new
abbrev pub IsMet : ImportTable → Fact → List Fact → List Fact → ℕ → Type 0
IsMet t f old new place = (g : Fact) → slice_get old place ≡ Some g → AnswersFact (meets t f g) new

-- all that follows from a fact and from those at these places
pub record IsApplied (t : ImportTable) (f : Fact) (namespaces : List Namespace) (ps qs : List ℕ) (old new : List Fact) : Type 0 where
  pub alone : All (IsFactFollowed t f new) namespaces
  pub first : All (IsMet t f old new) ps
  pub second : All (IsMet t f old new) qs

-- when a refusal comes
abbrev pub IsFault : List Fact → ClosureError → Type 0
IsFault facts OutOfMemory = Unit {0}
IsFault facts TooManyFacts = (most_facts < length facts) × AllPairs (λ f g. f ≢ g) facts
IsFault facts TooManyJoins = ⊥

-- ---- the index

abbrev pub once : {X : Type 0} → Key → Option Key → X → List X
once key own x = if is_key key own then x ∷ [] else []

abbrev pub placed_items : {V : Type 0} → (V → List ℕ) → Option V → List ℕ
placed_items items None = []
placed_items items (Some v) = items v

-- whether a fact stands at a key
unfoldable pub path_stands_at : ImportTable → Option Key → Fact → Bool
path_stands_at t None f = false
path_stands_at t (Some key) f = is_key key (own_keys t f).0 || is_key key (own_keys t f).1

-- the places at a key
abbrev pub places_at : FactIndex → Key → List ℕ
places_at index key = placed_items (λ v. v.items) (get keys.ghosts.eq index.lists key)

abbrev pub fact_list : (Key → List ℕ) → Option Key → List ℕ
fact_list places None = []
fact_list places (Some key) = places key

abbrev pub fact_places : FactIndex → Option Key → List ℕ
fact_places index key = fact_list (places_at index) key

-- a fact stands at one of these places
abbrev pub PlacedFacts : List Fact → List ℕ → Fact → Type 0
PlacedFacts facts places g = (p : ℕ) × Contains places p × (slice_get facts p ≡ Some g)

-- each fact that stands at a key is found there
abbrev pub IsIndexed : ImportTable → List Fact → FactIndex → Type 0
IsIndexed t facts index = (key : Key) (g : Fact) → Contains facts g → path_stands_at t (Some key) g ≡ true → PlacedFacts facts (places_at index key) g

-- a place is put at a key
abbrev pub PutsFact : Option Key → ℕ → FactIndex → FactIndex → Type 0
PutsFact own place old new = (key : Key) → places_at new key ≡ places_at old key ++ once key own place

-- and at two
abbrev pub Enters : Option Key × Option Key → ℕ → FactIndex → FactIndex → Type 0
Enters own place old new = (key : Key) → places_at new key ≡ places_at old key ++ once key own.0 place ++ once key own.1 place
