-- The features of a package, and which of them are enabled.
use Rattle.std.specs.Prelude.{ℕ, zero, suc, ◌==◌, ◌&&◌, ◌||◌, not, if◌then◌else◌, List, [], ◌∷◌, ◌++◌, length, map, filter, find, fold, codes, bytes_eq, nat_eq, Bool, Option, Some, None, Result, Ok, Err}
use Rattle.std.specs.List.{list_any, filter_map, starts_with, before_first}
use Rattle.toml.specs.Data.{Data, Members}
use Rattle.cargo_manifest.specs.Dependencies.{KnownCrate, is_optional_key}
use Rattle.cargo_manifest.specs.Readings.{Refusal, table_members, texts_value}

infixl 10 ◌>>=◌
abbrev ◌>>=◌ : {A B : Type 0} → Result A Refusal → (A → Result B Refusal) → Result B Refusal
(Ok a) >>= f = f a
(Err refusal) >>= f = Err refusal

-- a feature and what it enables, as the manifest writes it
pub record FeatureEntries : Type 0 where
  pub name : List ℕ
  pub entries : List (List ℕ)

abbrev pub feature_at : List ℕ → Data → Result (List FeatureEntries) Refusal
feature_at key d = do
  entries ← texts_value d
  Ok (record { name = key; entries = entries } ∷ [])

-- those that are written, by their names
abbrev pub written_features : Members → Result (List FeatureEntries) Refusal
written_features ms = table_members (codes "features") feature_at ms

abbrev pub is_text_among : List (List ℕ) → List ℕ → Bool
is_text_among texts text = list_any (λ t. bytes_eq t text) texts

abbrev pub has_feature : List FeatureEntries → List ℕ → Bool
has_feature fs name = list_any (λ f. bytes_eq f.name name) fs

-- how a feature enables a dependency alone
abbrev pub dependency_entry : List ℕ → List ℕ
dependency_entry key = codes "dep:" ++ key

abbrev pub has_entry : List FeatureEntries → List ℕ → Bool
has_entry fs entry = list_any (λ f. is_text_among f.entries entry) fs

-- an optional dependency is a feature too, unless one has its name or enables it alone
abbrev pub is_implied : List FeatureEntries → KnownCrate → Bool
is_implied fs d = d.is_optional && (not (has_feature fs d.key) && not (has_entry fs (dependency_entry d.key)))

abbrev pub with_implied : List FeatureEntries → KnownCrate → List FeatureEntries
with_implied fs d = if is_implied fs d then fs ++ (record { name = d.key; entries = dependency_entry d.key ∷ [] }) ∷ [] else fs

-- the written ones, and then those of dependencies, in their order
abbrev pub all_features : List FeatureEntries → List KnownCrate → List FeatureEntries
all_features fs ds = fold with_implied fs ds

-- ---- which are enabled

-- which are asked for: all, or some by their names and the default ones
pub record AskedFeatures : Type 0 where
  pub all : Bool
  pub no_default : Bool
  pub named : List (List ℕ)

abbrev pub is_asked : AskedFeatures → List ℕ → Bool
is_asked c name = c.all || (is_text_among c.named name || (not c.no_default && bytes_eq name (codes "default")))

abbrev pub is_slash : ℕ → Bool
is_slash b = b == 47

-- what an entry enables of the package's own features: a feature of its name; `x/y` the feature of `x`, if that is an optional
-- dependency, whose key holds no question mark; and `dep:x` none
abbrev pub entry_feature : List KnownCrate → List ℕ → Option (List ℕ)
entry_feature ds entry =
    if list_any is_slash entry then (if is_optional_key ds (before_first is_slash entry) then Some (before_first is_slash entry) else None)
    else if starts_with nat_eq entry (codes "dep:") then None
    else Some entry

-- a feature and the names that it enables
pub record FeatureNode : Type 0 where
  pub name : List ℕ
  pub enables : List (List ℕ)

abbrev pub feature_node : List KnownCrate → FeatureEntries → FeatureNode
feature_node ds f = record { name = f.name; enables = filter_map (entry_feature ds) f.entries }

-- whether a name is asked for, or enabled by a feature that is, in so many steps at most
module _ (ns : List FeatureNode) (c : AskedFeatures) where
  abbrev pub is_enabled_within : ℕ → List ℕ → Bool
  is_enabled_within zero name = is_asked c name
  is_enabled_within (suc n) name = is_enabled_within n name || list_any (λ f. is_enabled_within n f.name && is_text_among f.enables name) ns

-- those of some features that are enabled, in their order: more steps than there are features bring none
abbrev pub enabled_nodes : List FeatureNode → AskedFeatures → List FeatureNode
enabled_nodes ns c = filter (λ f. is_enabled_within ns c (length ns) f.name) ns

abbrev pub enabled_features : List FeatureEntries → List KnownCrate → AskedFeatures → List (List ℕ)
enabled_features fs ds c = map (λ f. f.name) (enabled_nodes (map (feature_node ds) fs) c)

-- the first of some names that is none of a feature
abbrev pub unknown_name : List FeatureEntries → List (List ℕ) → Option (List ℕ)
unknown_name fs names = find (λ name. not (has_feature fs name)) names
