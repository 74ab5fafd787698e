-- What a reading function answers beside what is read.
use Rattle.std.specs.Prelude.{◌≡◌, List, [], ℕ, Bool, true, false, ◌&&◌, ◌||◌, not, map, filter, Option, Some, option_map, option_copied, Result, Ok, Err, MatchResult, String, string_bytes}
use Rattle.std.specs.{BTreeMap.BTreeMap, List.list_any}
use Rattle.std.specs.declared.alloc.Global.{Global}
use Rattle.toml.specs.{Data.Members, View.table_view}
use Rattle.toml.specs.declared.value.Value.{Value}
use Rattle.cargo_manifest.specs.declared.dependencies.Section.{Section}
use Rattle.cargo_manifest.specs.declared.package_fields.Fields.{Fields}
use Rattle.cargo_manifest.specs.Dependencies.{SectionPlace}
use Rattle.cargo_manifest.specs.Features.{FeatureNode, is_text_among}
use Rattle.cargo_manifest.specs.Roots.{PackageFields}
use denote.Ref.{Bor}
use Rattle.cargo_manifest.specs.declared.enabled.{Node.Node, Step.Step}
use Rattle.cargo_manifest.specs.declared.enabled.FeatureError.{FeatureError}
use Rattle.cargo_manifest.specs.declared.enabled.FeatureError.TheVariants as feature_error
use Rattle.cargo_manifest.specs.declared.error.Expected.{Expected}
use Rattle.cargo_manifest.specs.declared.error.ManifestError.{ManifestError}
use Rattle.cargo_manifest.specs.declared.error.ManifestError.TheVariants.{NotToml, WorkspaceNotToml, NoPackage, WrongType, OutOfMemory}
use Rattle.cargo_manifest.specs.Readings.{Refusal, no_toml, no_workspace_toml, no_package, misfit, refusal_behind}

-- whether an error is of the manifest, and not of memory
abbrev pub is_refusal : ManifestError → Bool
is_refusal OutOfMemory = false
is_refusal e = true

-- the refusal that it tells
abbrev pub told_refusal : ManifestError → Refusal
told_refusal (NotToml e) = no_toml
told_refusal (WorkspaceNotToml e) = no_workspace_toml
told_refusal NoPackage = no_package
told_refusal (WrongType keys expected) = misfit (string_bytes keys) expected
told_refusal OutOfMemory = no_toml

-- the error tells why the reading is refused, or memory ran out
abbrev pub Refuses : {A : Type 0} → Result A Refusal → ManifestError → Type 0
Refuses reading e = is_refusal e ≡ true → reading ≡ Err (told_refusal e)

-- the answer is what is read, or the error tells why it is refused, or memory ran out
abbrev pub ReadsAs : {T A : Type 0} → (T → A) → Result T ManifestError → Result A Refusal → Type 0
ReadsAs view r reading = MatchResult r (λ t. reading ≡ Ok (view t)) (Refuses reading)

-- it tells that the value itself is not what it has to be
abbrev pub IsMisfit : Expected → ManifestError → Type 0
IsMisfit expected e = (is_refusal e ≡ true) × (told_refusal e ≡ misfit [] expected)

-- if the second is of the manifest, it is the first, told of the table that has the value at this key
abbrev pub IsToldBehind : List ℕ → ManifestError → ManifestError → Type 0
IsToldBehind key e f = is_refusal f ≡ true → (is_refusal e ≡ true) × (told_refusal f ≡ refusal_behind key (told_refusal e))

abbrev pub IsErrOnly : {T : Type 0} → (ManifestError → Type 0) → Result T ManifestError → Type 0
IsErrOnly P (Ok t) = ⊥
IsErrOnly P (Err e) = P e

-- what was read of a value, or its error told of the table that has it at this key
abbrev pub IsReadBehind : {T : Type 0} → List ℕ → Result T ManifestError → Result T ManifestError → Type 0
IsReadBehind key (Ok t) r = r ≡ Ok t
IsReadBehind key (Err e) r = IsErrOnly (IsToldBehind key e) r

-- the workspace's table, if it is given
abbrev pub workspace_view : Option (Bor (BTreeMap (String Global) Value)) → Option Members
workspace_view workspace = option_map (λ table. table_view table.now) workspace

abbrev pub section_view : Section → SectionPlace
section_view s = record { workspace = workspace_view s.workspace; kind = s.kind; target = option_copied s.target }

abbrev pub package_fields_view : Fields → PackageFields
package_fields_view p = record { name = p.name.now; edition = p.edition; autolib = p.autolib; autobins = p.autobins }

-- ---- which features are enabled

abbrev pub feature_node_view : Node → FeatureNode
feature_node_view n = record { name = n.name.now; enables = map (λ name. name.now) n.enables.items }

-- a feature and whether it is enabled so far
pub record FeatureStep : Type 0 where
  pub node : FeatureNode
  pub is_enabled : Bool

abbrev pub feature_step_view : Step → FeatureStep
feature_step_view s = record { node = feature_node_view s.node.now; is_enabled = s.is_enabled }

-- whether one that is enabled enables a name
abbrev pub is_enabled_by : List FeatureStep → List ℕ → Bool
is_enabled_by ss name = list_any (λ s. s.is_enabled && is_text_among s.node.enables name) ss

-- each with those that are enabled one step on
abbrev pub step_after : List FeatureStep → FeatureStep → FeatureStep
step_after ss s = record { node = s.node; is_enabled = s.is_enabled || is_enabled_by ss s.node.name }

-- each as its name is
abbrev pub step_marked : (List ℕ → Bool) → FeatureNode → FeatureStep
step_marked is_enabled n = record { node = n; is_enabled = is_enabled n.name }

-- whether one is enabled one step on that is not so far
abbrev pub is_new : List FeatureStep → FeatureStep → Bool
is_new ss s = not s.is_enabled && is_enabled_by ss s.node.name

-- the names of those that are enabled
abbrev pub step_names : List FeatureStep → List (List ℕ)
step_names ss = map (λ s. s.node.name) (filter (λ s. s.is_enabled) ss)

-- the error tells this name, or memory ran out
abbrev pub IsUnknown : FeatureError → Option (List ℕ) → Type 0
IsUnknown (feature_error.Unknown name) unknown = unknown ≡ Some (string_bytes name)
IsUnknown feature_error.OutOfMemory unknown = Unit {0}
