-- The crates that a crate knows, as its manifest names them.
use Rattle.std.specs.Prelude.{ℕ, ◌==◌, ◌&&◌, if◌then◌else◌, List, [], ◌∷◌, ◌++◌, map, codes, bytes_eq, Bool, false, Option, Some, None, option_and_then, unwrap_or, Result, Ok, Err}
use Rattle.std.specs.List.{list_any}
use Rattle.toml.specs.Data.{Data, Members, get, get_member, as_str, as_table}
use Rattle.cargo_manifest.specs.declared.dependencies.DependencyKind.{DependencyKind}
use Rattle.cargo_manifest.specs.declared.dependencies.DependencyKind.TheVariants.{Normal, Development, Build}
use Rattle.cargo_manifest.specs.declared.error.Expected.TheVariants as expected
use Rattle.cargo_manifest.specs.Readings.{Refusal, misfit, value_read, table_members, text_value, flag_value, table_value}

infixl 10 ◌>>=◌
abbrev ◌>>=◌ : {A B : Type 0} → Result A Refusal → (A → Result B Refusal) → Result B Refusal
(Ok a) >>= f = f a
(Err refusal) >>= f = Err refusal

-- a key, the key as Rust has it, the package that it stands for, its kind, the text of its target, and whether it is optional
pub record KnownCrate : Type 0 where
  pub key : List ℕ
  pub name : List ℕ
  pub package_name : Option (List ℕ)
  pub kind : DependencyKind
  pub target : Option (List ℕ)
  pub is_optional : Bool

-- a name as Rust has it: `_` in the place of `-`
abbrev pub rust_name : List ℕ → List ℕ
rust_name name = map (λ b. if b == 45 then 95 else b) name

-- what `[workspace]` has at a key, if the workspace's file is given
abbrev pub workspace_value : Option Members → List ℕ → Option Data
workspace_value workspace key = option_and_then (get key) (option_and_then (get_member (codes "workspace")) workspace)

-- the package that the workspace has for a dependency
abbrev pub workspace_package : Option Members → List ℕ → Option (List ℕ)
workspace_package workspace key = option_and_then as_str (option_and_then (get (codes "package")) (option_and_then (get key) (workspace_value workspace (codes "dependencies"))))

-- where a dependency stands: beside which workspace, in a section of which kind and of which target
pub record SectionPlace : Type 0 where
  pub workspace : Option Members
  pub kind : DependencyKind
  pub target : Option (List ℕ)

abbrev pub known_crate : SectionPlace → List ℕ → Option (List ℕ) → Bool → KnownCrate
known_crate place key package_name is_optional =
    record { key = key; name = rust_name key; package_name = package_name; kind = place.kind; target = place.target; is_optional = is_optional }

-- one that is a table: with `workspace = true` its package is that of the workspace
abbrev pub detailed_crate : SectionPlace → List ℕ → Members → Result KnownCrate Refusal
detailed_crate place key ms = do
  inherits ← value_read (codes "workspace") flag_value ms
  package_name ← value_read (codes "package") text_value ms
  optional ← value_read (codes "optional") flag_value ms
  Ok (known_crate place key (if unwrap_or inherits false then workspace_package place.workspace key else package_name) (unwrap_or optional false))

-- one by its version or its table
abbrev pub dependency_by : SectionPlace → List ℕ → Option (List ℕ) → Option Members → Result KnownCrate Refusal
dependency_by place key (Some version) ms = Ok (known_crate place key None false)
dependency_by place key None (Some ms) = detailed_crate place key ms
dependency_by place key None None = Err (misfit [] expected.Dependency)

abbrev pub dependency_at : SectionPlace → List ℕ → Data → Result (List KnownCrate) Refusal
dependency_at place key d = do
  one ← dependency_by place key (as_str d) (as_table d)
  Ok (one ∷ [])

-- the sections of a table, one after the other
abbrev pub sections : Option Members → Option (List ℕ) → Members → Result (List KnownCrate) Refusal
sections workspace target ms = do
  normal ← table_members (codes "dependencies") (dependency_at (record { workspace = workspace; kind = Normal; target = target })) ms
  development ← table_members (codes "dev-dependencies") (dependency_at (record { workspace = workspace; kind = Development; target = target })) ms
  build ← table_members (codes "build-dependencies") (dependency_at (record { workspace = workspace; kind = Build; target = target })) ms
  Ok (normal ++ development ++ build)

-- those of a target
abbrev pub target_sections : Option Members → List ℕ → Data → Result (List KnownCrate) Refusal
target_sections workspace target d = do
  ms ← table_value d
  sections workspace (Some target) ms

-- all of a manifest: first those of each target, then those of some
abbrev pub dependencies_in : Option Members → Members → Result (List KnownCrate) Refusal
dependencies_in workspace ms = do
  all ← sections workspace None ms
  some ← table_members (codes "target") (target_sections workspace) ms
  Ok (all ++ some)

-- whether a dependency of this key is optional
abbrev pub is_optional_key : List KnownCrate → List ℕ → Bool
is_optional_key ds key = list_any (λ d. d.is_optional && bytes_eq d.key key) ds
