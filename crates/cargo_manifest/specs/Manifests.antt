-- What a manifest tells of its package.
use Rattle.std.specs.Prelude.{ℕ, List, [], codes, Bool, Option, Some, None, is_some, unwrap_or, Result, Ok, Err}
use Rattle.hir_input.specs.declared.edition.EditionYear.{EditionYear}
use Rattle.toml.specs.Data.{Data, Members, get_member}
use Rattle.toml.specs.Parse.{parse_document}
use Rattle.cargo_manifest.specs.declared.error.Expected.TheVariants as expected
use Rattle.cargo_manifest.specs.Dependencies.{KnownCrate, dependencies_in}
use Rattle.cargo_manifest.specs.Features.{FeatureEntries, written_features, all_features}
use Rattle.cargo_manifest.specs.Readings.{Refusal, no_toml, no_workspace_toml, no_package, made_of, behind_key, value_read, table_value, items_value}
use Rattle.cargo_manifest.specs.Roots.{RootFile, PackageFields, fields_in, library_value, binary_value, roots_of, finds_binaries}

infixl 10 ◌>>=◌
abbrev ◌>>=◌ : {A B : Type 0} → Result A Refusal → (A → Result B Refusal) → Result B Refusal
(Ok a) >>= f = f a
(Err refusal) >>= f = Err refusal

-- all that is told: the package's name, its edition if it is known, the roots, whether binaries are to be looked for in `src/bin`, the
-- features and the crates that it knows
pub record ManifestFacts : Type 0 where
  pub name : List ℕ
  pub edition : Option EditionYear
  pub roots : List RootFile
  pub lists_bin_folder : Bool
  pub features : List FeatureEntries
  pub dependencies : List KnownCrate

-- what there is, or else a refusal
abbrev pub or_refused : {A : Type 0} → Refusal → Option A → Result A Refusal
or_refused refusal (Some a) = Ok a
or_refused refusal None = Err refusal

abbrev pub package_value : Option Members → Data → Result PackageFields Refusal
package_value workspace d = do
  ms ← table_value d
  fields_in workspace ms

abbrev pub facts_of : PackageFields → Option RootFile → Option (List RootFile) → List KnownCrate → List FeatureEntries → ManifestFacts
facts_of fields library binaries dependencies written =
    let finds = finds_binaries fields (is_some binaries) in
    record {
      name = fields.name;
      edition = fields.edition;
      roots = roots_of fields library (unwrap_or binaries []) finds;
      lists_bin_folder = finds;
      features = all_features written dependencies;
      dependencies = dependencies;
    }

-- the facts beside what `[package]` has
abbrev pub facts_behind : Option Members → Members → PackageFields → Result ManifestFacts Refusal
facts_behind workspace ms fields = do
  library ← value_read (codes "lib") (library_value fields.name) ms
  binaries ← value_read (codes "bin") (items_value expected.Tables (binary_value fields.name)) ms
  dependencies ← dependencies_in workspace ms
  written ← written_features ms
  Ok (facts_of fields library binaries dependencies written)

-- the facts of a manifest's table, beside that of its workspace
abbrev pub facts_in : Option Members → Members → Result ManifestFacts Refusal
facts_in workspace ms = do
  d ← or_refused no_package (get_member (codes "package") ms)
  fields ← behind_key (codes "package") (package_value workspace d)
  facts_behind workspace ms fields

-- the table of the workspace's file, if it is given
abbrev pub workspace_table : Option (List ℕ) → Result (Option Members) Refusal
workspace_table None = Ok None
workspace_table (Some text) = made_of Some (or_refused no_workspace_toml (parse_document text))

-- the facts of a manifest's text, and that of its workspace
abbrev pub manifest_facts : List ℕ → Option (List ℕ) → Result ManifestFacts Refusal
manifest_facts text workspace = do
  ms ← or_refused no_toml (parse_document text)
  beside ← workspace_table workspace
  facts_in beside ms
