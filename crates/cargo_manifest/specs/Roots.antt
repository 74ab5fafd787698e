-- The files that the crates of a package begin with.
use Rattle.std.specs.Prelude.{ℕ, ◌&&◌, ◌||◌, not, if◌then◌else◌, List, [], ◌∷◌, ◌++◌, codes, bytes_eq, Bool, true, false, Option, Some, None, option_and_then, unwrap_or, Result, Ok, Err}
use Rattle.std.specs.List.{list_any}
use Rattle.hir_input.specs.declared.edition.EditionYear.{EditionYear}
use Rattle.hir_input.specs.declared.edition.EditionYear.TheVariants.{E2015, E2018, E2021, E2024}
use Rattle.toml.specs.Data.{Data, Members, get, get_member, as_str, as_table, as_bool}
use Rattle.cargo_manifest.specs.declared.error.Expected.TheVariants as expected
use Rattle.cargo_manifest.specs.declared.roots.RootKind.{RootKind}
use Rattle.cargo_manifest.specs.declared.roots.RootKind.TheVariants.{Library, Binary}
use Rattle.cargo_manifest.specs.Dependencies.{rust_name, workspace_value}
use Rattle.cargo_manifest.specs.Features.{is_text_among}
use Rattle.cargo_manifest.specs.Readings.{Refusal, misfit, expecting, made_of, value_read, required_text, text_value, flag_value, table_value}

infixl 10 ◌>>=◌
abbrev ◌>>=◌ : {A B : Type 0} → Result A Refusal → (A → Result B Refusal) → Result B Refusal
(Ok a) >>= f = f a
(Err refusal) >>= f = Err refusal

-- a crate's kind and name, the paths of which one is its file, and whether the manifest declares it: then it has to be there
pub record RootFile : Type 0 where
  pub kind : RootKind
  pub name : List ℕ
  pub paths : List (List ℕ)
  pub is_declared : Bool

-- what `[package]` has that tells of roots
pub record PackageFields : Type 0 where
  pub name : List ℕ
  pub edition : Option EditionYear
  pub autolib : Option Bool
  pub autobins : Option Bool

-- ---- editions

abbrev pub edition_of : List ℕ → Option EditionYear
edition_of text =
    if bytes_eq text (codes "2015") then Some E2015 else if bytes_eq text (codes "2018") then Some E2018
    else if bytes_eq text (codes "2021") then Some E2021 else if bytes_eq text (codes "2024") then Some E2024 else None

-- that of the workspace, if its file is given and tells one
abbrev pub workspace_edition : Option Members → Option EditionYear
workspace_edition workspace = option_and_then edition_of (option_and_then as_str (option_and_then (get (codes "edition")) (workspace_value workspace (codes "package"))))

-- an edition, or the workspace's, where `workspace = true`
abbrev pub inherited_edition : Option Members → Option Bool → Result (Option EditionYear) Refusal
inherited_edition workspace (Some true) = Ok (workspace_edition workspace)
inherited_edition workspace _ = Err (misfit [] expected.Edition)

abbrev pub edition_by : Option Members → Option (List ℕ) → Option Members → Result (Option EditionYear) Refusal
edition_by workspace (Some text) ms = made_of Some (expecting expected.Edition (edition_of text))
edition_by workspace None (Some ms) = inherited_edition workspace (option_and_then as_bool (get_member (codes "workspace") ms))
edition_by workspace None None = Err (misfit [] expected.Edition)

-- without one it is 2015; it is not known where the workspace has it and is not
abbrev pub edition_field : Option Members → Members → Result (Option EditionYear) Refusal
edition_field workspace ms = do
  edition ← value_read (codes "edition") (λ d. edition_by workspace (as_str d) (as_table d)) ms
  Ok (unwrap_or edition (Some E2015))

abbrev pub fields_in : Option Members → Members → Result PackageFields Refusal
fields_in workspace ms = do
  name ← required_text (codes "name") ms
  edition ← edition_field workspace ms
  autolib ← value_read (codes "autolib") flag_value ms
  autobins ← value_read (codes "autobins") flag_value ms
  Ok (record { name = name; edition = edition; autolib = autolib; autobins = autobins })

-- ---- roots

-- the library's; its name is that of the package as Rust has it, unless it has one
abbrev pub library_root : List ℕ → Option (List ℕ) → Option (List ℕ) → Bool → RootFile
library_root package_name name path is_declared =
    record { kind = Library; name = unwrap_or name (rust_name package_name); paths = unwrap_or path (codes "src/lib.rs") ∷ []; is_declared = is_declared }

-- `[lib]`
abbrev pub library_value : List ℕ → Data → Result RootFile Refusal
library_value package_name d = do
  ms ← table_value d
  name ← value_read (codes "name") text_value ms
  path ← value_read (codes "path") text_value ms
  Ok (library_root package_name name path true)

abbrev pub main_path : List ℕ
main_path = codes "src/main.rs"

-- where a binary may be: at its path, or else where those of its name are looked for
abbrev pub binary_paths : List ℕ → List ℕ → Option (List ℕ) → List (List ℕ)
binary_paths package_name name (Some path) = path ∷ []
binary_paths package_name name None =
    (if bytes_eq name package_name then main_path ∷ [] else []) ++ (codes "src/bin/" ++ name ++ codes ".rs") ∷ [] ++ (codes "src/bin/" ++ name ++ codes "/main.rs") ∷ []

-- one of `[[bin]]`
abbrev pub binary_value : List ℕ → Data → Result RootFile Refusal
binary_value package_name d = do
  ms ← expecting expected.Tables (as_table d)
  name ← required_text (codes "name") ms
  path ← value_read (codes "path") text_value ms
  Ok (record { kind = Binary; name = name; paths = binary_paths package_name name path; is_declared = true })

abbrev pub is_2015 : Option EditionYear → Bool
is_2015 (Some E2015) = true
is_2015 _ = false

-- whether binaries are looked for that are not declared: with `autobins`, and without it unless the edition is 2015 and some are declared
abbrev pub finds_binaries : PackageFields → Bool → Bool
finds_binaries fields declares = unwrap_or fields.autobins (not (is_2015 fields.edition && declares))

-- the library that is declared, or the one that may be there
abbrev pub library_roots : PackageFields → Option RootFile → List RootFile
library_roots fields (Some root) = root ∷ []
library_roots fields None = if unwrap_or fields.autolib true then library_root fields.name None None false ∷ [] else []

-- whether a declared binary takes the place of the one that may be at `src/main.rs`
abbrev pub is_main : List ℕ → RootFile → Bool
is_main package_name root = bytes_eq root.name package_name || is_text_among root.paths main_path

-- the binary that may be at `src/main.rs`
abbrev pub main_root : List ℕ → RootFile
main_root package_name = record { kind = Binary; name = package_name; paths = main_path ∷ []; is_declared = false }

abbrev pub main_roots : PackageFields → List RootFile → Bool → List RootFile
main_roots fields declared finds = if finds && not (list_any (is_main fields.name) declared) then main_root fields.name ∷ [] else []

-- the library's, those that are declared, and that of `src/main.rs`
abbrev pub roots_of : PackageFields → Option RootFile → List RootFile → Bool → List RootFile
roots_of fields library declared finds = library_roots fields library ++ declared ++ main_roots fields declared finds
