-- What the code holds, as plain data.
use Rattle.std.specs.Prelude.{List, ℕ, map, option_map, string_bytes, Vec, String}
use Rattle.std.specs.declared.alloc.Global.{Global}
use Rattle.cargo_manifest.specs.declared.dependencies.Dependency.{Dependency}
use Rattle.cargo_manifest.specs.declared.enabled.FeatureChoice.{FeatureChoice}
use Rattle.cargo_manifest.specs.declared.features.Feature.{Feature}
use Rattle.cargo_manifest.specs.declared.manifest.Manifest.{Manifest}
use Rattle.cargo_manifest.specs.declared.roots.Root.{Root}
use Rattle.cargo_manifest.specs.Dependencies.{KnownCrate}
use Rattle.cargo_manifest.specs.Features.{FeatureEntries, AskedFeatures}
use Rattle.cargo_manifest.specs.Manifests.{ManifestFacts}
use Rattle.cargo_manifest.specs.Roots.{RootFile}

-- the texts of strings
abbrev pub texts_view : Vec (String Global) Global → List (List ℕ)
texts_view v = map string_bytes v.items

abbrev pub dependency_view : Dependency → KnownCrate
dependency_view d = record {
  key = string_bytes d.key;
  name = string_bytes d.name;
  package_name = option_map string_bytes d.package_name;
  kind = d.kind;
  target = option_map string_bytes d.target;
  is_optional = d.is_optional;
}

abbrev pub feature_view : Feature → FeatureEntries
feature_view f = record { name = string_bytes f.name; entries = texts_view f.entries }

abbrev pub root_view : Root → RootFile
root_view r = record { kind = r.kind; name = string_bytes r.name; paths = texts_view r.paths; is_declared = r.is_declared }

abbrev pub roots_view : Vec Root Global → List RootFile
roots_view v = map root_view v.items

abbrev pub asked_features_view : FeatureChoice → AskedFeatures
asked_features_view c = record { all = c.all; no_default = c.no_default; named = map (λ name. name.now) c.named.now }

abbrev pub manifest_view : Manifest → ManifestFacts
manifest_view m = record {
  name = string_bytes m.name;
  edition = m.edition;
  roots = map root_view m.roots.items;
  lists_bin_folder = m.lists_bin_folder;
  features = map feature_view m.features.items;
  dependencies = map dependency_view m.dependencies.items;
}
