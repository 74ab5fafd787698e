-- What is listed of imports holds no float.
use Rattle.source_imports.proofs.Common.{Units, file_import_object, ◌≡◌, ℕ, false, List, Option, option_map, refl, items_of, view_of, Import, Forest, node_ast, Spot, FilePlaces, Declared, declared_name, declared_imports, declarations, alias_form, import_form, import_object, seen_objects, import_objects, of_declared, spots_of_any, true, line_form, column_form, range_form}
use Rattle.serde_json.specs.Data.{string}
use Rattle.hir_input.specs.Cfg.{CfgView, shown_cfg}
use Rattle.source_imports.specs.ImportLines.{cfgs_form}
use Rattle.source_listing.specs.Objects.{bytes_form}
use Rattle.source_listing.proofs.NoFloats.{flat_none, map_none, one_none, some_none, visibility_none}
use Rattle.rust_paths.specs.declared.names.TextRange.{TextRange}
use Rattle.serde_json.specs.Written.{has_float, items_have_float}
use Rattle.item_tree.specs.declared.visibility.RawVisibility.{RawVisibility}

module _ (reserved : List (List ℕ)) where
  import_none : (spot : Option Spot) (x : Import) → has_float (import_form reserved spot x) ≡ false
  import_none spot x = rw (some_none (alias_form reserved) x.alias refl (λ a. refl), some_none column_form spot refl (λ a. refl), some_none line_form spot refl (λ a. refl)) refl

  each_none : (spots : ℕ → Option Spot) (x : Import) → items_have_float (items_of (import_object reserved spots x)) ≡ false
  each_none spots x = one_none true (import_form reserved (spots x.index) x) (import_none (spots x.index) x)

  declared_none : (spots : ℕ → Option Spot) (d : Declared) → items_have_float (items_of (of_declared (import_object reserved) spots d)) ≡ false
  declared_none spots (declared_name name) = refl
  declared_none spots (declared_imports xs) = flat_none (import_object reserved spots) xs (each_none spots)

-- the values of imports hold no float
pub no_float_in_imports : (units : Units) (text : List ℕ) (reserved : List (List ℕ)) (places : FilePlaces) (f : Forest) → items_have_float (items_of (import_objects units text reserved places f)) ≡ false
no_float_in_imports units text reserved places f = flat_none (λ d. seen_objects units text reserved places (view_of d)) (declarations f)
    (λ d. declared_none reserved (spots_of_any units text places (option_map node_ast (view_of d).node)) (view_of d).declared)

-- ---- imports with what is around them

cfgs_none : (cfgs : List CfgView) → has_float (cfgs_form cfgs) ≡ false
cfgs_none cfgs = map_none (λ c. string (shown_cfg c)) cfgs (λ c. refl)

pub use_none : (reserved : List (List ℕ)) (path scope : List ℕ) (v : Option RawVisibility) (cfgs : List CfgView) (spot : Option Spot) (removal : Option TextRange) (x : Import) → has_float (file_import_object reserved path scope v cfgs spot removal x) ≡ false
use_none reserved path scope v cfgs spot removal x =
    rw (cfgs_none cfgs, some_none (alias_form reserved) x.alias refl (λ a. refl), some_none column_form spot refl (λ a. refl), some_none line_form spot refl (λ a. refl), some_none range_form spot refl (λ a. refl), some_none bytes_form removal refl (λ a. refl), visibility_none reserved v) refl
