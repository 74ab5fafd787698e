-- What a crate is made of, and what its places add, as plain data.
use Rattle.std.specs.Prelude.{map, string_bytes, option_map}
use Rattle.tree_walk.specs.Listed.{listed_import}
use Rattle.def_map.specs.declared.push.Row as row_code
use Rattle.def_map.specs.declared.push.Row.TheVariants.{Declares, Imports, Veil, MacroVeil, DefinesMacro, NamesCrate}
use Rattle.def_map.specs.declared.sources.CrateSources as sources_code
use Rattle.def_map.specs.declared.sources.Manifest as manifest_code
use Rattle.def_map.specs.CrateView.{declared_view}
use Rattle.def_map.specs.Tables.{Manifest, CrateSources, CrateRow, declares, imports, veil, macro_veil, defines_macro, names_crate}

abbrev pub crate_manifest_view : manifest_code.Manifest → Manifest
crate_manifest_view m = record { is_2015 = m.is_2015; features = map string_bytes m.features.items; crates = option_map (λ names. names.items) m.crates }

abbrev pub sources_view : sources_code.CrateSources → CrateSources
sources_view s = record { modules = s.modules.now; trees = map (λ tree. tree.now) s.trees.now; export_words = s.export_words.now; allows_expanded = s.allows_expanded; manifest = crate_manifest_view s.manifest.now }

abbrev pub crate_row_view : row_code.Row → CrateRow
crate_row_view (Declares d) = declares (declared_view d)
crate_row_view (Imports u) = imports u.parent u.id u.visibility (listed_import u.listed)
crate_row_view (Veil at v) = veil at v
crate_row_view MacroVeil = macro_veil
crate_row_view (DefinesMacro name key) = defines_macro name.now key
crate_row_view (NamesCrate name) = names_crate name.now
