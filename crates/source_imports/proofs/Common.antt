-- The names that most proofs here cite, passed on from one place. Declares nothing.
pub use Rattle.tree_walk.specs.DeclarationView.{DeclarationView, declaration_id, declaration_view, view_of}
pub use Rattle.tree_walk.specs.Declarations.{Declared, declarations, declared_imports, declared_name}
pub use Rattle.tree_walk.specs.Listed.{listed_import}
pub use Rattle.hir_input.specs.declared.ids.FileAstId.{FileAstId}
pub use Rattle.item_tree.proofs.Walking.{flat_map_of_id, leaf_of_id, parent_of_id}
pub use Rattle.item_tree.specs.Imports.{Import, imports}
pub use Rattle.item_tree.specs.Layout.{leaf_map}
unfoldable pub use Rattle.item_tree.specs.Layout.{node_at, vis_at}
pub use Rattle.item_tree.specs.Node.{Forest, Leaf, Node, Unfolding, empty, leaf, more, node_ast, nodes, parent, plain, use_item}
pub use Rattle.item_tree.specs.Shown.{IsContained, IsLent, Lent, StandFor, lent_leaf, lent_parent}
pub use Rattle.item_tree.specs.Tree.{Tree}
pub use Rattle.item_tree.specs.Walk.{children, children_at, count_at}
pub use Rattle.serde_json.specs.View.{items_of, view}
pub use Rattle.source_imports.specs.ImportObjects.{alias_form, import_form, import_object, import_objects, seen_objects}
pub use Rattle.source_imports.specs.ImportLines.{import_lines, numbered_import, seen_lines, file_import_object}
pub use Rattle.source_imports.specs.Imports.{of_declared, of_seen, of_uses, spots_of_any}
pub use Rattle.source_imports.specs.Inner.{FindsFirsts, Firsts, NamedKey, PutsFirst, first_in, has_named_key, id_key, is_around, key, lent_named, listed_named_view, named_at, named_key_view, own_named, own_named_at, same_named_key}
pub use Rattle.source_listing.specs.Views.{placed_trees_view, source_view}
pub use Rattle.source_listing.specs.Lines.{Source}
pub use Rattle.source_listing.specs.Objects.{column_form, line_form, range_form}
pub use Rattle.source_rows.specs.Places.{place_of}
pub use Rattle.line_index.specs.declared.Units.{Units}
pub use Rattle.source_imports.specs.Repeated.{Named, Repeat, first_alike, forest_named, is_alike, leaf_named, named_import, node_named, repeat_if_any, repeats}
pub use Rattle.source_listing.specs.Uses.{FilePlaces, PlacedText, Trees, import_spot, file_places, tree_spots, tree_spots_in, use_trees_at, with_places}
pub use Rattle.source_imports.specs.Views.{import_choice_view}
pub use Rattle.source_rows.specs.declared.finder.Spot.{Spot}
pub use Rattle.std.proofs.Common.{All, Bool, Bor, Decides, List, None, Option, Some, [], ap, append-nil, append_assoc, arith, false, find, flat_map, if◌then◌else◌, length, length-append, map, nat_eq, option_copied, option_map, refl, rules, slice_index_or, string_bytes, subst, suc, sum_by, sym, take, take_all, true, ℕ, ⊎_elim, ◌&&◌, ◌*◌, ◌++◌, ◌+◌, ◌-◌, ◌<◌, ◌==◌, ◌∙◌, ◌∷◌, ◌≡◌, ◌≤◌}
pub use Rattle.std.proofs.lemmas.Bool.{cases_Bool, false≢true}
pub use Rattle.std.proofs.lemmas.Grind.{flat_map-append}
pub use Rattle.std.proofs.lemmas.List.{get_or-map, length-map, map-append, take_more}
pub use Rattle.std.proofs.lemmas.List.Folds.{flat_map-map}
pub use Rattle.std.proofs.lemmas.Result.{on_ok_weaker}
pub use Rattle.std.specs.Option.{option_map_or}
