-- The names that most proofs here cite, passed on from one place. Declares nothing.
pub use Rattle.rust_items.specs.declared.source_file.ItemPlace.{ItemPlace}
pub use Rattle.source_tags.specs.Inner.{IsSameTagger, IsTaggerOf, tagged_file}
pub use Rattle.source_listing.specs.Lines.{is_chosen, is_listed}
pub use Rattle.source_tags.specs.TagFields.{safe_char}
pub use Rattle.source_tags.specs.Tags.{TagFile, if_any, tag_inside}
pub use Rattle.source_listing.specs.Views.{choice_view, source_view}
pub use Rattle.source_rows.specs.Listed.{Listed}
pub use Rattle.source_rows.specs.ListedViews.{listed_view, reading_view}
pub use Rattle.std.proofs.Common.{All, Bool, Bor, List, None, Option, Some, [], ap, append-nil, append_assoc, arith, codes, false, filter, flat_map, get_or, if◌then◌else◌, length, lit<, map, map-id, nat_eq, nat_lt, option_copied, option_map, refl, rules, string_bytes, subst, suc, sym, take, take_all, true, ℕ, ⊎_elim, ◌*◌, ◌++◌, ◌+◌, ◌-◌, ◌<◌, ◌==◌, ◌∙◌, ◌∷◌, ◌≡◌, ◌≢◌, ◌≤◌}
pub use Rattle.std.proofs.lemmas.Bool.{cases_Bool}
pub use Rattle.std.proofs.lemmas.Bool.Decides.{nat_tests}
pub use Rattle.std.proofs.lemmas.Grind.{flat_map-append}
pub use Rattle.std.proofs.lemmas.Iterator.Consumers.{YieldsList-end}
pub use Rattle.std.proofs.lemmas.List.{take_more}
pub use Rattle.std.proofs.lemmas.List.Folds.{flat_map-map}
pub use Rattle.std.proofs.lemmas.Result.{on_ok_weaker}
pub use Rattle.tree_walk.specs.Rows.{RowView}
pub use Rattle.tree_walk.specs.Views.{row_view}
