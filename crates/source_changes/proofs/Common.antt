-- The names that most proofs here cite, passed on from one place. Declares nothing.
pub use Rattle.source_rows.specs.Labels.{text_at}
pub use Rattle.source_changes.specs.Parts.{Part}
pub use Rattle.source_changes.specs.Views.{part_view}
pub use Rattle.source_changes.specs.ChangeViews.{row_change_view, row_part, text_row_view}
pub use Rattle.source_changes.specs.Inner.{labelled_view, row_match, with_label}
pub use Rattle.source_changes.specs.RowChanges.{row_change_of, same_text, same_texts}
pub use Rattle.source_changes.specs.Rows.{bodies, holes_begun, moved_back, outside_name, part_rows}
pub use Rattle.source_changes.specs.Skeletons.{not_over, skeleton}
pub use Rattle.std.proofs.lemmas.Bool.Decides.{Decides-and, Decides-eqb, Decides-like, nat_tests, same_from_decides}
