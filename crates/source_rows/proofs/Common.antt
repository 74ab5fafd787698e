-- The names that most proofs here cite, passed on from one place. Declares nothing.
pub use Rattle.rust_cursor.proofs.Nesting.{not_first, shorter}
pub use Rattle.rust_cursor.specs.Tokens.{Tokens}
pub use Rattle.rust_items.specs.MemberViews.{member_view}
pub use Rattle.source_rows.specs.Blanks.{first_spacing, gap_text, spacing_behind}
pub use Rattle.source_rows.specs.declared.blanks.Spacing.{Spacing}
pub use Rattle.source_rows.specs.Headers.{is_over, spaced_from, spaced_tokens}
pub use Rattle.source_rows.specs.Types.{is_type_over, type_from, type_step}
unfoldable pub use Rattle.source_rows.specs.Types.{type_read}
