-- The names that most proofs here cite, passed on from one place. Declares nothing.
pub use Rattle.hir_input.specs.Syntax.{ItemView, plain_item}
pub use Rattle.rust_cursor.specs.Elements.{perhaps, turns_from}
unfoldable pub use Rattle.rust_cursor.specs.Elements.{progress_from, most_tokens, turns}
pub use Rattle.rust_cursor.specs.Reader.{Reader}
pub use Rattle.rust_cursor.specs.Tokens.{Tokens}
unfoldable pub use Rattle.rust_cursor.specs.Tokens.{tokens_of}
unfoldable pub use Rattle.rust_cursor.specs.Words.{at, bumped, eat_word, is_at_end, symbol}
pub use Rattle.rust_items.specs.Places.{IsNameIn}
pub use Rattle.rust_leaves.specs.Clipped.{clipped_item}
unfoldable pub use Rattle.rust_leaves.specs.Clipped.{clipped_front, clipped_leaf, clipped_leaf_if, leaf_behind, with_value}
pub use Rattle.rust_leaves.specs.Fronts.{FrontRead}
unfoldable pub use Rattle.rust_leaves.specs.Fronts.{front}
pub use Rattle.rust_leaves.specs.Leaves.{LeafRead}
unfoldable pub use Rattle.rust_leaves.specs.Leaves.{written_name}
pub use Rattle.rust_leaves.specs.Views.{front_view, leaf_view}
pub use Rattle.rust_items.specs.MemberLists.{cut_out, is_boundary, is_cut, member_list, members_in}
unfoldable pub use Rattle.rust_items.specs.MemberLists.{is_list_over, member_turn, members_from}
pub use Rattle.rust_items.specs.Members.{MemberRead, moved_member, range_moved_by}
pub use Rattle.rust_items.specs.MemberParts.{MemberTold, behind_operand, behind_operands, behind_part, behind_type_part, behind_type_parts, body_of, is_pair_here, is_part_end, is_type_end, leaf_member, member_behind_front, member_kept, opens_generics, part_of, stand_behind, told_of, told_with}
unfoldable pub use Rattle.rust_items.specs.MemberParts.{associated_item, behind_type, behind_value, part_member}
pub use Rattle.rust_items.specs.MemberPlaces.{ArePlaced, FitsMoved}
pub use Rattle.rust_items.specs.MemberViews.{member_view}
pub use Rattle.rust_items.specs.declared.member.Member.{Member}
pub use Rattle.rust_items.specs.declared.part.Stand.{Stand}
pub use Rattle.rust_paths.specs.declared.names.TextRange.{TextRange}
