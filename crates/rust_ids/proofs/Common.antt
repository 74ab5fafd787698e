-- The names that most proofs here cite, passed on from one place. Declares nothing.
pub use Rattle.hir_input.specs.declared.ids.FileAstId.{FileAstId}
pub use Rattle.rust_ids.specs.Hash.{absorb, absorb_all, hash_start}
unfoldable pub use Rattle.rust_ids.specs.Hash.{absorb_text}
pub use Rattle.rust_ids.specs.Ids.{AreDetermined, AreDistinctIds, AreIds, IsId, Key, holder_of, comes_before, count_below, depth_at, earlier_alike, hash_of, id_at, key_of, kind_place, last_below, module_around, module_at, nth_row, same_key}
pub use Rattle.rust_ids.specs.Inner.Numbering.{Counts, CountsOne, IsNextBefore, IsNextDepth, IsNumbered, count_of, is_numbered_before}
pub use Rattle.rust_ids.specs.Row.{Row}
pub use Rattle.std.proofs.lemmas.Bool.{and_from, and_left, and_parts, and_right, both_ways, cases_Bool, cases_eq, eqb-true, le-leb}
pub use Rattle.std.proofs.lemmas.Bool.Decides.{nat_tests}
pub use Rattle.std.proofs.lemmas.List.{get_or_default, same_lists}
