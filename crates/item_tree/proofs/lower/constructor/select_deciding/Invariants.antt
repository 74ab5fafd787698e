use Rattle.std.proofs.Common.{◌≡◌, ◌||◌}
use Rattle.item_tree.proofs.Common.{find, list_any, is_private, is_pub_crate, meet_all, distinct_visibilities}
use Rattle.item_tree.proofs.lower.constructor.select_deciding.Given as goal

abbrev pub invariant-loop-visibility : goal.invariant-loop-visibility
invariant-loop-visibility l = record {
  private : find is_private l.visibility-iterator.rest.items ≡ find is_private l.fn.written.items;
  modules : meet_all l.modules.keys l.visibility-iterator.rest.items ≡ distinct_visibilities l.fn.written.items;
  in_crate : (l.in_crate || list_any is_pub_crate l.visibility-iterator.rest.items) ≡ list_any is_pub_crate l.fn.written.items;
}
