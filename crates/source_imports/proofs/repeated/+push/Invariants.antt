use Rattle.source_imports.proofs.Common.{◌≡◌, ◌+◌, ◌*◌, ◌++◌, map, take, sum_by, flat_map, import_choice_view, count_at, named_at, listed_named_view}
use Rattle.source_imports.proofs.repeated.+push.Given as goal

abbrev pub decreases-push_all : goal.decreases-push_all
decreases-push_all l = 2 * sum_by (count_at l.tree.now) l.ids.now + 1

abbrev pub decreases-push_one : goal.decreases-push_one
decreases-push_one l = 2 * count_at l.tree.now l.id

abbrev pub invariant-push_all-loop-id : goal.invariant-push_all-loop-id
invariant-push_all-loop-id l = record {
  named : map listed_named_view l.found.items ≡ map listed_named_view l.initial.found.items ++ flat_map (named_at l.fn.finder.text l.fn.finder.places l.edition.reserved.items (import_choice_view l.choice) l.tree l.around) (take l.id-index l.ids);
  same : l.finder ≡ l.fn.finder;
}
