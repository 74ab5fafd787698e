use Rattle.std.proofs.Common.{◌≡◌, ◌++◌, map, option_copied, option_map, filter_map}
use Rattle.source_rows.proofs.Common.{member_view}
use Rattle.source_rows.specs.Listed as spec
use Rattle.source_rows.specs.ListedViews.{closers_view, listed_view}
use Rattle.source_rows.proofs.listed.listed_of.Given as goal

abbrev pub invariant-loop-member : goal.invariant-loop-member
invariant-loop-member l =
    let a = l.fn.around in
    let told = spec.listed_member (option_map closers_view (option_copied a.mended)) a.options.now a.is_active in
    map listed_view l.out.items ++ filter_map told (map member_view l.member-iterator.rest.items) ≡ filter_map told (map member_view l.fn.members.items)
