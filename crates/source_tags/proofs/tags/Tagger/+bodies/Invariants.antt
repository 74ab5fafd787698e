use Rattle.source_tags.proofs.Common.{◌≡◌, ◌+◌, ◌*◌, ◌++◌, [], flat_map, map, take, string_bytes, listed_view, IsSameTagger, tagged_file}
use Rattle.std.proofs.Common.{drop}
use Rattle.source_tags.specs.Inner.{fn_block_view, holder_view}
use Rattle.source_tags.specs.Tags.{block_items_tags, block_tags, inner_tags, member_tags}
use Rattle.source_tags.specs.Views.{tag_choice_view}
use Rattle.source_tags.proofs.tags.Tagger.+bodies.Given as goal

abbrev pub decreases-push_block : goal.decreases-push_block
decreases-push_block l = 9 * l.left

abbrev pub decreases-push_inner : goal.decreases-push_inner
decreases-push_inner l = 9 * l.left + 1

abbrev pub decreases-push_body : goal.decreases-push_body
decreases-push_body l = 9 * l.left + 1

abbrev pub decreases-push_blocks : goal.decreases-push_blocks
decreases-push_blocks l = 9 * l.left + 2

abbrev pub decreases-push_member : goal.decreases-push_member
decreases-push_member l = 9 * l.left + 2

abbrev pub decreases-push_member_tags : goal.decreases-push_member_tags
decreases-push_member_tags l = 9 * l.left + 3

abbrev pub decreases-push_value : goal.decreases-push_value
decreases-push_value l = 9 * l.left + 3

abbrev pub decreases-push_own : goal.decreases-push_own
decreases-push_own l = 9 * l.left + 4

abbrev pub decreases-push_placed : goal.decreases-push_placed
decreases-push_placed l = 9 * l.left + 5

abbrev pub decreases-push_item : goal.decreases-push_item
decreases-push_item l = 9 * l.left + 6

abbrev pub decreases-push_items : goal.decreases-push_items
decreases-push_items l = 9 * l.left + 7

abbrev pub invariant-push_member_tags-loop-member : goal.invariant-push_member_tags-loop-member
invariant-push_member_tags-loop-member l = let f = tagged_file l.fn.self in let a = tag_choice_view l.fn.asked in record {
  text : string_bytes l.out ≡ string_bytes l.fn.out ++ flat_map (λ m. member_tags (block_tags a.bodies l.fn.left f a) f a l.fn.word (map (λ n. n.now) l.fn.scope) (listed_view m)) (take l.member-index l.fn.members);
  same : IsSameTagger l.fn.self l.self;
}

abbrev pub invariant-push_blocks-loop-range : goal.invariant-push_blocks-loop-range
invariant-push_blocks-loop-range l = let f = tagged_file l.fn.self in let a = tag_choice_view l.asked in record {
  text : string_bytes l.out ≡ string_bytes l.fn.out ++ flat_map (inner_tags (block_tags a.bodies l.left f a) (fn_block_view l.block)) (take l.range-index l.ranges);
  same : IsSameTagger l.fn.self l.self;
}

abbrev pub invariant-push_items-loop-place : goal.invariant-push_items-loop-place
invariant-push_items-loop-place l = let f = tagged_file l.fn.self in let a = tag_choice_view l.asked in let b = fn_block_view l.block in let tags = block_tags a.bodies l.left f a in record {
  text : string_bytes l.out ++ block_items_tags tags f a l.options b (map holder_view l.holders.items) (drop l.place-index l.places) ≡ string_bytes l.fn.out ++ block_items_tags tags f a l.options b [] l.places;
  same : IsSameTagger l.fn.self l.self;
}
