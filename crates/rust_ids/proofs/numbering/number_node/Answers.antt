use Rattle.std.proofs.Common.{◌≤◌, length, arith, sym, ◌∙◌, ap}
use Rattle.rust_ids.proofs.Common.{module_at}
use Rattle.rust_ids.proofs.Steps.{numbered_past, numbered_here, counted_le}
use Rattle.rust_ids.proofs.numbering.number_node.Goals as goal

pub returns-then-depth : goal.returns-then-depth
returns-then-depth c = numbered_past _ _ _ _ _ _ c.requires.place c.index-nodes-at.is (λ e. c.if-depth.true (c.depth.ensures ∙ e)) c.requires.numbered

pub count_one-requires : goal.count_one-requires
count_one-requires c = let e : _ ≤ length c.args.nodes.now = counted_le _ _ _ c.args.counts.now (c.kind_place.result, c.hash_of-hash.result) c.requires.numbered in omega arith

pub returns : goal.returns
returns c =
    numbered_here _ _ _ _ _ _ _ _ _ _ _ _ _ c.requires.place c.index-nodes-at.is (sym c.depth.ensures ∙ c.if-depth.false) c.requires.around c.requires.numbered
    c.kind-kind.ensures c.kind_place.ensures c.hash_of-hash.ensures (c.module_at.ensures ∙ ap (λ i. module_at i c.args.around) c.deref.ensures.value)
    c.in_ok-number.ensures.number c.in_ok-number.ensures.counted
