use Rattle.std.proofs.Common.{refl, arith, subst}
use Rattle.item_tree.proofs.Common.{put_two, put_four, common_steps, put_three, HasWritten}
use Rattle.item_tree.proofs.UseTexts.{shown_tree-single, shown_tree-glob, shown_tree-found, first_shown, next_shown, tree_texts}
use Rattle.item_tree.proofs.use_tree.text.+write_tree.Goals as goal

pub write_kind-returns-in-Single : goal.write_kind-returns-in-Single
write_kind-returns-in-Single g t c = let i = c.in-Single in rw (i.is, shown_tree-single c.args.edition.now.reserved.items i.path i.alias) c.write_single.ensures

pub write_kind-returns-in_ok-write_prefix-in-Glob : goal.write_kind-returns-in_ok-write_prefix-in-Glob
write_kind-returns-in_ok-write_prefix-in-Glob g t c = λ plain ok.
    let front = c.in_ok-write_prefix-in-Glob.ensures plain refl in
    let star = c.write_str.ensures.writes front.plain ok in
    put_two _ _ _ _ _ _ _ front star (rw (c.in-Glob.is, shown_tree-glob c.args.edition.now.reserved.items c.in-Glob.path) refl)

pub write_kind-returns-in_ok-write_list-in-Prefixed : goal.write_kind-returns-in_ok-write_list-in-Prefixed
write_kind-returns-in_ok-write_list-in-Prefixed g t c = λ plain ok.
    let front = c.in_ok-write_prefix-in-Prefixed.ensures plain refl in
    let open_brace = c.in_ok-write_str-in-Prefixed.ensures.writes front.plain refl in
    let list = c.in_ok-write_list-in-Prefixed.ensures open_brace.plain refl in
    let close_brace = c.write_str-in-Prefixed-2.ensures.writes list.plain ok in
    put_four _ _ _ _ _ _ _ _ _ _ _ front open_brace list close_brace
    (shown_tree-found c.args.edition.now.reserved.items c.args.kind.now c.in-Prefixed.prefix c.in-Prefixed.list c.deref.result.now c.in-Prefixed.is c.deref.ensures.value)

pub write_list-loop-i-init : goal.write_list-loop-i-init
write_list-loop-i-init g t c = λ plain.
    subst (λ z. HasWritten g.W.Write.write_str_gives c.args.f.now z c.write_kind.new.f)
    (first_shown c.args.edition.now.reserved.items c.args.list.now c.index-list-0.result (grind (arith, common_steps)))
    (c.in_ok-write_kind.ensures plain refl)

pub write_list-loop-i-preserved : goal.write_list-loop-i-preserved
write_list-loop-i-preserved g t c = λ plain.
    let before = c.loop-i.invariant plain in
    let comma = c.in_ok-write_str.ensures.writes before.plain refl in
    let item = c.in_ok-write_kind-2.ensures comma.plain refl in
    put_three _ _ _ _ _ _ _ _ _ before comma item
    (next_shown c.args.edition.now.reserved.items c.args.list.now c.loop-i.i c.index-list-i.result c.loop-i.auto.i c.loop-i-test.true)

pub write_list-returns : goal.write_list-returns
write_list-returns g t c = grind (arith, tree_texts, common_steps)

pub write_list-returns-then-is_empty : goal.write_list-returns-then-is_empty
write_list-returns-then-is_empty g t c = grind (arith, tree_texts, common_steps)
