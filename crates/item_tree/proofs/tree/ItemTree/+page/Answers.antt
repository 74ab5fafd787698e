use Rattle.std.proofs.Common.{ℕ, List, ◌∙◌, ap, refl, sym, subst, inl, inr, string_bytes, arith}
use Rattle.item_tree.proofs.Common.{on_ok_weaker, FileAstId, Inline, Outline, inline, extern_block, Unfolding, item_opening, Gains, lent_lines, HasVisibility, IsModule, IsParent, common_steps}
use Rattle.item_tree.specs.declared.items.ModKind.{ModKind}
use Rattle.item_tree.proofs.Paging.{gains_more, item_gains, parent_gains}
use Rattle.item_tree.proofs.tree.ItemTree.+page.Goals as goal
use Rattle.item_tree.proofs.tree.ItemTree.+page.Goals.{push_items-then-place-gt0+in_ok-push_blank, push_items-else-place-gt0}

pub push_item-returns : goal.push_item-returns
push_item-returns t c =
    let reserved = c.args.printer.edition.now.reserved.items in
    let u = c.args.self.now in
    let k = c.args.printer.level in
    let attrs = subst (λ o. Gains c.args.out.now c.push_attrs.new.out (lent_lines reserved item_opening k o)) c.attrs.ensures c.in_ok-push_attrs.ensures in
    on_ok_weaker c.push_own.result (λ own. item_gains reserved u k c.args.id c.args.out.now c.push_attrs.new.out c.push_own.new.out attrs own) c.push_own.ensures

pub push_own-returns-in_ok-push_fixed-in-ExternBlock :
    goal.push_own-returns-in_ok-push_fixed-in-ExternBlock
push_own-returns-in_ok-push_fixed-in-ExternBlock t c =
    let a = c.args in
    let shown = subst (IsParent a.self.now a.id c.in-ExternBlock.ast_id extern_block) (sym c.deref.ensures.value) c.in-ExternBlock.ensures in
    on_ok_weaker c.push_below.result
    (λ below. parent_gains a.printer.edition.now.reserved.items a.printer.level extern_block a.out.now c.push_fixed.new.out c.push_below.new.out shown refl c.in_ok-push_fixed-in-ExternBlock.ensures below)
    c.push_below.ensures

module_visible : (u : Unfolding) (i : ℕ) (a : FileAstId) (name : List ℕ) (v : ℕ) (kind : ModKind) → IsModule u i a name v kind → HasVisibility u v
module_visible u i a name v (Inline ids) lent = grind arith
module_visible u i a name v Outline lent = grind arith

pub push_module-index-visibility-requires : goal.push_module-index-visibility-requires
push_module-index-visibility-requires t c =
    let item = c.args.item.now in
    module_visible c.args.self.now c.args.id c.args.ast_id item.name item.visibility item.kind c.requires.lent

pub push_module-returns-in_ok-push_named-in-Inline : goal.push_module-returns-in_ok-push_named-in-Inline
push_module-returns-in_ok-push_named-in-Inline t c =
    let a = c.args in
    let item = a.item.now in
    let shown =
    subst (IsParent a.self.now a.id a.ast_id (inline item.name item.visibility)) (sym c.deref.ensures.value)
    (subst (IsModule a.self.now a.id a.ast_id item.name item.visibility) c.in-Inline.is c.requires.lent) in
    on_ok_weaker c.push_below.result
    (λ below. parent_gains a.printer.edition.now.reserved.items a.printer.level (inline item.name c.index-visibility.result.now) a.out.now c.push_named.new.out c.push_below.new.out shown (ap (inline item.name) c.index-visibility.ensures)
    c.in_ok-push_named-in-Inline.ensures below)
    c.push_below.ensures

pub push_items-loop-place-preserved : goal.push_items-loop-place-preserved
push_items-loop-place-preserved t c =
    gains_more c.args.printer.edition.now.reserved.items c.args.self.now c.args.printer.level c.args.out.now c.loop-place.out c.if-place-gt0.out c.push_item.new.out c.args.ids.now c.loop-place.place c.index-ids-place.result
    c.loop-place-test.true c.index-ids-place.is c.loop-place.invariant c.in_ok-push_item.ensures
    (elim c.if-place-gt0.branch [
      | push_items-then-place-gt0+in_ok-push_blank w ↦ inl (w.if-place-gt0.true, ap string_bytes w.out-is ∙ w.in_ok-push_blank.ensures)
      | push_items-else-place-gt0 w ↦ inr (w.if-place-gt0.false, w.out-is)
    ])

pub push_items-loop-place-init : goal.push_items-loop-place-init
push_items-loop-place-init t c = grind (arith, common_steps)

pub push_items-returns : goal.push_items-returns
push_items-returns t c = grind (arith, common_steps)

pub push_below-returns : goal.push_below-returns
push_below-returns t c = grind (arith, common_steps)
