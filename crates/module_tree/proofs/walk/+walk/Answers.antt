use Rattle.std.proofs.Common.{◌≡◌, true, ap, subst, ◌∙◌}
use Rattle.std.specs.List.{fold}
use Rattle.std.proofs.lemmas.Result.{err_from_is_err_and}
use Rattle.item_tree.specs.{declared.items.ModKind.TheVariants.Inline, Shown.IsModule}
use Rattle.tree_walk.specs.{Inner.Rows.enabled_at, Rows.is_file_enabled}
use Rattle.module_tree.specs.{Inner.dir_view, Inner.entered_in, Inner.id_modules, Inner.mod_item_view, Inner.place_view, Inner.AddsAll, Modules.is_followed, Views.files_of, Views.modules_view}
use Rattle.module_tree.proofs.Limits.{refuses}
use Rattle.module_tree.proofs.ModItems.{entered_splits, file_grows, inline_adds, inline_grows, items_enter, reaches}
use Rattle.module_tree.proofs.walk.+walk.Goals as goal

pub push_file-returns : goal.push_file-returns
push_file-returns t c =
    let ctx = c.args.ctx.now in
    let p = c.args.place.now in
    let inside = c.in_ok-inside.inside in
    let on : true ≡ is_followed ctx.choice (is_file_enabled c.in-Some.tree.now) = cc in
    subst (λ all. AddsAll (modules_view c.push_items.new.found) all c.push_items.result)
    (items_enter ctx.choice (files_of ctx.known) c.args.depth p.module_id (place_view p) (mod_item_view c.args.item.now) c.args.file (dir_view c.args.dir) (modules_view c.args.found.now) c.if-depth-eq0.false
    c.in-Some.tree.now c.in-Some.ensures on c.top_level_items-ids.result.now c.top_level_items-ids.ensures.stand inside.module_id c.in_ok-inside.ensures.id (place_view inside) c.in_ok-inside.ensures.place _ c.in_ok-inside.ensures.added.found)
    c.push_items.ensures

pub push_item-returns-in_ok-inside-in-Inline : goal.push_item-returns-in_ok-inside-in-Inline
push_item-returns-in_ok-inside-in-Inline t c =
    let u = c.args.tree.now in
    let ctx = c.args.ctx.now in
    let files = files_of ctx.known in
    let enter = entered_in ctx c.args.depth in
    let p = c.args.place.now in
    let inside = c.in_ok-inside-in-Inline.inside in
    let a = c.in-Mod.ast_id in
    let name = c.in-Mod.module.now.name in
    let v = c.in-Mod.module.now.visibility in
    let on : true ≡ is_followed ctx.choice (enabled_at u c.args.id) = cc in
    let shown : IsModule u c.args.id a name v (Inline c.in-Inline.items) = subst (IsModule u c.args.id a name v) c.in-Inline.is c.in-Mod.ensures in
    let added = c.in_ok-inside-in-Inline.ensures.added.found in
    let all = inline_adds ctx.choice files enter (entered_splits ctx.choice files c.args.depth) p.module_id (place_view p) (modules_view c.args.found.now) u c.args.id a name v c.in-Inline.items.items shown _ on c.path_of.ensures
    inside.module_id c.in_ok-inside-in-Inline.ensures.id (place_view inside) c.in_ok-inside-in-Inline.ensures.place _ added in
    subst (λ all. AddsAll (modules_view c.push_items.new.found) all c.push_items.result) (ap (fold (id_modules ctx.choice files enter inside.module_id (place_view inside) u) _) c.deref.ensures.value ∙ all) c.push_items.ensures

pub push_file-returns-in_err-inside : goal.push_file-returns-in_err-inside
push_file-returns-in_err-inside t c =
    let ctx = c.args.ctx.now in
    let p = c.args.place.now in
    let on : true ≡ is_followed ctx.choice (is_file_enabled c.in-Some.tree.now) = cc in
    let q = err_from_is_err_and c.from_residual-in_err-inside.result c.from_residual-in_err-inside.ensures.1 in
    let new = modules_view c.push_outline-2.new.found in
    rw (q.1, q.2)
    (refuses new new _ _ c.in_err-inside.field-0.0 c.in_err-inside.ensures.added
    (file_grows ctx.choice (files_of ctx.known) c.args.depth p.module_id (place_view p) (mod_item_view c.args.item.now) c.args.file (dir_view c.args.dir) (modules_view c.args.found.now) c.if-depth-eq0.false c.in-Some.tree.now c.in-Some.ensures on))

pub push_item-returns-in_err-inside-in-Inline : goal.push_item-returns-in_err-inside-in-Inline
push_item-returns-in_err-inside-in-Inline t c =
    let u = c.args.tree.now in
    let ctx = c.args.ctx.now in
    let files = files_of ctx.known in
    let p = c.args.place.now in
    let a = c.in-Mod.ast_id in
    let name = c.in-Mod.module.now.name in
    let v = c.in-Mod.module.now.visibility in
    let on : true ≡ is_followed ctx.choice (enabled_at u c.args.id) = cc in
    let shown : IsModule u c.args.id a name v (Inline c.in-Inline.items) = subst (IsModule u c.args.id a name v) c.in-Inline.is c.in-Mod.ensures in
    let q = err_from_is_err_and c.from_residual.result c.from_residual.ensures.1 in
    let new = modules_view c.push_inline.new.found in
    rw (q.1, q.2)
    (refuses new new _ _ c.in_err-inside-in-Inline.field-0.0 c.in_err-inside-in-Inline.ensures.added
    (inline_grows ctx.choice files (entered_in ctx c.args.depth) (entered_splits ctx.choice files c.args.depth) p.module_id (place_view p) (modules_view c.args.found.now) u c.args.id a name v c.in-Inline.items.items shown _ on c.path_of.ensures))

pub push_items-returns-in_err-push_item : goal.push_items-returns-in_err-push_item
push_items-returns-in_err-push_item t c =
    let ctx = c.args.ctx.now in
    let p = c.args.place.now in
    let q = err_from_is_err_and c.from_residual.result c.from_residual.ensures.1 in
    let new = modules_view c.push_item.new.found in
    rw (q.1, q.2)
    (refuses new new _ _ c.in_err-push_item.field-0.0 c.in_err-push_item.ensures
    (reaches ctx.choice (files_of ctx.known) (entered_in ctx c.args.depth) p.module_id (place_view p) c.args.tree.now c.args.ids.now c.loop-id.id-index (modules_view c.args.found.now) (modules_view c.loop-id.found) c.id-item.result c.loop-id-test.true c.loop-id.invariant.found c.id-item.is))
