use Rattle.std.proofs.Common.{◌≡◌, ◌≤◌, length, true, subst, ◌∙◌, arith}
use Rattle.std.proofs.lemmas.Result.{err_from_is_err_and}
use Rattle.tree_walk.specs.Rows.{is_file_enabled}
use Rattle.module_tree.specs.declared.data.ModuleTree.{ModuleTree}
use Rattle.module_tree.specs.{Inner.place_view, Modules.FoundModules, Modules.crate_modules, Modules.is_followed, Views.files_of, Views.modules_view}
use Rattle.module_tree.proofs.Limits.{refuses}
use Rattle.module_tree.proofs.ModItems.{items_in_root}
use Rattle.module_tree.proofs.walk.module_tree.Goals as goal

no_fewer : (all whole : FoundModules) → all ≡ whole → length all.modules ≤ length whole.modules
no_fewer all whole e = subst (λ (w : FoundModules). length all.modules ≤ length w.modules) e (omega arith)

pub returns-clause-found : goal.returns-clause-found
returns-clause-found c =
    let on : true ≡ is_followed c.args.choice (is_file_enabled c.in-Some.tree.now) = cc in
    let place = c.in_ok-place.place in
    c.in_ok-push_items.ensures.found
    ∙ items_in_root c.args.choice (files_of c.args.known.now) c.args.root c.args.path.now c.in-Some.tree.now c.in-Some.ensures on c.top_level_items-ids.result.now c.top_level_items-ids.ensures.stand
    place.module_id c.in_ok-place.ensures.id (place_view place) c.in_ok-place.ensures.place (modules_view c.in_ok-found.found) c.in_ok-found.ensures

pub returns-in_err-push_items-clause-many : goal.returns-in_err-push_items-clause-many
returns-in_err-push_items-clause-many c =
    let on : true ≡ is_followed c.args.choice (is_file_enabled c.in-Some.tree.now) = cc in
    let place = c.in_ok-place.place in
    let files = files_of c.args.known.now in
    let p = err_from_is_err_and c.from_residual-in_err-push_items.result c.from_residual-in_err-push_items.ensures.1 in
    let new = modules_view c.push_items.new.found in
    let all =
    items_in_root c.args.choice files c.args.root c.args.path.now c.in-Some.tree.now c.in-Some.ensures on c.top_level_items-ids.result.now c.top_level_items-ids.ensures.stand
    place.module_id c.in_ok-place.ensures.id (place_view place) c.in_ok-place.ensures.place (modules_view c.in_ok-found.found) c.in_ok-found.ensures in
    rw (p.1, p.2)
    (refuses {B = ModuleTree} new new _ (crate_modules c.args.choice files c.args.root c.args.path.now) c.in_err-push_items.field-0.0 c.in_err-push_items.ensures (no_fewer _ _ all)).many
