use Rattle.std.proofs.Common.{rules, ◌≡◌, map, false}
use Rattle.item_tree.proofs.Calling.{may_call_always, calls_gather, calls_leave}
use Rattle.tree_walk.specs.Listed.{listed_import}
use Rattle.tree_walk.proofs.imports.list_imports.Goals as goal

pub expand-requires : goal.expand-requires
expand-requires c = may_call_always _ _ _ _ (λ g x. search rules)

pub returns : goal.returns
returns c =
    let calls = c.in_ok-expand.ensures.called in
    let list = calls_gather _ (λ f. f.0.now ≡ false) (λ f. map listed_import f.1.now.items) _ _ _ (λ k x h s w. search rules) calls in
    let flag = calls_leave _ (λ f. f.0.ghost_name) _ _ _ (λ k x h s. search rules) calls in
    let name = calls_leave _ (λ f. f.1.ghost_name) _ _ _ (λ k x h s. search rules) calls in
    search (rules, list, flag, name)
