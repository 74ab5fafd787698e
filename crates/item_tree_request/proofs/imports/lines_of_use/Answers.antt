use Rattle.std.proofs.Common.{◌≡◌, false, rules, string_bytes}
use Rattle.item_tree.proofs.Calling.{may_call_always, calls_add, calls_leave}
use Rattle.item_tree_request.proofs.Common.{import_line, use_lines}
use Rattle.item_tree_request.proofs.imports.lines_of_use.Goals as goal

pub expand-requires : goal.expand-requires
expand-requires c = may_call_always _ _ _ _ (λ g x. search rules)

pub returns : goal.returns
unfolding use_lines
returns c =
    let reserved = c.args.edition.now.reserved.items in
    let calls = c.in_ok-expand.ensures.called in
    let edition = calls_leave _ (λ f. f.2) _ _ _ (λ k x h s. search rules) calls in
    let text = calls_add _ (λ f. (f.0.now ≡ false) × (f.2 ≡ c.args.edition)) (λ f. string_bytes f.1.now) (import_line reserved) _ _ _ (λ k x h s w. let e = w.1 in let there : k.2 ≡ c.args.edition = search (rules, e) in search (rules, w.0, there)) calls in
    let flag = calls_leave _ (λ f. f.0.ghost_name) _ _ _ (λ k x h s. search rules) calls in
    let name = calls_leave _ (λ f. f.1.ghost_name) _ _ _ (λ k x h s. search rules) calls in
    search (rules, text, edition, flag, name)
