use Rattle.std.proofs.Common.{◌≡◌, ◌∷◌, All, length, map, rules, sym, ap, ◌∙◌, subst}
use Rattle.item_tree_request.proofs.Common.{All-push, edit_view, right, each_from, joined, joined_next, edit, EditNamesCrate}
use Rattle.serde_json.specs.View.{items_view, view}
use Rattle.item_tree_request.proofs.request.edit.edits_of.Goals as goal

pub loop-item-preserved : goal.loop-item-preserved
loop-item-preserved c =
    let count = c.args.count in
    let form = edit count in
    let done = c.loop-item.edits.items in
    let made = c.in_ok-read.read in
    let rest = c.next.new.self.rest.items in
    let step : c.loop-item.item-iterator.rest.items ≡ c.in-Some.item ∷ rest = search rules in
    let read : form (view c.in-Some.item) ≡ right (edit_view made) = search rules in
    let known : EditNamesCrate count made = search rules in
    let pushed = c.in_ok-push.ensures.items in
    let reading =
    c.loop-item.invariant.0
    ∙ ap (λ vs. joined (map edit_view done) (each_from (length done) form (items_view vs))) step
    ∙ joined_next edit_view form done made (view c.in-Some.item) (items_view rest) read
    ∙ ap (λ es. joined (map edit_view es) (each_from (length es) form (items_view rest))) (sym pushed) in
    (reading, subst (All (EditNamesCrate count)) (sym pushed) (All-push (EditNamesCrate count) done made c.loop-item.invariant.1 known))
