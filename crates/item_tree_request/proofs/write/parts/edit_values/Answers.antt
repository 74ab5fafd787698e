-- one more, and the last
use Rattle.std.proofs.Common.{rules, ap, ◌∙◌, ◌+◌, sym, map, drop}
use Rattle.serde_json.specs.View.{view}
use Rattle.item_tree_request.proofs.Writing.Common.{syntax_view, joined_items, edits_data}
use Rattle.item_tree_request.proofs.Writing.EditLists.{edit_more, edits_done}
use Rattle.item_tree_request.proofs.write.parts.edit_values.Goals as goal

pub loop-i-preserved : goal.loop-i-preserved
loop-i-preserved c =
    edit_more c.args.bodies _ c.args.files.now c.loop-i.i c.index-files-i.result c.loop-i.values.items c.in_ok-edit_value.field-0
    (search rules) c.loop-i.invariant (search rules)
    ∙ ap (λ vs. joined_items (map view vs) (edits_data c.args.bodies (c.loop-i.i + 1) (map syntax_view (drop (c.loop-i.i + 1) c.args.files.now)))) (sym c.in_ok-push.ensures.items)

pub returns : goal.returns
returns c = edits_done c.args.bodies _ c.args.files.now c.loop-i.i c.loop-i.values.items (search rules) c.loop-i.invariant
