use Rattle.std.proofs.Common.{◌≤◌, length, map, rules, arith, subst, sym}
use Rattle.item_tree_request.proofs.Common.{AllByRecursion, length-map, edit_view, last_number, NamesKnown, FirstFit, IsMade, IsUnmade, refusal_of}
use Rattle.item_tree_request.proofs.EditOutcomes.{is_made, is_unmade, found_in_map}
use Rattle.item_tree_request.proofs.Outputs.{edits_known}
use Rattle.item_tree_request.proofs.answer.sources_of.Goals as goal

pub returns-in-Ok : goal.returns-in-Ok
returns-in-Ok c =
    let edits = map edit_view c.args.edits.items in
    let number = c.in-Ok.ensures.number in
    let small : c.in-Ok.field-0 ≤ last_number = search rules in
    let fit : FirstFit c.new-sources.result edits (length edits) = subst (FirstFit c.new-sources.result edits) (sym (length-map c.args.edits.items edit_view)) c.in-Ok.ensures.fits in
    let made = is_made c.new-sources.result c.edit_all.new.self edits c.in-Ok.ensures.ok (omega (arith, small, number)) fit in
    subst (λ s. IsMade s edits c.edit_all.new.self) c.new-sources.ensures made

pub returns-in-Err : goal.returns-in-Err
returns-in-Err c =
    let edits = map edit_view c.args.edits.items in
    let refused = c.in-Err.ensures in
    let all = c.in-Err.field-0 in
    let found = found_in_map edit_view c.args.edits.items all.place all.refused.edit refused.place in
    let unmade = is_unmade c.new-sources.result c.edit_all.new.self edits all.place (edit_view all.refused.edit) all.refused.cause found refused.refused refused.in_range refused.fits_before refused.cause refused.full in
    let told = subst (λ s. IsUnmade s edits (refusal_of all.place all.refused.cause)) c.new-sources.ensures unmade in
    rw c.refusal.ensures told

pub edit_all-requires : goal.edit_all-requires
edit_all-requires c = subst (λ s. AllByRecursion (NamesKnown s) (map edit_view c.args.edits.items)) (sym c.new-sources.ensures) (edits_known c.args.crates.items c.args.skipped.items c.args.start c.args.edits.items c.requires)
