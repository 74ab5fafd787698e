use Rattle.std.proofs.Common.{All, decimal, rules, sym, subst}
use Rattle.source_session.proofs.Common.{All-push, read_next, text_edit_view, line_edit, IsUsable}
use Rattle.source_session.proofs.line.edits_of.Goals as goal

pub loop-item-preserved : goal.loop-item-preserved
loop-item-preserved c =
    let usable : IsUsable c.args.count c.in_ok-read.read = search rules in
    let pushed = c.in_ok-push.ensures.items in (
      read_next text_edit_view (line_edit c.args.count) _ _ _ _ _ _ _ (decimal c.len-place.result) _ c.loop-item.invariant.0 c.in-Some.ensures.steps.0 c.edit_of.ensures.reads c.in_ok-read.ensures pushed,
      subst (All (IsUsable c.args.count)) (sym pushed) (All-push (IsUsable c.args.count) _ _ c.loop-item.invariant.1 usable),
    )
