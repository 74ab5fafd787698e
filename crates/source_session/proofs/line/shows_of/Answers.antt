use Rattle.std.proofs.Common.{All, decimal, rules, sym, ap, subst, ◌∙◌, length}
use Rattle.std.proofs.lemmas.List.{map-id}
use Rattle.serde_json.specs.View.{items_view}
use Rattle.source_session.proofs.Common.{All-push, each_from, joined, read_next, line_show, ShowNamesCrate}
use Rattle.source_session.proofs.line.shows_of.Goals as goal

pub loop-item-preserved : goal.loop-item-preserved
loop-item-preserved c =
    let known : ShowNamesCrate c.args.count c.in_ok-read.read = search rules in
    let pushed = c.in_ok-push.ensures.items in
    let was = c.loop-item.invariant.0 ∙ ap (λ xs. joined xs (each_from (length c.loop-item.done.items) (line_show c.args.count) (items_view c.loop-item.item-iterator.rest.items))) (sym (map-id c.loop-item.done.items)) in
    let next =
    read_next (λ v. v) (line_show c.args.count) _ _ _ _ _ _ _ (decimal c.len-place.result) _ was c.in-Some.ensures.steps.0 c.show_of.ensures.reads c.in_ok-read.ensures pushed in (
      next ∙ ap (λ xs. joined xs (each_from (length c.push.new.self.items) (line_show c.args.count) (items_view c.next.new.self.rest.items))) (map-id c.push.new.self.items),
      subst (All (ShowNamesCrate c.args.count)) (sym pushed) (All-push (ShowNamesCrate c.args.count) _ _ c.loop-item.invariant.1 known),
    )
