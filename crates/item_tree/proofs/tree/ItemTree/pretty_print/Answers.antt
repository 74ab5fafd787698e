use Rattle.std.proofs.Common.{◌≡◌, ◌++◌, ◌∙◌, ap, sym, subst, length, ◌==◌, not, is_some}
use Rattle.item_tree.proofs.Common.{collection_of, lines_text, top_opening, Gains, blank_between, lent_lines, list_lines, lent_attrs}
use Rattle.item_tree.proofs.Paging.{page_of_ids, gains_three, is_some-map}
use Rattle.item_tree.proofs.tree.ItemTree.pretty_print.Goals as goal

pub returns : goal.returns
returns c =
    let reserved = c.args.edition.now.reserved.items in
    let u = c.args.self.now in
    let ids = c.top_level_items-ids.result.now in
    let lent = lent_attrs u.top_attrs in
    let attrs = subst (λ o. Gains c.new-out.result c.push_attrs.new.out (lent_lines reserved top_opening 0 o)) c.top_level_attrs-attrs.ensures c.in_ok-push_attrs.ensures in
    let some : c.is_some.result ≡ is_some lent = c.is_some.ensures ∙ sym (is_some-map (λ a. collection_of a.now) c.top_level_attrs-attrs.result) ∙ ap is_some c.top_level_attrs-attrs.ensures in
    let between = subst (λ b. Gains c.push_attrs.new.out c.push_gap.new.out (blank_between b (not (length ids == 0)))) some (subst (λ b. Gains c.push_attrs.new.out c.push_gap.new.out (blank_between c.is_some.result (not b))) c.is_empty.ensures c.in_ok-push_gap.ensures) in
    let whole = gains_three c.new-out.result c.push_attrs.new.out c.push_gap.new.out c.push_items.new.out (lent_lines reserved top_opening 0 lent) (blank_between (is_some lent) (not (length ids == 0))) (list_lines reserved u 0 ids) attrs between c.in_ok-push_items.ensures in
    whole ∙ ap (λ bytes. bytes ++ lines_text (lent_lines reserved top_opening 0 lent ++ (blank_between (is_some lent) (not (length ids == 0)) ++ list_lines reserved u 0 ids))) c.new-out.ensures.bytes ∙ ap lines_text (sym (page_of_ids reserved u ids c.top_level_items-ids.ensures.stand))
