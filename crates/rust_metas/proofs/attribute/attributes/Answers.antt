use Rattle.std.proofs.Common.{map, sym, ap, ◌∙◌, option_map, option_to_list}
use Rattle.rust_cursor.proofs.PushedLists.{pushed_view}
use Rattle.rust_metas.proofs.Common.{meta_view, one, sees, turns_more, is_behind, attribute, attributes, kept_by}
use Rattle.rust_metas.proofs.KeptMetas.{attributes_kept}
use Rattle.rust_metas.proofs.attribute.attributes.Goals as goal

pub loop-turn-init : goal.loop-turn-init
loop-turn-init c =
    attributes_kept c.args.wanted c.args.style c.args.cursor.now c.most_turns-most.result (map meta_view c.new-metas.result.items) c.most_turns-most.ensures (ap (map meta_view) c.new-metas.ensures.items)

pub loop-turn-preserved : goal.loop-turn-preserved
loop-turn-preserved c =
    turns_more (sees (is_behind c.args.style)) (kept_by c.args.wanted (one (attribute c.args.style))) c.most_turns-most.result c.loop-turn._turn c.last_end-past.result (map meta_view c.loop-turn.metas.items) (map meta_view c.push_some.new.list.items)
    (option_to_list (option_map meta_view c.in_ok-meta.meta)) c.loop-turn.cursor c.kept_attribute.new.cursor c.pass_beyond.new.self (kept_by c.args.wanted (attributes c.args.style) c.args.cursor.now)
    c.loop-turn-test.true (sym c.is_behind.ensures ∙ c.if-is_behind.false) c.in_ok-meta.ensures c.last_end-past.ensures c.pass_beyond.ensures (pushed_view meta_view _ _ _ c.in_ok-push_some.ensures) c.loop-turn.invariant
