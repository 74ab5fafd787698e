use Rattle.std.proofs.Common.{sym, ◌∙◌}
use Rattle.line_index.specs.declared.Units.TheVariants.{Characters}
use Rattle.line_index.specs.Positions.{position_in}
use Rattle.source_rows.specs.Places.{stands_at}
use Rattle.itemtree_commands.proofs.ItemsFound.{put_key}
use Rattle.itemtree_commands.proofs.declarations.put_item.Goals as goal

pub returns-clause-put : goal.returns-clause-put
returns-clause-put c =
    let at = c.stands_at.ensures in
    let position = c.position.ensures.value ∙ (λ i. position_in Characters (c.requires i) (at i)) in
    put_key c.args.text.now c.args.items.now c.insert.new.self c.args.place _ _ c.id_key-key.ensures (λ i. record { position = position i; name = c.name_at.ensures i }) (sym c.contains_key.ensures ∙ c.if-contains_key.false) c.in_ok-insert.ensures.updates.0
