use Rattle.std.proofs.Common.{map, sym, ap, ◌∙◌, is_ok}
use Rattle.std.proofs.ResultArms.{chosen}
use Rattle.std.proofs.lemmas.List.{map-append}
use Rattle.rust_cursor.proofs.Turns.{turns_one}
use Rattle.rust_leaves.proofs.Common.{header_field, are_over, fields, field_view}
use Rattle.rust_leaves.proofs.structs.fields.Goals as goal

pub loop-turn-preserved : goal.loop-turn-preserved
loop-turn-preserved c =
    let pushed = chosen _ _ _ _ c.push.ensures.items (ap is_ok c.in_ok-push.was) in
    turns_one (are_over c.args.end) (header_field c.args.end) c.most_turns-most.result c.loop-turn._turn c.last_end-past.result (map field_view c.loop-turn.fields.items) (map field_view c.push.new.self.items)
    (field_view c.in_ok-field.field) c.loop-turn.cursor c.field.new.cursor c.pass_beyond.new.self (fields c.args.end c.args.cursor.now)
    c.loop-turn-test.true (sym c.are_over.ensures ∙ c.if-are_over.false) c.in_ok-field.ensures c.last_end-past.ensures c.pass_beyond.ensures
    (ap (map field_view) pushed ∙ map-append field_view c.loop-turn.fields.items _)
    c.loop-turn.invariant
