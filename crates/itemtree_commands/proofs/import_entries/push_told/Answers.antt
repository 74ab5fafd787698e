use Rattle.std.proofs.Common.{ap, ◌∙◌}
use Rattle.serde_json.specs.Written.{has_float}
use Rattle.itemtree_commands.specs.Inner.{told_import_view}
use Rattle.itemtree_commands.proofs.NoFloats.{import_none}
use Rattle.itemtree_commands.proofs.import_entries.push_told.Goals as goal

pub value_line-requires : goal.value_line-requires
value_line-requires c = ap has_float c.in_ok-value-in-Json.ensures ∙ import_none (told_import_view c.args.told.now)
