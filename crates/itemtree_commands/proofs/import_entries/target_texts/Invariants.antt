use Rattle.std.proofs.Common.{◌≡◌, map, take, string_bytes}
use Rattle.itemtree_commands.specs.ImportTargets.{target_text}
use Rattle.itemtree_commands.specs.Inner.{target_view}
use Rattle.itemtree_commands.proofs.import_entries.target_texts.Given as goal

abbrev pub invariant-loop-target : goal.invariant-loop-target
invariant-loop-target l = map string_bytes l.texts.items ≡ map target_text (map target_view (take l.target-index l.fn.targets))
