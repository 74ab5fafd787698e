use Rattle.std.proofs.Common.{map}
use Rattle.source_changes.specs.Views.{part_view}
use Rattle.source_changes.proofs.Joining.{are_parts}
use Rattle.source_changes.proofs.parts_of.Goals as goal

pub returns : goal.returns
returns c = are_parts c.args.edition c.args.text.now c.in_ok-file.file c.deref.result.now (map part_view c.in_ok-parts.parts.items) c.in_ok-file.ensures.file c.deref.ensures.value c.in_ok-parts.ensures
