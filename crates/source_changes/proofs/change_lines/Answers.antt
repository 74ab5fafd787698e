use Rattle.std.proofs.Common.{ap, map, string_bytes}
use Rattle.source_changes.specs.Views.{part_view}
use Rattle.source_rows.specs.Views.{source_view}
use Rattle.source_changes.proofs.Joining.{lines_compared}
use Rattle.source_changes.proofs.change_lines.Goals as goal

pub returns : goal.returns
returns c =
    lines_compared c.args.edition c.args.has_docs c.args.form (source_view c.args.old) (source_view c.args.new) (string_bytes c.in_ok-text.text)
    (map part_view c.in_ok-before.before.items) (map part_view c.in_ok-after.after.items) (map part_view c.deref.result.now) (map part_view c.deref-2.result.now)
    c.in_ok-before.ensures c.in_ok-after.ensures (ap (map part_view) c.deref.ensures.value) (ap (map part_view) c.deref-2.ensures.value) c.in_ok-text.ensures
