use Rattle.std.proofs.Common.{ap, map}
use Rattle.source_changes.specs.Views.{part_view}
use Rattle.source_rows.specs.Views.{source_view}
use Rattle.source_changes.proofs.Joining.{compared}
use Rattle.source_changes.proofs.compare.Goals as goal

pub returns : goal.returns
returns c =
    compared c.args.edition c.args.has_docs c.args.form (source_view c.args.old) (source_view c.args.new) (record { text = c.in_ok-text.text; is_same = c.in_ok-is_same.is_same })
    (map part_view c.in_ok-olds.olds.items) (map part_view c.in_ok-news.news.items)
    (map part_view c.deref.result.now) (map part_view c.deref-2.result.now) (map part_view c.deref-3.result.now) (map part_view c.deref-4.result.now)
    c.in_ok-olds.ensures c.in_ok-news.ensures
    (ap (map part_view) c.deref.ensures.value) (ap (map part_view) c.deref-2.ensures.value) (ap (map part_view) c.deref-3.ensures.value) (ap (map part_view) c.deref-4.ensures.value)
    c.in_ok-is_same.ensures c.in_ok-text.ensures
