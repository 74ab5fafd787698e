use Rattle.std.proofs.Common.{◌==◌, ◌∙◌, ap, length, map}
use Rattle.source_changes.specs.Views.{part_view}
use Rattle.source_rows.specs.Views.{source_view}
use Rattle.source_changes.proofs.Joining.{in_public}
use Rattle.source_changes.proofs.compare_public.Goals as goal

pub returns : goal.returns
returns c =
    in_public c.args.edition c.args.has_docs c.args.form (source_view c.args.old) (source_view c.args.new) (record { text = c.in_ok-text.text; is_same = c.is_empty-is_empty.result })
    (map part_view c.in_ok-old_parts.old_parts.items) (map part_view c.in_ok-new_parts.new_parts.items) (map part_view c.deref.result.now) (map part_view c.deref-2.result.now)
    c.in_ok-old_parts.ensures c.in_ok-new_parts.ensures (ap (map part_view) c.deref.ensures.value) (ap (map part_view) c.deref-2.ensures.value)
    c.in_ok-text.ensures (c.is_empty-is_empty.ensures ∙ ap (λ t. length t == 0) c.as_str.ensures.value)
