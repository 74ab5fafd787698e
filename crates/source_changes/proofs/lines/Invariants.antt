use Rattle.std.proofs.Common.{◌≡◌, map, take, string_bytes}
use Rattle.source_changes.specs.ChangeViews.{row_change_view}
use Rattle.source_changes.specs.Changes.{row_texts}
use Rattle.source_changes.specs.Views.{lined_view}
use Rattle.source_rows.specs.Views.{source_view}
use Rattle.source_changes.proofs.lines.Given as goal

abbrev pub invariant-loop-change : goal.invariant-loop-change
invariant-loop-change l = record {
  text : string_bytes l.out ≡ row_texts l.form (source_view l.old) (source_view l.new) (map row_change_view (take l.change-index l.changes));
  olds : lined_view l.olds ≡ source_view l.old;
  news : lined_view l.news ≡ source_view l.new;
}
