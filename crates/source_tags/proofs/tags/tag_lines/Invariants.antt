use Rattle.source_tags.proofs.Common.{◌≡◌, map, take, string_bytes, flat_map, row_view, source_view, IsTaggerOf}
use Rattle.source_tags.specs.Tags as spec
use Rattle.source_tags.specs.Views.{tag_choice_view}
use Rattle.source_tags.proofs.tags.tag_lines.Given as goal

abbrev pub invariant-loop-row : goal.invariant-loop-row
invariant-loop-row l = let f = spec.tag_file (source_view l.fn.source) l.fn.form in record {
  tags : string_bytes l.out ≡ flat_map (spec.whole_tags f (tag_choice_view l.fn.asked) l.fn.places) (map row_view (take l.row-index l.row-items));
  is : IsTaggerOf f l.fn.places l.tagger;
}
