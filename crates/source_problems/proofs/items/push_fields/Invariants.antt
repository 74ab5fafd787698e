-- what is wrong with all is what was added, and behind it that of those that are left
use Rattle.std.proofs.Common.{◌≡◌, ◌++◌, map, drop}
use Rattle.source_problems.specs.Items.{fields_problems}
use Rattle.source_problems.proofs.items.push_fields.Given as goal

abbrev pub invariant-loop-field : goal.invariant-loop-field
invariant-loop-field l = record {
  at : l.found.at ≡ l.fn.found.at;
  problems : l.found.problems.items ++ fields_problems l.fn.found.at (map (λ f. f.visibility) (drop l.field-index l.fields))
      ≡ l.fn.found.problems.items ++ fields_problems l.fn.found.at (map (λ f. f.visibility) l.fields);
}
