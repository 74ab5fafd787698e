use Rattle.source_imports.proofs.Common.{◌≡◌, [], map, take, FindsFirsts, import_choice_view, listed_named_view}
use Rattle.source_imports.specs.Repeated as spec
use Rattle.source_imports.specs.Views.{repeated_import_view}
use Rattle.source_imports.proofs.repeated.repeats_of.Given as goal

abbrev pub invariant-loop-import : goal.invariant-loop-import
invariant-loop-import l = record {
  found : map repeated_import_view l.found.items ≡ spec.repeats (import_choice_view l.choice) [] (map listed_named_view (take l.import-index l.imports));
  before : map (λ b. listed_named_view b.now) l.before.items ≡ map listed_named_view (take l.import-index l.imports);
  firsts : FindsFirsts l.firsts (map listed_named_view (take l.import-index l.imports));
}
