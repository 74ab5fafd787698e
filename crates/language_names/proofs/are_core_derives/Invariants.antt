use Rattle.std.proofs.Common.{◌≡◌, ◌≤◌, [], drop}
use Rattle.language_names.specs.LanguageNames as spec
use Rattle.language_names.proofs.Derives.{part}
use Rattle.language_names.proofs.are_core_derives.Given as goal

abbrev pub invariant-loop-at : goal.invariant-loop-at
invariant-loop-at l = record {
  begun : l.start ≤ l.at;
  left : spec.are_core_derives (part l.text l.start l.at) (drop l.at l.text) ≡ spec.are_core_derives [] l.text;
}
