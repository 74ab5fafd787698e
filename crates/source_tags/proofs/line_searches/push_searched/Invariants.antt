use Rattle.source_tags.proofs.Common.{◌≡◌, ◌++◌, string_bytes, flat_map}
use Rattle.source_tags.specs.LineSearches.{searched_char}
use Rattle.source_tags.proofs.line_searches.push_searched.Given as goal

abbrev pub invariant-loop-c : goal.invariant-loop-c
invariant-loop-c l = string_bytes l.out ≡ string_bytes l.fn.out ++ flat_map searched_char l.yielded
