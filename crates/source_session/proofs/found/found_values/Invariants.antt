-- the values so far and those of what is left are those of all, and what finds items finds those of a tree of the table
use Rattle.std.proofs.Common.{◌≡◌, ◌++◌, All, IfSome, map, flat_map}
use Rattle.serde_json.specs.View.{view}
use Rattle.source_session.proofs.Common.{IsDeclared, IsFinder, found_one}
use Rattle.source_session.proofs.found.found_values.Given as goal

abbrev pub invariant-loop-entry : goal.invariant-loop-entry
invariant-loop-entry l = record {
  declared : All (IsDeclared l.session.session.table) l.entry-iterator;
  values : map view l.values.items ++ flat_map (found_one l.session.session l.sought) l.entry-iterator ≡ flat_map (found_one l.session.session l.sought) l.entries.keys;
  finder : IfSome l.finder (IsFinder l.session.session);
}
