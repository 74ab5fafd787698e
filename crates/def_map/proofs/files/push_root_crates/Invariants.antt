use Rattle.std.proofs.Common.{map, take}
use Rattle.def_map.specs.{Inner.Walking.AddsRows, Tables.root_crate}
use Rattle.def_map.proofs.files.push_root_crates.Given as goal

abbrev pub invariant-loop-name : goal.invariant-loop-name
invariant-loop-name l = AddsRows l.fn.rows.items l.rows.items (map root_crate (take l.name-index l.names))
