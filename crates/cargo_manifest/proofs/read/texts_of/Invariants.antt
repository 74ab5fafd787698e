-- the reading is what was read, and then the reading of what is left
use Rattle.std.proofs.Common.{string_bytes}
use Rattle.toml.specs.Data.{as_str}
use Rattle.cargo_manifest.specs.Readings.{expecting}
use Rattle.cargo_manifest.specs.declared.error.Expected.TheVariants.{Texts}
use Rattle.cargo_manifest.proofs.Lists.{HasReadItems}
use Rattle.cargo_manifest.proofs.read.texts_of.Given as goal

abbrev pub invariant-loop-item : goal.invariant-loop-item
invariant-loop-item l = HasReadItems string_bytes (λ d. expecting Texts (as_str d)) l.item-items l.texts.items l.item-index
