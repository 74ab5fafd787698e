-- one more item is read
use Rattle.std.proofs.Common.{string_bytes}
use Rattle.toml.specs.Data.{as_str}
use Rattle.cargo_manifest.specs.Readings.{expecting}
use Rattle.cargo_manifest.specs.declared.error.Expected.TheVariants.{Texts}
use Rattle.cargo_manifest.proofs.Lists.{item_next}
use Rattle.cargo_manifest.proofs.read.texts_of.Goals as goal

pub loop-item-preserved : goal.loop-item-preserved
loop-item-preserved c =
    item_next string_bytes (λ d. expecting Texts (as_str d)) c.deref-item-items.result.now c.loop-item.texts.items c.push.new.self.items c.loop-item.item-index c.item-item.result c.in_ok-text.text
    c.loop-item.invariant c.loop-item-test.true c.item-item.is c.in_ok-text.ensures c.in_ok-push.ensures.items
