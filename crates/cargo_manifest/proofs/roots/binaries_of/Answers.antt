-- one more item is read
use Rattle.cargo_manifest.specs.Roots.{binary_value}
use Rattle.cargo_manifest.specs.Views.{root_view}
use Rattle.cargo_manifest.proofs.Lists.{item_next}
use Rattle.cargo_manifest.proofs.roots.binaries_of.Goals as goal

pub loop-item-preserved : goal.loop-item-preserved
loop-item-preserved c =
    item_next root_view (binary_value c.args.package_name.now) c.deref-item-items.result.now c.loop-item.found.items c.push.new.self.items c.loop-item.item-index c.item-item.result c.in_ok-root.root
    c.loop-item.invariant c.loop-item-test.true c.item-item.is c.in_ok-root.ensures c.in_ok-push.ensures.items
